-- Rows that are told one after the other.
use Rattle.std.proofs.Common.{◌≡◌, List, [], ◌∷◌, ◌++◌, map, ap, ◌∙◌, append_assoc, sym, subst}
use Rattle.std.specs.List.{All}
use Rattle.std.proofs.lemmas.List.{map-append}
use Rattle.sk_survey.specs.declared.rows.Row.{Row}
use Rattle.sk_show.proofs.Holding.{one_more_holds}
use Rattle.sk_when.specs.declared.row.ConditionalRow.{ConditionalRow}
use Rattle.sk_when.specs.Telling.{row_told}

pub one_row_more : (rows next : List ConditionalRow) (told : ConditionalRow) (row : Row) (left rest all : List Row) → next ≡ rows ++ told ∷ [] → told.row ≡ row
    → left ≡ row ∷ rest → map row_told rows ++ left ≡ all → map row_told next ++ rest ≡ all
one_row_more rows next told row left rest all is same steps so_far =
    ap (λ xs. map row_told xs ++ rest) is
    ∙ ap (λ xs. xs ++ rest) (map-append row_told rows (told ∷ []))
    ∙ append_assoc (map row_told rows) (told.row ∷ []) rest
    ∙ ap (λ r. map row_told rows ++ (r ∷ rest)) same
    ∙ ap (λ xs. map row_told rows ++ xs) (sym steps)
    ∙ so_far

pub still_told : (P : ConditionalRow → Type 0) (rows next : List ConditionalRow) (told : ConditionalRow) → next ≡ rows ++ told ∷ [] → All P rows → P told → All P next
still_told P rows next told is all h = subst (All P) (sym is) (one_more_holds P rows told all h)
