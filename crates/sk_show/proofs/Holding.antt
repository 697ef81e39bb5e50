-- What holds of each element, and of one more.
use Rattle.std.proofs.Common.{◌≡◌, ℕ, zero, suc, ◌+◌, ◌≤◌, ◌<◌, List, [], ◌∷◌, ◌++◌, map, arith, ap, ◌∙◌, append_assoc, sym, subst}
use Rattle.std.specs.List.{All}
use Rattle.std.proofs.lemmas.List.{map-append}
use Rattle.std.proofs.lemmas.List.Elements.{All-append}
use Rattle.sk_insn.specs.declared.insn.Insn.{Insn}
use Rattle.sk_survey.specs.declared.rows.Row.{Row}
use Rattle.sk_survey.specs.Surveys.{Holds, Tell}
use Rattle.sk_show.specs.declared.survey_line.Line.{Line}
use Rattle.sk_show.specs.Lines.{row_of}

one_holds : {X : Type 0} (P : X → Type 0) (x : X) → P x → All P (x ∷ [])
one_holds P x h zero d less = h
one_holds P x h (suc k) d less = absurd (omega arith)

pub one_more_holds : {X : Type 0} (P : X → Type 0) (xs : List X) (x : X) → All P xs → P x → All P (xs ++ x ∷ [])
one_more_holds P xs x all h = All-append P xs (x ∷ []) all (one_holds P x h)

-- with one line more behind them
pub still_hold : (P : Line → Type 0) (lines next : List Line) (line : Line) → next ≡ lines ++ line ∷ [] → All P lines → P line → All P next
still_hold P lines next line is all h = subst (All P) (sym is) (one_more_holds P lines line all h)

pub one_line_more : (lines next : List Line) (line : Line) (row : Row) (left rest all : List Row) → next ≡ lines ++ line ∷ [] → line.row ≡ row → left ≡ row ∷ rest → map row_of lines ++ left ≡ all → map row_of next ++ rest ≡ all
one_line_more lines next line row left rest all is same steps so_far =
    ap (λ xs. map row_of xs ++ rest) is
    ∙ ap (λ xs. xs ++ rest) (map-append row_of lines (line ∷ []))
    ∙ append_assoc (map row_of lines) (line.row ∷ []) rest
    ∙ ap (λ r. map row_of lines ++ (r ∷ rest)) same
    ∙ ap (λ xs. map row_of lines ++ xs) (sym steps)
    ∙ so_far

-- what holds of each row between two numbers holds of those that tell them
pub each_row : (P : Row → Type 0) (programs : List (List Insn)) (from end : ℕ) (rows : List Row) → Tell programs from end rows
    → ((row : Row) → from ≤ row.first → row.first ≤ row.last → row.last < end → Holds programs row → P row) → All P rows
each_row P programs from end [] told h k d less = absurd (omega (arith, less))
each_row P programs from end (row ∷ rows) told h zero d less = h row (omega (arith, told.0)) told.1 told.2 told.3
each_row P programs from end (row ∷ rows) told h (suc k) d less =
    each_row P programs (row.last + 1) end rows told.4 (λ it above. h it (omega (arith, above, told.0, told.1))) k d (omega (arith, less))

pub rest_holds : (P : Row → Type 0) (left rest : List Row) (row : Row) → left ≡ row ∷ rest → All P left → All P rest
rest_holds P left rest row steps all k d less = (subst (All P) steps all) (suc k) d (omega (arith, less))

pub first_holds : (P : Row → Type 0) (left rest : List Row) (row : Row) → left ≡ row ∷ rest → All P left → P row
first_holds P left rest row steps all = (subst (All P) steps all) zero row (omega arith)
