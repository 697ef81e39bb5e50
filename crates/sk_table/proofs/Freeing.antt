-- The numbers that the rows use.
use Rattle.std.proofs.Common.{◌≡◌, ◌∙◌, ℕ, ap, sym, refl, Bool, true, false, cond, ◌||◌, List, [], ◌∷◌, None, Some, nat_cmp, is_eq}
use Rattle.sk_table.proofs.Common.{list_any, Less, Equal, Greater, find, put, by_order, Proc, has_number, Row, processes_of, Distinct, row_has_number}
use Rattle.sk_table.proofs.Keeping.{get_rows}

later : (a b r : Bool) → (b || (a || r)) ≡ (a || (b || r))
later true true r = refl
later true false r = refl
later false true r = refl
later false false r = refl

any_put : (f : ℕ × Proc → Bool) (k : ℕ) (p : Proc) (es : List (ℕ × Proc)) → find nat_cmp k es ≡ None → list_any f (put nat_cmp k p es) ≡ (f (k, p) || list_any f es)
any_put f k p [] e = refl
any_put f k p (entry ∷ es) e =
    elim (nat_cmp k entry.0) as (λ o. cond (is_eq o) (Some entry.1) (find nat_cmp k es) ≡ None → list_any f (by_order o ((k, p) ∷ entry ∷ es) ((entry.0, p) ∷ es) (entry ∷ put nat_cmp k p es)) ≡ (f (k, p) || (f entry || list_any f es))) [
      | Less ↦ λ _. refl
      | Equal ↦ λ found. cc
      | Greater ↦ λ rest. ap (λ b. f entry || b) (any_put f k p es rest) ∙ later (f (k, p)) (f entry) (list_any f es)
    ] e

pub used_rows : (n : ℕ) (rows : List Row) → Distinct rows → list_any (row_has_number n) rows ≡ list_any (has_number n) (processes_of rows).entries
used_rows n [] h = refl
used_rows n (row ∷ rows) h =
    ap (λ b. row_has_number n row || b) (used_rows n rows h.1)
    ∙ sym (any_put (has_number n) row.pid row.proc (processes_of rows).entries (get_rows row.pid rows ∙ h.0))
