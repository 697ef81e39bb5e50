-- One row, and one row more; one argument more that is not shown.
use Rattle.std.proofs.Common.{◌≡◌, ◌<◌, ◌≤◌, ◌+◌, ◌-◌, ◌∙◌, ap, arith, sym, refl, subst, ℕ, zero, suc, List, [], ◌∷◌, ◌++◌, append_assoc, length, map, flat_map, take, slice_index_or, ◌==◌, not, Bool, true, false, inl, inr, IfOk, Result, Ok, Err}
use Rattle.std.specs.List.{range_with_len}
use Rattle.std.specs.Global.{Vec}
use Rattle.std.specs.Vec.{vec_len}
use Rattle.std.proofs.lemmas.Bool.{cases_lt, eqb-true, eqb-false}
use Rattle.std.proofs.lemmas.List.{map-append, take_more}
use Rattle.sk_replay.specs.declared.call.Call.{Call}
use Rattle.sk_terms.specs.declared.choices.Choice.{Choice}
use Rattle.sk_when.specs.declared.row.ConditionalRow.{ConditionalRow}
use Rattle.sk_policy_when.specs.Narrowing.{Allowed, AreAllowedRows, Condition, IsAllowedRow, IsNarrowedRow, IsPlainRow, IsRowFor, allowed_row, allowed_rows, is_wide_of, terms_in, terms_of, unshown_at}

rows_more : (its : List Allowed) (rows : List ConditionalRow) (it : Allowed) (told : ConditionalRow) → AreAllowedRows its rows → IsAllowedRow it told → AreAllowedRows (its ++ it ∷ []) (rows ++ told ∷ [])
rows_more [] [] it told are is = (is, tt)
rows_more [] (other ∷ rows) it told are is = absurd are
rows_more (first ∷ its) [] it told are is = absurd are
rows_more (first ∷ its) (other ∷ rows) it told are is = (are.0, rows_more its rows it told are.1 is)

-- the row of the number at a place
pub row_added : (numbers narrowed : List ℕ) (calls : List Call) (index d : ℕ) (rows : List ConditionalRow) (told : ConditionalRow) → index < length numbers
    → AreAllowedRows (allowed_rows (take index numbers) narrowed calls) rows → IsAllowedRow (allowed_row narrowed calls (slice_index_or numbers index d)) told
    → AreAllowedRows (allowed_rows (take (index + 1) numbers) narrowed calls) (rows ++ told ∷ [])
row_added numbers narrowed calls index d rows told inside are is =
    subst (λ (its : List Allowed). AreAllowedRows its (rows ++ told ∷ []))
    (sym (ap (map (allowed_row narrowed calls)) (take_more numbers index d inside) ∙ map-append (allowed_row narrowed calls) (take index numbers) (slice_index_or numbers index d ∷ [])))
    (rows_more (allowed_rows (take index numbers) narrowed calls) rows (allowed_row narrowed calls (slice_index_or numbers index d)) told are is)

-- ---- one row

all_weaker : {X E : Type 0} (P Q : X → Type 0) (r : Result X E) → ((x : X) → P x → Q x) → IfOk r P → IfOk r Q
all_weaker P Q (Ok x) give is = give x is
all_weaker P Q (Err e) give is = tt

no_conditions : (conditions : List Condition) (choices : List Choice) → terms_in choices ≡ map terms_of conditions → length choices ≡ 0 → conditions ≡ []
no_conditions [] choices are none = refl
no_conditions (it ∷ conditions) [] are none = cc
no_conditions (it ∷ conditions) (choice ∷ choices) are none = absurd (omega (arith, none))

pub empty_is : (choices : Vec Choice) → (vec_len choices == 0) ≡ true → length choices.items ≡ 0
empty_is choices is = let none = eqb-true (vec_len choices) 0 is in let same = choices.ok.0 in omega (arith, none, same)

pub some_is : (choices : Vec Choice) → (vec_len choices == 0) ≡ false → 0 < length choices.items
some_is choices is = let same = choices.ok.0 in elim (cases_lt 0 (vec_len choices)) [
  | inl more ↦ omega (arith, more, same)
  | inr none ↦ absurd (eqb-false (vec_len choices) 0 is (omega (arith, none)))
]

module _ {E : Type 0} (r : Result ConditionalRow E) (nr : ℕ) (conditions : List Condition) (choices : List Choice) (are : terms_in choices ≡ map terms_of conditions) where
  pub plain_is : length choices ≡ 0 → IfOk r (IsPlainRow nr) → IfOk r (IsAllowedRow (record { nr = nr; conditions = conditions }))
  plain_is none is = subst (λ (its : List Condition). IfOk r (IsAllowedRow (record { nr = nr; conditions = its }))) (sym (no_conditions conditions choices are none)) is

  row_for : (its : List Condition) → terms_in choices ≡ map terms_of its → 0 < length choices → (told : ConditionalRow) → IsNarrowedRow nr choices told → IsRowFor nr its told
  row_for [] same some told is = let none : length choices ≡ 0 = nothing choices same in absurd (omega (arith, none, some))
    where
      nothing : (l : List Choice) → terms_in l ≡ [] → length l ≡ 0
      nothing [] h = refl
      nothing (choice ∷ l) h = cc
  row_for (first ∷ its) same some told is = (choices, same, is)

  pub narrowed_is : 0 < length choices → IfOk r (IsNarrowedRow nr choices) → IfOk r (IsAllowedRow (record { nr = nr; conditions = conditions }))
  narrowed_is some is = all_weaker (IsNarrowedRow nr choices) (IsAllowedRow (record { nr = nr; conditions = conditions })) r (row_for conditions are some) is

-- ---- arguments that are not shown

pub one_unshown : (calls : List Call) (nr i : ℕ) (places next total : List ℕ) → i < 6 → next ≡ places ++ unshown_at calls nr i
    → places ++ flat_map (unshown_at calls nr) (range_with_len i (6 - i)) ≡ total
    → next ++ flat_map (unshown_at calls nr) (range_with_len (i + 1) (6 - (i + 1))) ≡ total
one_unshown calls nr i places next total less is so_far =
    let e : 6 - i ≡ suc (6 - (i + 1)) = omega arith in
    let rest = flat_map (unshown_at calls nr) (range_with_len (i + 1) (6 - (i + 1))) in
    ap (λ its. its ++ rest) is
    ∙ append_assoc places (unshown_at calls nr i) rest
    ∙ ap (λ n. places ++ flat_map (unshown_at calls nr) (range_with_len i n)) (sym e)
    ∙ so_far

-- a call is not wide where something is said, and else where something is not shown
said_is : (conditions : List Condition) (choices : List Choice) (unshown : List ℕ) → terms_in choices ≡ map terms_of conditions → 0 < length choices → is_wide_of conditions unshown ≡ false
said_is [] [] unshown are some = absurd (omega (arith, some))
said_is [] (choice ∷ choices) unshown are some = cc
said_is (it ∷ conditions) choices unshown are some = refl

some_are : (first : ℕ) (others : List ℕ) → (length (first ∷ others) == 0) ≡ false
some_are first others = by_test (length (first ∷ others) == 0) refl
  where
    by_test : (b : Bool) → (length (first ∷ others) == 0) ≡ b → b ≡ false
    by_test true is = let none = eqb-true (length (first ∷ others)) 0 is in absurd (omega (arith, none))
    by_test false is = refl

unsaid_is : (unshown : List ℕ) → is_wide_of [] unshown ≡ not (length unshown == 0)
unsaid_is [] = refl
unsaid_is (first ∷ unshown) = sym (ap not (some_are first unshown))

module _ (conditions : List Condition) (choices : Vec Choice) (unshown : List ℕ) (are : terms_in choices.items ≡ map terms_of conditions) where
  pub wide_is : {E : Type 0} (r : Result Bool E) → (vec_len choices == 0) ≡ true → IfOk r (λ b. b ≡ not (length unshown == 0)) → IfOk r (λ b. b ≡ is_wide_of conditions unshown)
  wide_is r none is =
      all_weaker (λ b. b ≡ not (length unshown == 0)) (λ b. b ≡ is_wide_of conditions unshown) r
      (λ b same. same ∙ sym (unsaid_is unshown) ∙ sym (ap (λ its. is_wide_of its unshown) (no_conditions conditions choices.items are (empty_is choices none)))) is

  pub narrow_is : (vec_len choices == 0) ≡ false → false ≡ is_wide_of conditions unshown
  narrow_is some = sym (said_is conditions choices.items unshown are (some_is choices some))
