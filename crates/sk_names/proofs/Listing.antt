-- All numbers of a table, run by run.
use Rattle.std.proofs.Common.{◌≡◌, ℕ, zero, suc, ◌+◌, ◌-◌, ◌^◌, ◌<◌, ◌≤◌, List, [], ◌∷◌, ◌++◌, arith, ap, sym, ◌∙◌, append_assoc}
use Rattle.std.specs.Prelude.{IsTrue}
use Rattle.std.specs.List.{range_with_len}
use Rattle.sk_names.specs.Names.{Run}
use Rattle.sk_names.specs.Numbers.{end_of, are_apart, numbers_at, numbers_in}
use Rattle.sk_names.proofs.Lookups.{apart_next}

-- the first of so many
first_of_range : (first count : ℕ) → 0 < count → range_with_len first count ≡ first ∷ range_with_len (first + 1) (count - 1)
first_of_range first zero some = absurd (omega arith)
first_of_range first (suc count) some =
    let less : suc count - 1 ≡ count = omega arith in
    ap (λ n. first ∷ range_with_len (first + 1) n) (sym less)

-- one number more
pub one_number : (numbers next all : List ℕ) (number end : ℕ) → number < end → next ≡ numbers ++ number ∷ [] → numbers ++ range_with_len number (end - number) ≡ all
    → next ++ range_with_len (number + 1) (end - (number + 1)) ≡ all
one_number numbers next all number end less is so_far =
    let left : (end - number) - 1 ≡ end - (number + 1) = omega arith in
    ap (λ xs. xs ++ range_with_len (number + 1) (end - (number + 1))) is
    ∙ append_assoc numbers (number ∷ []) (range_with_len (number + 1) (end - (number + 1)))
    ∙ ap (λ n. numbers ++ (number ∷ range_with_len (number + 1) n)) (sym left)
    ∙ ap (λ xs. numbers ++ xs) (sym (first_of_range number (end - number) (omega arith)))
    ∙ so_far

-- one run more
pub one_run : (numbers next all : List ℕ) (base : ℕ) (runs later : List Run) (run : Run) → runs ≡ run ∷ later → next ≡ numbers ++ numbers_at base run
    → numbers ++ numbers_in base runs ≡ all → next ++ numbers_in base later ≡ all
one_run numbers next all base runs later run first is so_far =
    ap (λ xs. xs ++ numbers_in base later) is
    ∙ append_assoc numbers (numbers_at base run) (numbers_in base later)
    ∙ ap (λ rest. numbers ++ numbers_in base rest) (sym first)
    ∙ so_far

-- its numbers have 32 bits
pub run_fits : (base : ℕ) (runs later : List Run) (run : Run) → base ≤ 2 ^ 30 → runs ≡ run ∷ later → IsTrue (are_apart 0 runs) → base + end_of run ≤ 2 ^ 31
run_fits base runs later run low first apart = let end = (apart_next runs later run first apart).0 in omega (arith, low, end)
