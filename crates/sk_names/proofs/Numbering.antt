-- The numbers with a name, one after the other.
use Rattle.std.proofs.Common.{◌≡◌, ℕ, suc, ◌+◌, ◌-◌, ◌<◌, ◌≤◌, ◌++◌, List, [], ◌∷◌, Bool, true, false, cond, is_some, arith, refl, sym, ap, ◌∙◌, append_assoc, append-nil}
use Rattle.sk_names.specs.X86_64.{name_of, named_from}

next_named : (n nr : ℕ) → named_from (suc n) nr ≡ cond (is_some (name_of nr)) (nr ∷ named_from n (nr + 1)) (named_from n (nr + 1))
unfolding named_from
next_named n nr = refl

pub none_named : (nr : ℕ) → named_from 0 nr ≡ []
unfolding named_from
none_named nr = refl

by_test : (b : Bool) (numbers rest : List ℕ) (nr : ℕ) → cond b (numbers ++ nr ∷ []) numbers ++ rest ≡ numbers ++ cond b (nr ∷ rest) rest
by_test true numbers rest nr = append_assoc numbers (nr ∷ []) rest
by_test false numbers rest nr = refl

pub one_named : (count nr : ℕ) (numbers next total : List ℕ) → nr < count → next ≡ cond (is_some (name_of nr)) (numbers ++ nr ∷ []) numbers → numbers ++ named_from (count - nr) nr ≡ total → next ++ named_from (count - (nr + 1)) (nr + 1) ≡ total
one_named count nr numbers next total h is so_far =
    let e : count - nr ≡ suc (count - (nr + 1)) = omega arith in
    ap (λ xs. xs ++ named_from (count - (nr + 1)) (nr + 1)) is
    ∙ by_test (is_some (name_of nr)) numbers (named_from (count - (nr + 1)) (nr + 1)) nr
    ∙ ap (λ xs. numbers ++ xs) (sym (next_named (count - (nr + 1)) nr))
    ∙ ap (λ n. numbers ++ named_from n nr) (sym e)
    ∙ so_far

pub all_named : (count nr : ℕ) (numbers total : List ℕ) → count ≤ nr → numbers ++ named_from (count - nr) nr ≡ total → numbers ≡ total
all_named count nr numbers total h so_far =
    let e : count - nr ≡ 0 = omega arith in
    sym (append-nil numbers) ∙ ap (λ xs. numbers ++ xs) (sym (none_named nr)) ∙ ap (λ n. numbers ++ named_from n nr) (sym e) ∙ so_far
