-- Which keys of a list pass two tests, and whether any does.
use Rattle.std.proofs.Common.{◌≡◌, ◌∙◌, ◌==◌, ℕ, suc, arith, ap, sym, refl, Bool, true, false, cond, not, ◌&&◌, ◌||◌, IsTrue, List, [], ◌∷◌, map, filter, length, Some, is_some, nat_cmp, eq-eqb, ne_eqb}
use Rattle.std.specs.Ordering.{eq_by_cmp}
use Rattle.std.specs.Cmp.{unsigned_tied}
use Rattle.std.specs.FinMap.Entries.{find}
use Rattle.sk_kernel.proofs.Common.{list_any}

-- the first key is found
found_first : {A : Type 0} (e : ℕ × A) (es : List (ℕ × A)) → IsTrue (is_some (find nat_cmp e.0 (e ∷ es)))
found_first e es = ap (λ b. is_some (cond b (Some e.1) (find nat_cmp e.0 es))) (unsigned_tied e.0 e.0 ∙ eq-eqb e.0 e.0 refl)

-- so is one behind it
found_behind : {A : Type 0} (e : ℕ × A) (es : List (ℕ × A)) (k : ℕ) → IsTrue (is_some (find nat_cmp k es)) → IsTrue (is_some (find nat_cmp k (e ∷ es)))
found_behind e es k is = elim (eq_by_cmp nat_cmp k e.0) as (λ b. IsTrue (is_some (cond b (Some e.1) (find nat_cmp k es)))) [ true ↦ refl | false ↦ is ]

-- of the keys of a list each is there, so that those which pass are those which are there and pass
pub kept_there : {A : Type 0} (there p : ℕ → Bool) (es : List (ℕ × A)) → ((k : ℕ) → IsTrue (is_some (find nat_cmp k es)) → IsTrue (there k))
    → filter p (map (λ e. e.0) es) ≡ filter (λ k. there k && p k) (map (λ e. e.0) es)
kept_there there p [] known = refl
kept_there there p (e ∷ es) known =
    let kept = kept_there there p es (λ k is. known k (found_behind e es k is)) in
    let all = filter (λ k. there k && p k) (map (λ e. e.0) es) in
    (λ i. cond (p e.0) (e.0 ∷ kept i) (kept i)) ∙ sym (ap (λ b. cond (b && p e.0) (e.0 ∷ all) all) (known e.0 (found_first e es)))

-- those which pass one test of those which pass another pass both
pub kept_both : (p q : ℕ → Bool) (xs : List ℕ) → filter q (filter p xs) ≡ filter (λ k. p k && q k) xs
kept_both p q [] = refl
kept_both p q (x ∷ xs) =
    let kept = kept_both p q xs in
    let all = filter (λ k. p k && q k) xs in
    elim (p x) as (λ b. filter q (cond b (x ∷ filter p xs) (filter p xs)) ≡ cond (b && q x) (x ∷ all) all) [
      | true ↦ (λ i. cond (q x) (x ∷ kept i) (kept i))
      | false ↦ kept
    ]

-- there are some that pass where any does
pub some_kept : (p : ℕ → Bool) (xs : List ℕ) → not (length (filter p xs) == 0) ≡ list_any p xs
some_kept p [] = refl
some_kept p (x ∷ xs) = elim (p x) as (λ b. not (length (cond b (x ∷ filter p xs) (filter p xs)) == 0) ≡ (b || list_any p xs)) [
  | true ↦ ap not (ne_eqb (suc (length (filter p xs))) 0 (λ none. is_some_more (length (filter p xs)) none))
  | false ↦ some_kept p xs
]
  where
    is_some_more : (n : ℕ) → suc n ≡ 0 → ⊥
    is_some_more n none = omega (arith, none)
