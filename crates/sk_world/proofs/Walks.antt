-- Walks over a rising list of keys, from each to the next one that passes a test: what is still to come, and
-- what is found.
use Rattle.std.proofs.Common.{◌≡◌, ◌∙◌, ◌<◌, ◌≤◌, ◌==◌, ⊎_elim, ℕ, zero, suc, arith, ap, sym, refl, subst, Bool, true, false, cond, ◌&&◌, ◌||◌, IsTrue, List, [], ◌∷◌, map, filter, None, Some}
use Rattle.std.specs.Prelude.{T, nat_lt}
use Rattle.sk_world.specs.Common.{Less, Equal, Greater, is_some, first, list_any, nat_cmp, is_lt, unsigned_tied, find, is_sorted}
use Rattle.std.specs.FinMap.Entries.{below_all}
use Rattle.sk_world.proofs.Common.{false≢true, eqb-true, ltb-true, lt-ltb, le-ltb, cases_lt}

-- the keys above one that pass
abbrev pub above : {A : Type 0} → (ℕ → Bool) → ℕ → List (ℕ × A) → List ℕ
above p after es = filter (λ q. nat_lt after q && p q) (map (λ e. e.0) es)

parts : (a b : Bool) → T (a && b) → T a × T b
parts true b h = (tt, h)
parts false b h = absurd h

comes_first : (x y : ℕ) → T (is_lt (nat_cmp x y)) → x < y
comes_first x y h =
    elim (nat_lt x y) as (λ b. nat_lt x y ≡ b → T (is_lt (cond b Less (cond (x == y) Equal Greater))) → x < y) [
      | true ↦ λ is _. ltb-true x y is
      | false ↦ λ is h. absurd (elim (x == y) as (λ b. T (is_lt (cond b Equal Greater)) → ⊥) [ true ↦ λ h. h | false ↦ λ h. h ] h)
    ] refl h

-- the key of the first entry, or one behind it
split : {A : Type 0} (q : ℕ) (e : ℕ × A) (es : List (ℕ × A)) (P : Type 0) → IsTrue (is_some (find nat_cmp q (e ∷ es)))
    → (q ≡ e.0 → P) → ((q == e.0) ≡ false → IsTrue (is_some (find nat_cmp q es)) → P) → P
split q e es P there here behind =
    elim (q == e.0) as (λ b. (q == e.0) ≡ b → IsTrue (is_some (cond b (Some e.1) (find nat_cmp q es))) → P) [
      | true ↦ λ is _. here (eqb-true q e.0 is)
      | false ↦ λ is there. behind is there
    ] refl (ap (λ b. is_some (cond b (Some e.1) (find nat_cmp q es))) (sym (unsigned_tied q e.0)) ∙ there)

-- every key of a rising list is above one that is below all of them
pub below_rest : {A : Type 0} (x : ℕ) (es : List (ℕ × A)) → T (below_all nat_cmp x es) → (q : ℕ) → IsTrue (is_some (find nat_cmp q es)) → x < q
below_rest x [] h q there = absurd (false≢true there)
below_rest x (e ∷ es) h q there =
    let both = parts (is_lt (nat_cmp x e.0)) (below_all nat_cmp x es) h in
    split q e es (x < q) there
    (λ is. subst (λ k. x < k) (sym is) (comes_first x e.0 both.0))
    (λ _ there. below_rest x es both.1 q there)

-- who is not above the key that the walk came to, or does not pass, is not to come
passed : (p : ℕ → Bool) (after q : ℕ) → (after < q → p q ≡ false) → (nat_lt after q && p q) ≡ false
passed p after q none =
    elim (nat_lt after q) as (λ b. nat_lt after q ≡ b → (b && p q) ≡ false) [
      | true ↦ λ is. none (ltb-true after q is)
      | false ↦ λ _. refl
    ] refl

-- where none above passes, none is to come
pub none_above : {A : Type 0} (p : ℕ → Bool) (after : ℕ) (es : List (ℕ × A)) → ((q : ℕ) → after < q → p q ≡ false) → above p after es ≡ []
none_above p after [] none = refl
none_above p after (e ∷ es) none =
    ap (λ b. cond b (e.0 ∷ above p after es) (above p after es)) (passed p after e.0 (none e.0)) ∙ none_above p after es none

-- behind the key that the walk came to all are to come, as behind any below it
all_behind : {A : Type 0} (p : ℕ → Bool) (after next : ℕ) (es : List (ℕ × A)) → after < next → T (below_all nat_cmp next es) → above p after es ≡ above p next es
all_behind p after next [] lt below = refl
all_behind p after next (e ∷ es) lt below =
    let both = parts (is_lt (nat_cmp next e.0)) (below_all nat_cmp next es) below in
    let first = comes_first next e.0 both.0 in
    let same : (nat_lt after e.0 && p e.0) ≡ (nat_lt next e.0 && p e.0) = ap (λ b. b && p e.0) (lt-ltb after e.0 (omega (arith, lt, first)) ∙ sym (lt-ltb next e.0 first)) in
    (λ i. cond (same i) (e.0 ∷ all_behind p after next es lt both.1 i) (all_behind p after next es lt both.1 i))

-- the next key that passes is the first of those to come, and behind it come those above it
pub next_above : {A : Type 0} (p : ℕ → Bool) (after next : ℕ) (es : List (ℕ × A)) → T (is_sorted nat_cmp es) → IsTrue (is_some (find nat_cmp next es))
    → after < next → p next ≡ true → ((q : ℕ) → after < q → q < next → p q ≡ false) → above p after es ≡ (next ∷ above p next es)
next_above p after next [] rising there lt passes none = absurd (false≢true there)
next_above p after next (e ∷ es) rising there lt passes none =
    let both = parts (below_all nat_cmp e.0 es) (is_sorted nat_cmp es) rising in
    split next e es (above p after (e ∷ es) ≡ (next ∷ above p next (e ∷ es))) there
    (λ is.
    let comes : (nat_lt after e.0 && p e.0) ≡ true = (λ i. nat_lt after (sym is i) && p (sym is i)) ∙ ap (λ b. b && p next) (lt-ltb after next lt) ∙ passes in
    let gone : (nat_lt next e.0 && p e.0) ≡ false = ap (λ b. b && p e.0) (le-ltb next e.0 (omega (arith, is))) in
    ap (λ b. cond b (e.0 ∷ above p after es) (above p after es)) comes
    ∙ (λ i. sym is i ∷ all_behind p after e.0 es (omega (arith, lt, is)) both.0 i)
    ∙ ap (λ k. next ∷ above p k es) (sym is)
    ∙ ap (λ b. next ∷ cond b (e.0 ∷ above p next es) (above p next es)) (sym gone))
    (λ other there.
    let first = below_rest e.0 es both.0 next there in
    let gone : (nat_lt next e.0 && p e.0) ≡ false = ap (λ b. b && p e.0) (le-ltb next e.0 (omega (arith, first))) in
    ap (λ b. cond b (e.0 ∷ above p after es) (above p after es)) (passed p after e.0 (λ lt. none e.0 lt first))
    ∙ next_above p after next es both.1 there lt passes none
    ∙ ap (λ b. next ∷ cond b (e.0 ∷ above p next es) (above p next es)) (sym gone))

-- where none passes up to the next key, the walk goes on to it
pub pass_above : {A : Type 0} (p : ℕ → Bool) (after next : ℕ) (es : List (ℕ × A)) → after < next → ((q : ℕ) → after < q → q ≤ next → p q ≡ false) → above p after es ≡ above p next es
pass_above p after next es lt none = (λ i. filter (λ q. same q i) (map (λ e. e.0) es))
  where
    same : (q : ℕ) → (nat_lt after q && p q) ≡ (nat_lt next q && p q)
    same q = ⊎_elim
        (λ above. ap (λ b. b && p q) (lt-ltb after q (omega (arith, lt, above)) ∙ sym (lt-ltb next q above)))
        (λ ge. passed p after q (λ above. none q above ge) ∙ ap (λ b. b && p q) (sym (le-ltb next q ge)))
        (cases_lt next q)

-- before the walk begins all that pass are to come, where 0 does not
pub all_above : {A : Type 0} (p : ℕ → Bool) (es : List (ℕ × A)) → p 0 ≡ false → above p 0 es ≡ filter p (map (λ e. e.0) es)
all_above p es none = (λ i. filter (λ q. same q i) (map (λ e. e.0) es))
  where
    same : (q : ℕ) → (nat_lt 0 q && p q) ≡ p q
    same zero = sym none
    same (suc q) = ap (λ b. b && p (suc q)) (lt-ltb 0 (suc q) (omega arith))

-- all keys are above one that is below them
all_after : {A : Type 0} (p : ℕ → Bool) (next : ℕ) (es : List (ℕ × A)) → T (below_all nat_cmp next es) → filter p (map (λ e. e.0) es) ≡ above p next es
all_after p next [] below = refl
all_after p next (e ∷ es) below =
    let both = parts (is_lt (nat_cmp next e.0)) (below_all nat_cmp next es) below in
    let same : p e.0 ≡ (nat_lt next e.0 && p e.0) = ap (λ b. b && p e.0) (sym (lt-ltb next e.0 (comes_first next e.0 both.0))) in
    (λ i. cond (same i) (e.0 ∷ all_after p next es both.1 i) (all_after p next es both.1 i))

-- the least key that passes is the first of all that do, and behind it come those above it
pub first_above : {A : Type 0} (p : ℕ → Bool) (next : ℕ) (es : List (ℕ × A)) → T (is_sorted nat_cmp es) → IsTrue (is_some (find nat_cmp next es))
    → p next ≡ true → ((q : ℕ) → q < next → p q ≡ false) → filter p (map (λ e. e.0) es) ≡ (next ∷ above p next es)
first_above p next [] rising there passes none = absurd (false≢true there)
first_above p next (e ∷ es) rising there passes none =
    let both = parts (below_all nat_cmp e.0 es) (is_sorted nat_cmp es) rising in
    split next e es (filter p (map (λ e. e.0) (e ∷ es)) ≡ (next ∷ above p next (e ∷ es))) there
    (λ is.
    let gone : (nat_lt next e.0 && p e.0) ≡ false = ap (λ b. b && p e.0) (le-ltb next e.0 (omega (arith, is))) in
    ap (λ b. cond b (e.0 ∷ filter p (map (λ e. e.0) es)) (filter p (map (λ e. e.0) es))) (ap p (sym is) ∙ passes)
    ∙ (λ i. sym is i ∷ all_after p e.0 es both.0 i)
    ∙ ap (λ k. next ∷ above p k es) (sym is)
    ∙ ap (λ b. next ∷ cond b (e.0 ∷ above p next es) (above p next es)) (sym gone))
    (λ other there.
    let first = below_rest e.0 es both.0 next there in
    let gone : (nat_lt next e.0 && p e.0) ≡ false = ap (λ b. b && p e.0) (le-ltb next e.0 (omega (arith, first))) in
    ap (λ b. cond b (e.0 ∷ filter p (map (λ e. e.0) es)) (filter p (map (λ e. e.0) es))) (none e.0 first)
    ∙ first_above p next es both.1 there passes none
    ∙ ap (λ b. next ∷ cond b (e.0 ∷ above p next es) (above p next es)) (sym gone))

-- nothing is left of a list where no number passes
pub none_left : (p : ℕ → Bool) (xs : List ℕ) → ((q : ℕ) → p q ≡ false) → filter p xs ≡ []
none_left p [] none = refl
none_left p (x ∷ xs) none = ap (λ b. cond b (x ∷ filter p xs) (filter p xs)) (none x) ∙ none_left p xs none

-- a key that passes makes some pass
pub any_here : {A : Type 0} (p : ℕ → Bool) (es : List (ℕ × A)) (q : ℕ) → IsTrue (is_some (find nat_cmp q es)) → p q ≡ true → list_any p (map (λ e. e.0) es) ≡ true
any_here p [] q there passes = absurd (false≢true there)
any_here p (e ∷ es) q there passes =
    split q e es (list_any p (map (λ e. e.0) (e ∷ es)) ≡ true) there
    (λ is. ap (λ b. b || list_any p (map (λ e. e.0) es)) (ap p (sym is) ∙ passes))
    (λ _ there. ap (λ b. p e.0 || b) (any_here p es q there passes) ∙ or_true (p e.0))
  where
    or_true : (b : Bool) → (b || true) ≡ true
    or_true true = refl
    or_true false = refl

-- where no number passes none of a list does
pub none_any : (p : ℕ → Bool) (xs : List ℕ) → ((q : ℕ) → p q ≡ false) → list_any p xs ≡ false
none_any p [] none = refl
none_any p (x ∷ xs) none = (λ i. none x i || none_any p xs none i)

-- the least key that passes is found
pub first_here : {A : Type 0} (p : ℕ → Bool) (next : ℕ) (es : List (ℕ × A)) → T (is_sorted nat_cmp es) → IsTrue (is_some (find nat_cmp next es))
    → p next ≡ true → ((q : ℕ) → q < next → p q ≡ false) → first p (map (λ e. e.0) es) ≡ Some next
first_here p next [] rising there passes none = absurd (false≢true there)
first_here p next (e ∷ es) rising there passes none =
    let both = parts (below_all nat_cmp e.0 es) (is_sorted nat_cmp es) rising in
    split next e es (first p (map (λ e. e.0) (e ∷ es)) ≡ Some next) there
    (λ is. ap (λ b. cond b (Some e.0) (first p (map (λ e. e.0) es))) (ap p (sym is) ∙ passes) ∙ ap (λ k. Some k) (sym is))
    (λ _ there.
    ap (λ b. cond b (Some e.0) (first p (map (λ e. e.0) es))) (none e.0 (below_rest e.0 es both.0 next there))
    ∙ first_here p next es both.1 there passes none)

-- where no number passes none of a list is found
pub none_first : (p : ℕ → Bool) (xs : List ℕ) → ((q : ℕ) → p q ≡ false) → first p xs ≡ None
none_first p [] none = refl
none_first p (x ∷ xs) none = ap (λ b. cond b (Some x) (first p xs)) (none x) ∙ none_first p xs none

-- who is none of those that the walk goes to does not pass, up to the key that it came to and the next one
pub up_to : (p goes : ℕ → Bool) (after next : ℕ) → ((q : ℕ) → goes q ≡ false → p q ≡ false) → ((q : ℕ) → q ≤ after → p q ≡ false)
    → ((q : ℕ) → after < q → q < next → goes q ≡ false) → p next ≡ false → (q : ℕ) → q ≤ next → p q ≡ false
up_to p goes after next none low between last q le = ⊎_elim
    (λ lt. ⊎_elim (λ above. none q (between q above lt)) (λ ge. low q ge) (cases_lt after q))
    (λ ge. subst (λ k. p k ≡ false) (same ge) last)
    (cases_lt q next)
  where
    same : next ≤ q → next ≡ q
    same ge = omega arith

-- nor beyond it, where the walk goes to nobody
pub beyond : (p goes : ℕ → Bool) (after : ℕ) → ((q : ℕ) → goes q ≡ false → p q ≡ false) → ((q : ℕ) → q ≤ after → p q ≡ false)
    → ((q : ℕ) → after < q → goes q ≡ false) → (q : ℕ) → p q ≡ false
beyond p goes after none low high q = ⊎_elim (λ above. none q (high q above)) (λ ge. low q ge) (cases_lt after q)
