-- The first fault as a function is the first fault: its tests decide what the rules say.
use Rattle.std.proofs.Common.{ℕ, zero, suc, ◌≡◌, ◌<◌, ◌≤◌, ◌⊎◌, inl, inr, Bool, true, false, not, ◌||◌, List, [], ◌∷◌, Option, Some, None, length, refl, sym, subst, ap, ◌∙◌, arith}
use Rattle.std.specs.Prelude.{slice_get, ◌==◌, IsSomeAnd}
use Rattle.std.specs.Option.{option_map_or, option_and_then, option_or}
use Rattle.std.proofs.lemmas.Bool.{cases_eq, eqb-true, eq-eqb, and_parts, and_from, or_cases, or_left, or_right, not-true, not-false, not_from_false, false_from_ne_true, true≢false}
use Rattle.sk_insn.specs.declared.insn.Insn.{Insn}
use Rattle.sk_insn.specs.declared.operation.Operation.{Operation}
use Rattle.sk_insn.specs.Operations.{operation_of}
use Rattle.sk_filter.specs.declared.fault.CheckFault.{CheckFault}
use Rattle.sk_filter.specs.declared.fault.CheckFault.TheVariants.{Unstored}
use Rattle.sk_filter.specs.Paths.{Onward, Nowhere, To, Either, onward, loaded_word, stored_word, GoesTo, goes_to, Stores, At, IsPath, NoneStores, IsUnstored}
use Rattle.sk_filter.specs.Places.{unless}
use Rattle.sk_filter.proofs.Told.{unless-Some, unless-None}
use Rattle.sk_filter.proofs.ForwardPass.{at_only, forwards}
use Rattle.sk_filter.specs.FirstFault.{first_below, any_below, of_insn, is_bare, unstored_of}

-- ---- tests

-- an instruction passes a test of it
pub at_test : (insns : List Insn) (place : ℕ) (test : Option Operation → Insn → Bool) → of_insn false (slice_get insns place) test ≡ true → At insns place (λ o insn. test o insn ≡ true)
at_test insns place test e = go (slice_get insns place) refl e
  where
    go : (o : Option Insn) → slice_get insns place ≡ o → of_insn false o test ≡ true → At insns place (λ o insn. test o insn ≡ true)
    go None here e = cc
    go (Some insn) here e = (insn, here, e)

pub test_at : (insns : List Insn) (place : ℕ) (test : Option Operation → Insn → Bool) → At insns place (λ o insn. test o insn ≡ true) → of_insn false (slice_get insns place) test ≡ true
test_at insns place test (insn, here, e) = subst (λ o. of_insn false o test ≡ true) (sym here) e

any_below-true : (n : ℕ) (test : ℕ → Bool) → any_below n test ≡ true → (k : ℕ) × (k < n) × (test k ≡ true)
any_below-true zero test e = cc
any_below-true (suc n) test e =
    elim (or_cases (test n) (any_below n test) e) [
      | inl here ↦ (n, omega arith, here)
      | inr below ↦ let found = any_below-true n test below in let less : found.0 < n = found.1 in (found.0, omega arith, found.2)
    ]

true-any_below : (n : ℕ) (test : ℕ → Bool) (k : ℕ) → k < n → test k ≡ true → any_below n test ≡ true
true-any_below zero test k less e = absurd (omega arith)
true-any_below (suc n) test k less e =
    elim (cases_eq k n) [
      | inl same ↦ let here : test n ≡ true = subst (λ i. test i ≡ true) same e in ap (λ b. b || any_below n test) here
      | inr other ↦ or_right (test n) (any_below n test) (true-any_below n test k (omega arith) e)
    ]

-- ---- places and words

goes_to-true : (next : ℕ) (on : Onward) → goes_to next on ≡ true → GoesTo next on
goes_to-true next Nowhere e = cc
goes_to-true next (To place) e = eqb-true _ _ e
goes_to-true next (Either place other) e =
    elim (or_cases (next == place) (next == other) e) [ inl a ↦ inl (eqb-true _ _ a) | inr b ↦ inr (eqb-true _ _ b) ]

true-goes_to : (next : ℕ) (on : Onward) → GoesTo next on → goes_to next on ≡ true
true-goes_to next Nowhere h = absurd h
true-goes_to next (To place) h = eq-eqb _ _ h
true-goes_to next (Either place other) (inl h) = ap (λ b. b || (next == other)) (eq-eqb _ _ h)
true-goes_to next (Either place other) (inr h) = or_right (next == place) (next == other) (eq-eqb _ _ h)

-- the word is this one
is_word-true : (word : ℕ) (named : Option ℕ) → option_map_or (λ k. k == word) named false ≡ true → IsSomeAnd named (λ k. k ≡ word)
is_word-true word None e = cc
is_word-true word (Some k) e = eqb-true _ _ e

true-is_word : (word : ℕ) (named : Option ℕ) → IsSomeAnd named (λ k. k ≡ word) → option_map_or (λ k. k == word) named false ≡ true
true-is_word word None h = absurd h
true-is_word word (Some k) h = eq-eqb _ _ h

-- ---- paths

bare_path : (insns : List Insn) (word steps place : ℕ) → is_bare insns word steps place ≡ true → (before : List ℕ) × IsPath insns place before × NoneStores insns word before
bare_path insns word zero place e = ([], eqb-true _ _ e, tt)
bare_path insns word (suc steps) place e =
    elim (or_cases (place == 0) _ e) [
      | inl start ↦ ([], eqb-true _ _ start, tt)
      | inr some ↦ let found = any_below-true place _ some in let k = found.0 in let parts = and_parts _ _ found.2 in let at = at_test insns k _ parts.0 in let insn = at.0 in let goes = and_parts _ _ at.2 in let earlier = bare_path insns word steps k parts.1 in (k ∷ earlier.0, ((insn, at.1, goes_to-true place (onward k (operation_of insn.code) insn) goes.0), earlier.1), (λ store. true≢false (sym (true-is_word word (stored_word (operation_of insn.code) insn) (at_only insns k insn (Stores word) at.1 store)) ∙ not-true _ goes.1), earlier.2))
    ]

path_bare : (insns : List Insn) (word steps place : ℕ) (before : List ℕ) → IsPath insns place before → NoneStores insns word before → length before ≤ steps → is_bare insns word steps place ≡ true
path_bare insns word zero place [] path none most = eq-eqb _ _ path
path_bare insns word zero place (k ∷ earlier) path none most = absurd (omega arith)
path_bare insns word (suc steps) place [] path none most = or_left _ _ (eq-eqb _ _ path)
path_bare insns word (suc steps) place (k ∷ earlier) ((insn, here, leads), path) (no_store, none) most =
    or_right _ _ (true-any_below place _ k (forwards k place insn (operation_of insn.code) leads) (and_from _ _ (test_at insns k _ (insn, here, and_from _ _ (true-goes_to place (onward k (operation_of insn.code) insn) leads) (not_from_false _ (false_from_ne_true _ (λ store. no_store (insn, here, is_word-true word (stored_word (operation_of insn.code) insn) store)))))) (path_bare insns word steps k earlier path none (omega arith))))

path_length : (insns : List Insn) (place : ℕ) (before : List ℕ) → IsPath insns place before → length before ≤ place
path_length insns place [] path = omega arith
path_length insns place (k ∷ earlier) ((insn, here, leads), path) =
    let less : k < place = forwards k place insn (operation_of insn.code) leads in
    let short : length earlier ≤ k = path_length insns k earlier path in
    omega arith

-- ---- answers for a place

option_or-None : (a b : Option CheckFault) → option_or a b ≡ None → (a ≡ None) × (b ≡ None)
option_or-None (Some fault) b e = cc
option_or-None None b e = (refl, e)

option_or-Some : (a b : Option CheckFault) (fault : CheckFault) → option_or a b ≡ Some fault → (a ≡ Some fault) ⊎ ((a ≡ None) × (b ≡ Some fault))
option_or-Some (Some other) b fault e = inl e
option_or-Some None b fault e = inr (refl, e)

pub first_below-None : (n : ℕ) (answer : ℕ → Option CheckFault) → first_below n answer ≡ None → (k : ℕ) → k < n → answer k ≡ None
first_below-None zero answer e k less = absurd (omega arith)
first_below-None (suc n) answer e k less =
    let parts = option_or-None (first_below n answer) (answer n) e in
    elim (cases_eq k n) [
      | inl here ↦ subst (λ i. answer i ≡ None) (sym here) parts.1
      | inr other ↦ first_below-None n answer parts.0 k (omega arith)
    ]

-- the answer for a place, and none for the places before it
pub record IsFirstBelow (n : ℕ) (answer : ℕ → Option CheckFault) (fault : CheckFault) : Type 0 where
  pub place : ℕ
  pub below : place < n
  pub here : answer place ≡ Some fault
  pub before : (k : ℕ) → k < place → answer k ≡ None

pub first_below-Some : (n : ℕ) (answer : ℕ → Option CheckFault) (fault : CheckFault) → first_below n answer ≡ Some fault → IsFirstBelow n answer fault
first_below-Some zero answer fault e = cc
first_below-Some (suc n) answer fault e =
    elim (option_or-Some (first_below n answer) (answer n) fault e) [
      | inl before ↦ let found = first_below-Some n answer fault before in let less : found.place < n = found.below in record { place = found.place; below = omega arith; here = found.here; before = found.before }
      | inr here ↦ record { place = n; below = omega arith; here = here.1; before = first_below-None n answer here.0 }
    ]

pub of_insn-None : (insns : List Insn) (place : ℕ) (says : Option Operation → Insn → Option CheckFault) → of_insn None (slice_get insns place) says ≡ None → (insn : Insn) → slice_get insns place ≡ Some insn → says (operation_of insn.code) insn ≡ None
of_insn-None insns place says e insn here = subst (λ o. of_insn None o says ≡ None) here e

-- the answer for a load is that some path to it stores no such word
loads_bare : (insns : List Insn) (place : ℕ) (loaded : Option ℕ) (fault : CheckFault) → option_and_then (λ word. unless (not (is_bare insns word place place)) (Unstored place word)) loaded ≡ Some fault → (word : ℕ) × IsSomeAnd loaded (λ k. k ≡ word) × (is_bare insns word place place ≡ true) × (Unstored place word ≡ fault)
loads_bare insns place None fault e = cc
loads_bare insns place (Some word) fault e =
    let told = unless-Some _ _ _ e in (word, refl, not-false _ told.0, told.1)

pub unstored_of-Some : (insns : List Insn) (place : ℕ) (fault : CheckFault) → At insns place (λ o insn. unstored_of insns place o insn ≡ Some fault) → (word : ℕ) × (Unstored place word ≡ fault) × IsUnstored insns place word
unstored_of-Some insns place fault (insn, here, e) =
    let told = loads_bare insns place (loaded_word (operation_of insn.code) insn) fault e in
    (told.0, told.3, ((insn, here, told.1), bare_path insns told.0 place place told.2))

never_none : (insns : List Insn) (place word : ℕ) (loaded : Option ℕ) → IsSomeAnd loaded (λ k. k ≡ word) → is_bare insns word place place ≡ true → option_and_then (λ word. unless (not (is_bare insns word place place)) (Unstored place word)) loaded ≡ None → ⊥
never_none insns place word None loads bare e = absurd loads
never_none insns place word (Some k) loads bare e =
    let stored : not (is_bare insns k place place) ≡ true = unless-None _ _ e in
    true≢false (sym (subst (λ w. is_bare insns w place place ≡ true) (sym loads) bare) ∙ not-true _ stored)

pub unstored_of-None : (insns : List Insn) (place : ℕ) → of_insn None (slice_get insns place) (unstored_of insns place) ≡ None → (word : ℕ) → IsUnstored insns place word → ⊥
unstored_of-None insns place e word ((insn, here, loads), (before, path, none)) =
    never_none insns place word (loaded_word (operation_of insn.code) insn) loads (path_bare insns word place place before path none (path_length insns place before path)) (of_insn-None insns place (unstored_of insns place) e insn here)
