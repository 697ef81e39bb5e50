-- The code of a choice of numbers for the same bits goes on at one place where these are one of the numbers, and else at the other.
use Rattle.std.proofs.Common.{◌≡◌, ℕ, ◌+◌, ◌^◌, ◌==◌, ◌<◌, ◌&&◌, ◌||◌, Bool, true, false, if◌then◌else◌, nat_le, not, bit_and, List, [], ◌∷◌, ◌++◌, length, refl, ap, sym, ◌∙◌, subst, arith, append_assoc}
use Rattle.std.specs.List.{list_all, list_any}
use Rattle.std.proofs.lemmas.Bool.{eqb-true, eqb-false, ne_eqb}
use Rattle.sk_insn.specs.declared.insn.Insn.{Insn}
use Rattle.sk_insn.specs.declared.record.Record.{Record}
use Rattle.sk_insn.specs.declared.operation.Comparison.TheVariants.{Equal}
use Rattle.sk_filter.specs.Meaning.{State}
use Rattle.sk_profile.specs.Code.{branch, high}
use Rattle.sk_profile.specs.Sayings.{low}
use Rattle.sk_profile.proofs.Steps.{Comes, branch_on, branch_two, past}
use Rattle.sk_profile.proofs.Conditions.{Goes}
use Rattle.sk_terms.specs.declared.term.Register.{Register}
use Rattle.sk_terms.specs.declared.term.Register.TheVariants.{Number, Pointer, Argument}
use Rattle.sk_terms.specs.declared.term.Term.{Term}
use Rattle.sk_terms.specs.Terms.{register_of, holds_term, is_equality}
use Rattle.sk_terms.specs.Lines.{holds_one}
use Rattle.sk_policy.specs.Code.{low_place, high_place, word_code, is_narrow, is_alike, are_joined, equals_from, equals_code, lower_code, joined_code}
use Rattle.sk_policy.specs.Policies.{IsWhole, AsksThere}
use Rattle.sk_policy.proofs.Tests.{known, same_way, equal_low, narrow, upper_there}
use Rattle.sk_policy.proofs.Terms.{one_number}
use Rattle.sk_policy.proofs.Words.{low_there, low_fits, register_fits, word_on, low_bits, high_bits}

pub and_left : (b c : Bool) → (b && c) ≡ true → b ≡ true
and_left true c e = refl
and_left false c e = cc

pub and_right : (b c : Bool) → (b && c) ≡ true → c ≡ true
and_right true c e = e
and_right false c e = cc

-- ---- what the terms hold

-- a register is known by its place
one_place : (r q : Register) → low_place r ≡ low_place q → r ≡ q
one_place Number Number e = refl
one_place Number Pointer e = absurd (omega (arith, e))
one_place Number (Argument j) e = absurd (omega (arith, e))
one_place Pointer Number e = absurd (omega (arith, e))
one_place Pointer Pointer e = refl
one_place Pointer (Argument j) e = absurd (omega (arith, e))
one_place (Argument i) Number e = absurd (omega (arith, e))
one_place (Argument i) Pointer e = absurd (omega (arith, e))
one_place (Argument i) (Argument j) e = let same : i ≡ j = omega (arith, e) in ap Argument same

-- what `is_alike` says
record Alike (first term : Term) : Type 0 where
  inside : term.inside ≡ true
  one : term.first ≡ term.last
  register : term.register ≡ first.register
  mask : term.mask ≡ first.mask
  upper : high term.first ≡ high first.first

alike_so : (first term : Term) → is_alike first term ≡ true → Alike first term
alike_so first term e =
    let equality = and_left (is_equality term) _ e in
    let more = and_right (is_equality term) _ e in
    let last = and_right (low_place term.register == low_place first.register) _ more in record {
      inside = and_left term.inside _ equality;
      one = eqb-true term.first term.last (and_right term.inside _ equality);
      register = one_place term.register first.register (eqb-true (low_place term.register) (low_place first.register) (and_left (low_place term.register == low_place first.register) _ more));
      mask = eqb-true term.mask first.mask (and_left (term.mask == first.mask) _ last);
      upper = eqb-true (high term.first) (high first.first) (and_right (term.mask == first.mask) _ last);
    }

-- the bits of the first one
abbrev bits : Term → Record → ℕ
bits first call = bit_and (register_of first.register call) first.mask

holds_alike : (first term : Term) (call : Record) → Alike first term → holds_term term call ≡ (bits first call == term.first)
holds_alike first term call it =
    ap (λ inside. if inside then nat_le term.first (bits term call) && nat_le (bits term call) term.last else not (nat_le term.first (bits term call) && nat_le (bits term call) term.last)) it.inside
    ∙ sym (one_number term.first term.last (bits term call) it.one)
    ∙ ap (λ r. bit_and (register_of r call) term.mask == term.first) it.register
    ∙ ap (λ mask. bit_and (register_of first.register call) mask == term.first) it.mask

-- a word is the lower half of one of the numbers
abbrev is_low : ℕ → List Term → Bool
is_low word terms = list_any (λ (term : Term). word == low term.first) terms

one_of : (first : Term) (terms : List Term) (call : Record) → list_all (is_alike first) terms ≡ true → high (bits first call) ≡ high first.first
    → holds_one terms call ≡ is_low (low (bits first call)) terms
one_of first [] call all same = refl
one_of first (term ∷ terms) call all same =
    let v = bits first call in
    let it = alike_so first term (and_left (is_alike first term) _ all) in
    ap (λ b. b || holds_one terms call) (holds_alike first term call it ∙ equal_low v term.first (same ∙ sym it.upper))
    ∙ ap (λ b. (low v == low term.first) || b) (one_of first terms call (and_right (is_alike first term) _ all) same)

none_of : (first : Term) (terms : List Term) (call : Record) → list_all (is_alike first) terms ≡ true → (high (bits first call) == high first.first) ≡ false → holds_one terms call ≡ false
none_of first [] call all other = refl
none_of first (term ∷ terms) call all other =
    let v = bits first call in
    let it = alike_so first term (and_left (is_alike first term) _ all) in
    let none : (v == term.first) ≡ false = ne_eqb v term.first (λ e. eqb-false (high v) (high first.first) other (ap high e ∙ it.upper)) in
    ap (λ b. b || holds_one terms call) (holds_alike first term call it ∙ none) ∙ none_of first terms call (and_right (is_alike first term) _ all) other

-- ---- what the code does

or_none : (b : Bool) → (b || false) ≡ b
or_none true = refl
or_none false = refl

equals_on : (term : Term) (terms : List Term) (held failed : ℕ) (rest : List Insn) (call : Record) (t : State) (value : ℕ) → Goes (is_low t.a (term ∷ terms)) held failed rest call value
    → Comes (equals_from term terms held failed ++ rest) 0 call t value
equals_on term [] held failed rest call t value goes =
    branch_on Equal (low term.first) held failed rest call t value
    (known (is_low t.a (term ∷ [])) (t.a == low term.first) held failed rest call t value goes (or_none (t.a == low term.first)))
equals_on term (other ∷ terms) held failed rest call t value goes =
    let behind = equals_from other terms held failed in
    branch_two Equal (low term.first) (length behind + held) 0 (behind ++ rest) call t value
    (λ h. past behind rest held call t value
    (known (is_low t.a (term ∷ (other ∷ terms))) true held failed rest call t value goes (ap (λ b. b || is_low t.a (other ∷ terms)) h)))
    (λ h. equals_on other terms held failed rest call t value
    (same_way (is_low t.a (term ∷ (other ∷ terms))) (is_low t.a (other ∷ terms)) held failed rest call value (ap (λ b. b || is_low t.a (other ∷ terms)) h) goes))

module _ (first term : Term) (terms : List Term) (held failed : ℕ) (rest : List Insn) (call : Record) (value : ℕ) (ok : IsWhole call) (there : AsksThere first) where
  lower_on : (s : State) → Goes (is_low (low (bits first call)) (term ∷ terms)) held failed rest call value → Comes (lower_code first (term ∷ terms) held failed ++ rest) 0 call s value
  lower_on s goes =
      let a = register_of first.register call in
      subst (λ insns. Comes insns 0 call s value) (sym (append_assoc (word_code (low_place first.register) (low first.mask)) (equals_code (term ∷ terms) held failed) rest))
      (word_on (low_place first.register) (low first.mask) (equals_code (term ∷ terms) held failed ++ rest) call s (low a) value (low_there first.register call ok there) (low_fits a)
      (λ t at. equals_on term terms held failed rest call t value
      (same_way (is_low (low (bits first call)) (term ∷ terms)) (is_low t.a (term ∷ terms)) held failed rest call value
      (ap (λ word. is_low word (term ∷ terms)) (low_bits a first.mask ∙ sym at)) goes)))

  pub joined_on : (s : State) → are_joined first (term ∷ terms) held failed ≡ true → Goes (holds_one (term ∷ terms) call) held failed rest call value
      → Comes (joined_code first (term ∷ terms) held failed ++ rest) 0 call s value
  unfolding joined_code
  joined_on s joined goes = by (is_narrow first.register first.mask) refl where
    all : list_all (is_alike first) (term ∷ terms) ≡ true
    all =
        and_right (nat_le (failed + length (term ∷ terms)) 200) _ (and_right (nat_le (held + length (term ∷ terms)) 200) _ (and_right (nat_le 2 (length (term ∷ terms))) _
        (and_right (not (is_narrow first.register first.mask) || (high first.first == 0)) _ joined)))

    -- where the upper half is the one that the numbers have
    same_upper : (t : State) → high (bits first call) ≡ high first.first → Comes (lower_code first (term ∷ terms) held failed ++ rest) 0 call t value
    same_upper t same =
        lower_on t (same_way (holds_one (term ∷ terms) call) (is_low (low (bits first call)) (term ∷ terms)) held failed rest call value (one_of first (term ∷ terms) call all same) goes)

    no_upper : is_narrow first.register first.mask ≡ true → high first.first ≡ 0
    no_upper e =
        let can : (not (is_narrow first.register first.mask) || (high first.first == 0)) ≡ true = and_left _ _ joined in
        eqb-true (high first.first) 0 (subst (λ b. (not b || (high first.first == 0)) ≡ true) e can)

    by : (b : Bool) → is_narrow first.register first.mask ≡ b
        → Comes ((if b then lower_code first (term ∷ terms) held failed
        else word_code (high_place first.register) (high first.mask)
        ++ (branch Equal (high first.first) 0 (length (lower_code first (term ∷ terms) held failed) + failed) ∷ lower_code first (term ∷ terms) held failed)) ++ rest) 0 call s value
    by true e = same_upper s (narrow first.register first.mask call ok e ∙ sym (no_upper e))
    by false e =
        let a = register_of first.register call in
        let behind = lower_code first (term ∷ terms) held failed in
        let asked = branch Equal (high first.first) 0 (length behind + failed) ∷ behind in
        let fits : high a < 2 ^ 32 = omega (arith, register_fits first.register call ok there) in
        subst (λ insns. Comes insns 0 call s value) (sym (append_assoc (word_code (high_place first.register) (high first.mask)) asked rest))
        (word_on (high_place first.register) (high first.mask) (asked ++ rest) call s (high a) value (upper_there first.register first.mask call ok there e) fits
        (λ t at. branch_two Equal (high first.first) 0 (length behind + failed) (behind ++ rest) call t value
        (λ h. same_upper t (high_bits a first.mask ∙ sym at ∙ eqb-true t.a (high first.first) h))
        (λ h. past behind rest failed call t value
        (known (holds_one (term ∷ terms) call) false held failed rest call t value goes
        (none_of first (term ∷ terms) call all (ap (λ word. word == high first.first) (high_bits a first.mask ∙ sym at) ∙ h))))))
