-- The code of a term goes on at one place where it holds, and else at the other, however far these are.
use Rattle.std.proofs.Common.{◌≡◌, ℕ, ◌+◌, ◌==◌, ◌&&◌, ◌≤◌, Bool, true, false, if◌then◌else◌, nat_lt, nat_le, not, bit_and, List, [], ◌∷◌, ◌++◌, length, refl, ap, sym, ◌∙◌, subst, arith, append_assoc}
use Rattle.std.proofs.lemmas.Bool.{eqb-true, leb-true}
use Rattle.std.proofs.lemmas.Bool.Decides.{nat_tests}
use Rattle.std.proofs.lemmas.Nat.{and_le_r}
use Rattle.sk_insn.specs.declared.insn.Insn.{Insn}
use Rattle.sk_insn.specs.declared.record.Record.{Record}
use Rattle.sk_filter.specs.Meaning.{State}
use Rattle.sk_profile.specs.Code.{jump}
use Rattle.sk_profile.proofs.Steps.{Comes, jump_on, past}
use Rattle.sk_profile.proofs.Conditions.{Goes, turned}
use Rattle.sk_terms.specs.declared.term.Term.{Term}
use Rattle.sk_terms.specs.Terms.{register_of, takes, holds_term}
use Rattle.sk_policy.specs.declared.test.Test.TheVariants.{Is, Above, AtLeast}
use Rattle.sk_policy.specs.Code.{test_code, bounds_code, range_code, term_code, placed_code}
use Rattle.sk_policy.specs.Policies.{IsWhole, AsksThere}
use Rattle.sk_policy.proofs.Tests.{same_way, test_on}

-- the range of a term
abbrev lies : Term → ℕ → Bool
lies term n = nat_le term.first n && nat_le n term.last

pub one_number : (first last v : ℕ) → first ≡ last → (v == first) ≡ (nat_le first v && nat_le v last)
one_number first last v same = grind (arith, nat_tests, same)

to_all : (first last mask v : ℕ) → v ≤ mask → mask ≤ last → nat_le first v ≡ (nat_le first v && nat_le v last)
to_all first last mask v inside all = grind (arith, nat_tests, inside, all)

above_lies : (first last v : ℕ) → first ≡ 0 → nat_lt last v ≡ not (nat_le first v && nat_le v last)
above_lies first last v none = grind (arith, nat_tests, none)

not_not : (b : Bool) → b ≡ not (not b)
not_not true = refl
not_not false = refl

within : (a mask : ℕ) → bit_and a mask ≤ mask
within a mask = and_le_r a mask

module _ (term : Term) (rest : List Insn) (call : Record) (value : ℕ) (ok : IsWhole call) (there : AsksThere term) where
  abbrev bits : ℕ
  bits = bit_and (register_of term.register call) term.mask

  -- below the first number the second bound is passed over
  both : (b c : Bool) (behind : List Insn) (held failed : ℕ) → Goes (b && c) held failed rest call value
      → ((t : State) → Goes c held failed rest call value → Comes (behind ++ rest) 0 call t value) → Goes b 0 (length behind + failed) (behind ++ rest) call value
  both true c behind held failed goes onward t = onward t goes
  both false c behind held failed goes onward t = past behind rest failed call t value (goes t)

  bounds_on : (held failed : ℕ) (s : State) → Goes (lies term bits) held failed rest call value → Comes (bounds_code term held failed ++ rest) 0 call s value
  bounds_on held failed s goes =
      let behind = test_code Above term.register term.mask term.last failed held in
      subst (λ insns. Comes insns 0 call s value) (sym (append_assoc (test_code AtLeast term.register term.mask term.first 0 (length behind + failed)) behind rest))
      (test_on term.register term.mask term.first 0 (length behind + failed) (behind ++ rest) call value ok there AtLeast s
      (both (nat_le term.first bits) (nat_le bits term.last) behind held failed goes
      (λ t onward. test_on term.register term.mask term.last failed held rest call value ok there Above t
      (turned (nat_le bits term.last) (nat_lt term.last bits) held failed rest call value (above_not term.last bits) onward)))) where
        above_not : (last v : ℕ) → nat_lt last v ≡ not (nat_le v last)
        above_not last v = grind (arith, nat_tests)

  range_on : (held failed : ℕ) (s : State) → Goes (lies term bits) held failed rest call value → Comes (range_code term held failed ++ rest) 0 call s value
  range_on held failed s goes = by_one (term.first == term.last) refl where
    by_all : (b : Bool) → nat_le term.mask term.last ≡ b
        → Comes ((if b then test_code AtLeast term.register term.mask term.first held failed else bounds_code term held failed) ++ rest) 0 call s value
    by_all true e =
        test_on term.register term.mask term.first held failed rest call value ok there AtLeast s
        (same_way (lies term bits) (nat_le term.first bits) held failed rest call value (sym (to_all term.first term.last term.mask bits (within (register_of term.register call) term.mask) (leb-true term.mask term.last e))) goes)
    by_all false e = bounds_on held failed s goes

    by_0 : (b : Bool) → (term.first == 0) ≡ b
        → Comes ((if b then test_code Above term.register term.mask term.last failed held
        else if nat_le term.mask term.last then test_code AtLeast term.register term.mask term.first held failed
        else bounds_code term held failed) ++ rest) 0 call s value
    by_0 true e =
        test_on term.register term.mask term.last failed held rest call value ok there Above s
        (turned (lies term bits) (nat_lt term.last bits) held failed rest call value (above_lies term.first term.last bits (eqb-true term.first 0 e)) goes)
    by_0 false e = by_all (nat_le term.mask term.last) refl

    by_one : (b : Bool) → (term.first == term.last) ≡ b
        → Comes ((if b then test_code Is term.register term.mask term.first held failed
        else if term.first == 0 then test_code Above term.register term.mask term.last failed held
        else if nat_le term.mask term.last then test_code AtLeast term.register term.mask term.first held failed
        else bounds_code term held failed) ++ rest) 0 call s value
    by_one true e =
        test_on term.register term.mask term.first held failed rest call value ok there Is s
        (same_way (lies term bits) (bits == term.first) held failed rest call value (sym (one_number term.first term.last bits (eqb-true term.first term.last e))) goes)
    by_one false e = by_0 (term.first == 0) refl

  pub term_on : (held failed : ℕ) (s : State) → Goes (holds_term term call) held failed rest call value → Comes (term_code term held failed ++ rest) 0 call s value
  unfolding term_code
  term_on held failed s goes = by term.inside refl where
    by : (b : Bool) → term.inside ≡ b → Comes ((if b then range_code term held failed else range_code term failed held) ++ rest) 0 call s value
    by true e = range_on held failed s (same_way (takes term bits) (lies term bits) held failed rest call value (ap (λ inside. if inside then lies term bits else not (lies term bits)) e) goes)
    by false e =
        range_on failed held s
        (turned (takes term bits) (lies term bits) held failed rest call value (not_not (lies term bits) ∙ ap (λ inside. not (if inside then lies term bits else not (lies term bits))) (sym e)) goes)

-- by jumps that reach any distance
jumps_on : (b : Bool) (held failed : ℕ) (rest : List Insn) (call : Record) (value : ℕ) → Goes b held failed rest call value → Goes b 0 1 (jump (1 + held) ∷ jump failed ∷ rest) call value
jumps_on true held failed rest call value goes s =
    jump_on (1 + held) (jump failed ∷ rest) call s value (past (jump failed ∷ []) rest held call s value (goes s))
jumps_on false held failed rest call value goes s = past (jump (1 + held) ∷ []) (jump failed ∷ rest) 0 call s value (jump_on failed rest call s value (goes s))

pub placed_on : (term : Term) (held failed : ℕ) (rest : List Insn) (call : Record) (s : State) (value : ℕ) → IsWhole call → AsksThere term
    → Goes (holds_term term call) held failed rest call value → Comes (placed_code term held failed ++ rest) 0 call s value
unfolding placed_code
placed_on term held failed rest call s value ok there goes = by (nat_le held 200 && nat_le failed 200) where
  by : (b : Bool) → Comes ((if b then term_code term held failed else term_code term 0 1 ++ jump (1 + held) ∷ jump failed ∷ []) ++ rest) 0 call s value
  by true = term_on term rest call value ok there held failed s goes
  by false =
      subst (λ insns. Comes insns 0 call s value) (sym (append_assoc (term_code term 0 1) (jump (1 + held) ∷ jump failed ∷ []) rest))
      (term_on term (jump (1 + held) ∷ jump failed ∷ rest) call value ok there 0 1 s (jumps_on (holds_term term call) held failed rest call value goes))
