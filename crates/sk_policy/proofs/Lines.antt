-- The code of a condition goes on at one place where a call meets it, and else at the other.
use Rattle.std.proofs.Common.{◌≡◌, ℕ, ◌+◌, ◌&&◌, ◌||◌, Bool, true, false, if◌then◌else◌, List, [], ◌∷◌, ◌++◌, length, refl, sym, subst, append_assoc}
use Rattle.std.specs.Prelude.{All}
use Rattle.std.proofs.lemmas.List.Elements.{All-head, All-tail}
use Rattle.sk_insn.specs.declared.insn.Insn.{Insn}
use Rattle.sk_insn.specs.declared.record.Record.{Record}
use Rattle.sk_filter.specs.Meaning.{State}
use Rattle.sk_profile.proofs.Steps.{Comes, jump_on, past}
use Rattle.sk_profile.proofs.Conditions.{Goes}
use Rattle.sk_terms.specs.declared.choices.Choice.{Choice}
use Rattle.sk_terms.specs.declared.term.Term.{Term}
use Rattle.sk_terms.specs.Terms.{holds_term}
use Rattle.sk_terms.specs.Lines.{holds_one, holds_choice, meets_choices}
use Rattle.sk_policy.specs.Code.{placed_code, choice_from, are_joined, joined_code, choice_code, line_from, line_code}
use Rattle.sk_policy.specs.Policies.{IsWhole, AsksThere, AllThere}
use Rattle.sk_policy.proofs.Tests.{same_way}
use Rattle.sk_policy.proofs.Terms.{placed_on}
use Rattle.sk_policy.proofs.Among.{joined_on}

or_false : (b : Bool) → (b || false) ≡ b
or_false true = refl
or_false false = refl

and_true : (b : Bool) → (b && true) ≡ b
and_true true = refl
and_true false = refl

-- where the first does not hold the others are asked
or_next : (b others : Bool) (behind : List Insn) (held failed : ℕ) (rest : List Insn) (call : Record) (value : ℕ)
    → ((t : State) → Goes others held failed rest call value → Comes (behind ++ rest) 0 call t value)
    → Goes (b || others) held failed rest call value → Goes b (length behind + held) 0 (behind ++ rest) call value
or_next true others behind held failed rest call value onward goes t = past behind rest held call t value (goes t)
or_next false others behind held failed rest call value onward goes t = onward t goes

-- where it does, the others are asked
and_next : (b others : Bool) (behind : List Insn) (held failed : ℕ) (rest : List Insn) (call : Record) (value : ℕ)
    → ((t : State) → Goes others held failed rest call value → Comes (behind ++ rest) 0 call t value)
    → Goes (b && others) held failed rest call value → Goes b 0 (length behind + failed) (behind ++ rest) call value
and_next true others behind held failed rest call value onward goes t = onward t goes
and_next false others behind held failed rest call value onward goes t = past behind rest failed call t value (goes t)

choice_from_on : (term : Term) (terms : List Term) (held failed : ℕ) (rest : List Insn) (call : Record) (s : State) (value : ℕ) → IsWhole call → All AsksThere (term ∷ terms)
    → Goes (holds_one (term ∷ terms) call) held failed rest call value → Comes (choice_from term terms held failed ++ rest) 0 call s value
choice_from_on term [] held failed rest call s value ok there goes =
    placed_on term held failed rest call s value ok (All-head AsksThere term [] there) (same_way (holds_one (term ∷ []) call) (holds_term term call) held failed rest call value (or_false (holds_term term call)) goes)
choice_from_on term (other ∷ terms) held failed rest call s value ok there goes =
    let behind = choice_from other terms held failed in
    subst (λ insns. Comes insns 0 call s value) (sym (append_assoc (placed_code term (length behind + held) 0) behind rest))
    (placed_on term (length behind + held) 0 (behind ++ rest) call s value ok (All-head AsksThere term (other ∷ terms) there)
    (or_next (holds_term term call) (holds_one (other ∷ terms) call) behind held failed rest call value
    (λ t onward. choice_from_on other terms held failed rest call t value ok (All-tail AsksThere term (other ∷ terms) there) onward) goes))

choice_on : (terms : List Term) (held failed : ℕ) (rest : List Insn) (call : Record) (s : State) (value : ℕ) → IsWhole call → All AsksThere terms
    → Goes (holds_one terms call) held failed rest call value → Comes (choice_code terms held failed ++ rest) 0 call s value
choice_on [] held failed rest call s value ok there goes = jump_on failed rest call s value (goes s)
choice_on (term ∷ terms) held failed rest call s value ok there goes = by (are_joined term (term ∷ terms) held failed) refl where
  by : (b : Bool) → are_joined term (term ∷ terms) held failed ≡ b
      → Comes ((if b then joined_code term (term ∷ terms) held failed else choice_from term terms held failed) ++ rest) 0 call s value
  by true e = joined_on term term terms held failed rest call value ok (All-head AsksThere term terms there) s e goes
  by false e = choice_from_on term terms held failed rest call s value ok there goes

abbrev ChoiceThere : Choice → Type 0
ChoiceThere choice = All AsksThere choice.terms.items

line_from_on : (choice : Choice) (choices : List Choice) (held failed : ℕ) (rest : List Insn) (call : Record) (s : State) (value : ℕ) → IsWhole call → AllThere (choice ∷ choices)
    → Goes (meets_choices (choice ∷ choices) call) held failed rest call value → Comes (line_from choice choices held failed ++ rest) 0 call s value
line_from_on choice [] held failed rest call s value ok there goes =
    choice_on choice.terms.items held failed rest call s value ok (All-head ChoiceThere choice [] there)
    (same_way (meets_choices (choice ∷ []) call) (holds_choice choice call) held failed rest call value (and_true (holds_choice choice call)) goes)
line_from_on choice (other ∷ choices) held failed rest call s value ok there goes =
    let behind = line_from other choices held failed in
    subst (λ insns. Comes insns 0 call s value) (sym (append_assoc (choice_code choice.terms.items 0 (length behind + failed)) behind rest))
    (choice_on choice.terms.items 0 (length behind + failed) (behind ++ rest) call s value ok (All-head ChoiceThere choice (other ∷ choices) there)
    (and_next (holds_choice choice call) (meets_choices (other ∷ choices) call) behind held failed rest call value
    (λ t onward. line_from_on other choices held failed rest call t value ok (All-tail ChoiceThere choice (other ∷ choices) there) onward) goes))

pub line_on : (choices : List Choice) (held failed : ℕ) (rest : List Insn) (call : Record) (s : State) (value : ℕ) → IsWhole call → AllThere choices
    → Goes (meets_choices choices call) held failed rest call value → Comes (line_code choices held failed ++ rest) 0 call s value
line_on [] held failed rest call s value ok there goes = jump_on held rest call s value (goes s)
line_on (choice ∷ choices) held failed rest call s value ok there goes = line_from_on choice choices held failed rest call s value ok there goes
