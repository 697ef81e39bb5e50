-- Rules of which each joins the one before it, as one.
use Rattle.std.proofs.Common.{◌≡◌, Bool, true, false, ◌==◌, ◌&&◌, ℕ, ◌+◌, ◌-◌, ◌<◌, ◌≤◌, nat_le, List, [], ◌∷◌, ◌++◌, length, get_or, take, drop, refl, ap, sym, ◌∙◌, arith}
use Rattle.std.proofs.lemmas.Bool.{cases_Bool, le-leb, lt-leb, eqb-true, leb-false}
use Rattle.std.proofs.lemmas.List.{take_all}
use Rattle.sk_insn.specs.declared.insn.Insn.{Insn}
use Rattle.sk_insn.specs.declared.record.Record.{Record}
use Rattle.sk_profile.specs.Code.{answer}
use Rattle.sk_policy.specs.declared.cases.Case.{Case}
use Rattle.sk_policy.specs.declared.policy.Rule.{Rule}
use Rattle.sk_policy.specs.Code.{head_code}
use Rattle.sk_policy.specs.Emitting.{joins, joins_all, end_of, Emits}
use Rattle.sk_policy.specs.Policies.{said, is_for, says, AreApart}
use Rattle.sk_policy.proofs.Among.{and_left, and_right}
use Rattle.sk_policy.proofs.Ruling.{joined, one_answer}

plain_said : (cases : List Case) (otherwise : ℕ) (call : Record) → length cases ≡ 0 → said cases otherwise call ≡ otherwise
plain_said [] otherwise call none = refl
plain_said (first ∷ cases) otherwise call none = absurd (omega (arith, none))

-- what `joins` says
record Joins (rule next : Rule) : Type 0 where
  plain : length rule.cases.items ≡ 0
  behind : rule.last + 1 ≡ next.first
  same : rule.otherwise ≡ next.otherwise

joins_so : (rule next : Rule) → joins rule next ≡ true → Joins rule next
joins_so rule next e =
    let plain = and_left (length rule.cases.items == 0) _ e in
    let more = and_right (length rule.cases.items == 0) _ e in
    let last = and_right (length next.cases.items == 0) _ more in record {
      plain = eqb-true (length rule.cases.items) 0 plain;
      behind = eqb-true (rule.last + 1) next.first (and_left (rule.last + 1 == next.first) _ last);
      same = eqb-true rule.otherwise next.otherwise (and_right (rule.last + 1 == next.first) _ last);
    }

outside : (rule : Rule) (nr : ℕ) → rule.last < nr → is_for rule nr ≡ false
outside rule nr above = by (nat_le rule.first nr) where
  by : (b : Bool) → (b && nat_le nr rule.last) ≡ false
  by true = lt-leb nr rule.last above
  by false = refl

-- of each number up to the last the same is said
pub run_says : (rule : Rule) (rules : List Rule) (default : ℕ) (call : Record) → joins_all rule rules ≡ true → rule.first ≤ call.nr → call.nr ≤ end_of rule rules
    → says (rule ∷ rules) default call ≡ rule.otherwise
run_says rule [] default call all from to =
    rw (le-leb rule.first call.nr from, le-leb call.nr rule.last to) (plain_said rule.cases.items rule.otherwise call (eqb-true (length rule.cases.items) 0 all))
run_says rule (next ∷ rules) default call all from to =
    let it = joins_so rule next (and_left (joins rule next) (joins_all next rules) all) in
    elim (cases_Bool (nat_le call.nr rule.last)) [
      | Rattle.std.proofs.Common.inl inside ↦ rw (le-leb rule.first call.nr from, inside) (plain_said rule.cases.items rule.otherwise call it.plain)
      | Rattle.std.proofs.Common.inr above ↦
          let past = leb-false call.nr rule.last above in
          rw (outside rule call.nr past)
          (run_says next rules default call (and_right (joins rule next) (joins_all next rules) all) (omega (arith, it.behind, past)) to ∙ sym it.same)
    ]

-- and behind it the default
pub run_ends : (rule : Rule) (rules : List Rule) (default : ℕ) (call : Record) → AreApart (rule ∷ rules) → end_of rule rules < call.nr → says (rule ∷ rules) default call ≡ default
run_ends rule [] default call apart above = rw (outside rule call.nr above) refl
run_ends rule (next ∷ rules) default call apart above =
    rw (outside rule call.nr (omega (arith, ends next rules apart.2, first_behind, apart.2.0, above))) (run_ends next rules default call apart.2 above) where
      first_behind : rule.last < next.first
      first_behind = Rattle.std.proofs.lemmas.List.Elements.All-head (λ (other : Rule). rule.last < other.first) next rules apart.1

      ends : (one : Rule) (others : List Rule) → AreApart (one ∷ others) → one.last ≤ end_of one others
      ends one [] apart = omega arith
      ends one (other ∷ others) apart =
          let behind = Rattle.std.proofs.lemmas.List.Elements.All-head (λ (other : Rule). one.last < other.first) other others apart.1 in
          omega (arith, behind, apart.2.0, ends other others apart.2)

pub run_short : (old new : List Insn) (rule : Rule) (rules : List Rule) (default start end : ℕ) → rule.first ≤ start → joins_all rule rules ≡ true → end ≤ end_of rule rules → new ≡ answer rule.otherwise ∷ old
    → Emits old new (rule ∷ rules) default start end
run_short old new rule rules default start end first all short is =
    one_answer old new (rule ∷ rules) default start end rule.otherwise is
    (λ call from to. run_says rule rules default call all (omega (arith, from, first)) (omega (arith, to, short)))

run_last : (rule : Rule) (rules : List Rule) → AreApart (rule ∷ rules) → rule.first ≤ end_of rule rules
run_last rule [] apart = apart.0
run_last rule (next ∷ rules) apart =
    let behind = Rattle.std.proofs.lemmas.List.Elements.All-head (λ (other : Rule). rule.last < other.first) next rules apart.1 in
    omega (arith, apart.0, behind, run_last next rules apart.2)

pub run_more : (old new : List Insn) (rule : Rule) (rules : List Rule) (default start end : ℕ) → rule.first ≡ start → AreApart (rule ∷ rules) → joins_all rule rules ≡ true
    → new ≡ head_code (end_of rule rules + 1) 1 ++ (answer rule.otherwise ∷ answer default ∷ old) → Emits old new (rule ∷ rules) default start end
run_more old new rule rules default start end first apart all is =
    let last = end_of rule rules in
    let above = answer default ∷ old in
    let mid = answer rule.otherwise ∷ above in
    joined old above mid new (rule ∷ rules) (rule ∷ rules) (rule ∷ rules) default start end (last + 1) 1 (omega (arith, run_last rule rules apart, first))
    (λ call from less. refl)
    (λ call up to. refl)
    (one_answer old above (rule ∷ rules) default (last + 1) end default refl (λ call up to. run_ends rule rules default call apart (omega (arith, up))))
    (one_answer above mid (rule ∷ rules) default start (last + 1 - 1) rule.otherwise refl
    (λ call from to. run_says rule rules default call all (omega (arith, from, first)) (omega (arith, to))))
    (omega arith) is

-- the first of rules, and those behind it
pub first_and_rest : (rules : List Rule) (d : Rule) → 0 < length rules → rules ≡ get_or rules 0 d ∷ take (length rules - 1) (drop 1 rules)
first_and_rest [] d some = absurd (omega (arith, some))
first_and_rest (rule ∷ rules) d some =
    let e : length (rule ∷ rules) - 1 ≡ length rules = omega arith in
    ap (λ (rest : List Rule). rule ∷ rest) (sym (take_all (length (rule ∷ rules) - 1) rules (omega arith)))
