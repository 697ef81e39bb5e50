-- Rules of ranges.
use Rattle.std.proofs.Common.{◌≡◌, ℕ, ◌+◌, ◌<◌, ◌≤◌, ◌^◌, true, false, if◌then◌else◌, List, [], ◌∷◌, ◌++◌, length, refl, sym, ap, ◌∙◌, subst, inl, inr, arith}
use Rattle.std.specs.Prelude.{All, Contains}
use Rattle.std.proofs.lemmas.Bool.{cases_lt}
use Rattle.std.proofs.lemmas.Bool.Decides.{nat_tests}
use Rattle.std.proofs.lemmas.List.Elements.{All-head, All-tail, All-weaker, All-nil, All-cons, All-append, All-contains_itself}
use Rattle.sk_insn.specs.declared.record.Record.{Record}
use Rattle.sk_names.specs.declared.architecture.Architecture.{Architecture}
use Rattle.sk_policy.specs.declared.policy.Rule.{Rule}
use Rattle.sk_policy.specs.Policies.{is_for, said, says, AreApart, RuleThere, IsWhole}
use Rattle.sk_policy_text.specs.PolicyRows.{Part, times}
use Rattle.sk_policy_text.specs.PolicyRanges.{PartsApart}
use Rattle.sk_policy_text.specs.declared.policy_fault.PolicyFault.{PolicyFault}
use Rattle.sk_policy_text.specs.declared.policy_fault.PolicyFault.TheVariants as fault
use Rattle.sk_policy_text.specs.PolicyRules.{PartsSay, HasElse, AddsGap, IsRuleOf, AreRulesOf, IsUnreadBelow, AreUnruled}
use Rattle.sk_policy_text.proofs.Ranging.{has_inside, once_above, times_cons, none_before}

-- ---- rules behind others

pub says_behind : (front back : List Rule) (default : ℕ) (call : Record) → says (front ++ back) default call ≡ says front (says back default call) call
says_behind [] back default call = refl
says_behind (rule ∷ front) back default call =
    ap (λ other. if is_for rule call.nr then said rule.cases.items rule.otherwise call else other) (says_behind front back default call)

not_above : (rule : Rule) (nr : ℕ) → rule.last < nr → is_for rule nr ≡ false
not_above rule nr above = grind (arith, nat_tests)

not_below : (rule : Rule) (nr : ℕ) → nr < rule.first → is_for rule nr ≡ false
not_below rule nr below = grind (arith, nat_tests)

is_for_inside : (rule : Rule) (nr : ℕ) → rule.first ≤ nr → nr ≤ rule.last → is_for rule nr ≡ true
is_for_inside rule nr from to = grind (arith, nat_tests)

-- none of the rules is for a number above them, or below them
pub says_above : (rules : List Rule) (end default : ℕ) (call : Record) → All (λ (rule : Rule). rule.last < end) rules → end ≤ call.nr → says rules default call ≡ default
says_above [] end default call below from = refl
says_above (rule ∷ rules) end default call below from =
    let first = not_above rule call.nr (omega (arith, from, All-head (λ (rule : Rule). rule.last < end) rule rules below)) in
    ap (λ b. if b then said rule.cases.items rule.otherwise call else says rules default call) first
    ∙ says_above rules end default call (All-tail (λ (rule : Rule). rule.last < end) rule rules below) from

pub says_below : (rules : List Rule) (start default : ℕ) (call : Record) → All (λ (rule : Rule). start ≤ rule.first) rules → call.nr < start → says rules default call ≡ default
says_below [] start default call above to = refl
says_below (rule ∷ rules) start default call above to =
    let first = not_below rule call.nr (omega (arith, to, All-head (λ (rule : Rule). start ≤ rule.first) rule rules above)) in
    ap (λ b. if b then said rule.cases.items rule.otherwise call else says rules default call) first
    ∙ says_below rules start default call (All-tail (λ (rule : Rule). start ≤ rule.first) rule rules above) to

pub apart_behind : (front back : List Rule) (cut : ℕ) → AreApart front → All (λ (rule : Rule). rule.last < cut) front → AreApart back → All (λ (rule : Rule). cut ≤ rule.first) back → AreApart (front ++ back)
apart_behind [] back cut apart below more above = more
apart_behind (rule ∷ front) back cut apart below more above =
    let first = All-head (λ (rule : Rule). rule.last < cut) rule front below in (
      apart.0,
      All-append (λ (other : Rule). rule.last < other.first) front back apart.1
          (All-weaker (λ (rule : Rule). cut ≤ rule.first) (λ (other : Rule). rule.last < other.first) (λ other from. omega (arith, from, first)) back above),
      apart_behind front back cut apart.2 (All-tail (λ (rule : Rule). rule.last < cut) rule front below) more above,
    )

-- ---- rules of the ranges that are passed

-- rules of all numbers below one; from there on only what is left has numbers
pub record Ruled (architecture : Architecture) (others : ℕ) (parts : List Part) (rules : List Rule) (next : ℕ) (left : List Part) : Type 0 where
  pub apart : AreApart rules
  pub below : All (λ (rule : Rule). rule.last < next) rules
  pub there : All RuleThere rules
  pub says : (default : ℕ) (call : Record) → IsWhole call → call.nr < next → PartsSay architecture others parts default call (says rules default call)
  pub past : (nr : ℕ) → next ≤ nr → times parts nr ≡ times left nr
  pub left_apart : PartsApart left
  pub behind : All (λ (part : Part). next ≤ part.first) left
  pub inside : All (Contains parts) left
  pub closed : All HasElse left

pub none_ruled : (architecture : Architecture) (others : ℕ) (parts : List Part) → PartsApart parts → All HasElse parts → Ruled architecture others parts [] 0 parts
none_ruled architecture others parts apart closed = record {
  apart = tt;
  below = All-nil (λ (rule : Rule). rule.last < 0);
  there = All-nil RuleThere;
  says = λ default call whole less. absurd (omega (arith, less));
  past = λ nr from. refl;
  left_apart = apart;
  behind = λ k d less. omega arith;
  inside = All-contains_itself parts;
  closed = closed;
}

pub with_gap : (architecture : Architecture) (others : ℕ) (parts : List Part) (rules new : List Rule) (next end : ℕ) (left : List Part) → Ruled architecture others parts rules next left
    → next ≤ end → All (λ (part : Part). end ≤ part.first) left → AddsGap architecture others next end rules new → Ruled architecture others parts new end left
with_gap architecture others parts rules new next end left ruled order later adds =
    let added = adds.added in
    let gap = adds.gap in
    let above = All-weaker (λ (rule : Rule). (next ≤ rule.first) × (rule.last < end)) (λ (rule : Rule). next ≤ rule.first) (λ rule both. both.0) added gap.within in
    let ends = All-weaker (λ (rule : Rule). (next ≤ rule.first) × (rule.last < end)) (λ (rule : Rule). rule.last < end) (λ rule both. both.1) added gap.within in
    let old = All-weaker (λ (rule : Rule). rule.last < next) (λ (rule : Rule). rule.last < end) (λ rule less. omega (arith, less, order)) rules ruled.below in
    let both : (default : ℕ) (call : Record) → says new default call ≡ says rules (says added default call) call =
    λ default call. ap (λ rules. says rules default call) adds.behind ∙ says_behind rules added default call in record {
      apart = subst AreApart (sym adds.behind) (apart_behind rules added next ruled.apart ruled.below gap.apart above);
      below = subst (All (λ (rule : Rule). rule.last < end)) (sym adds.behind) (All-append (λ (rule : Rule). rule.last < end) rules added old ends);
      there = subst (All RuleThere) (sym adds.behind) (All-append RuleThere rules added ruled.there gap.there);
      says = λ default call whole less. subst (PartsSay architecture others parts default call) (sym (both default call)) (elim (cases_lt call.nr next) [
        | inl earlier ↦ subst (λ default'. PartsSay architecture others parts default call (says rules default' call)) (sym (says_below added next default call above earlier))
            (ruled.says default call whole earlier)
        | inr from ↦ inr (
          ruled.past call.nr from ∙ none_before call.nr left (All-weaker (λ (part : Part). end ≤ part.first) (λ (part : Part). call.nr < part.first)
              (λ part behind. omega (arith, behind, less)) left later),
          says_above rules next (says added default call) call ruled.below from ∙ gap.says default call from less,
        )
      ]);
      past = λ nr from. ruled.past nr (omega (arith, from, order));
      left_apart = ruled.left_apart;
      behind = later;
      inside = ruled.inside;
      closed = ruled.closed;
    }

pub with_rule : (architecture : Architecture) (others : ℕ) (parts : List Part) (rules new : List Rule) (part : Part) (rest : List Part) (rule : Rule)
    → Ruled architecture others parts rules part.first (part ∷ rest) → new ≡ rules ++ rule ∷ [] → IsRuleOf part rule → Ruled architecture others parts new (part.last + 1) rest
with_rule architecture others parts rules new part rest rule ruled is one =
    let some = ruled.left_apart.0 in
    let old = All-weaker (λ (rule : Rule). rule.last < part.first) (λ (rule : Rule). rule.last < part.last + 1) (λ rule less. omega (arith, less, some)) rules ruled.below in
    let above = All-cons (λ (rule : Rule). part.first ≤ rule.first) rule [] (omega (arith, one.first)) (All-nil (λ (rule : Rule). part.first ≤ rule.first)) in
    let last = All-cons (λ (rule : Rule). rule.last < part.last + 1) rule [] (omega (arith, one.last)) (All-nil (λ (rule : Rule). rule.last < part.last + 1)) in
    let alone : AreApart (rule ∷ []) = (omega (arith, one.first, one.last, some), All-nil (λ (other : Rule). rule.last < other.first), tt) in
    let both : (default : ℕ) (call : Record) → says new default call ≡ says rules (says (rule ∷ []) default call) call =
    λ default call. ap (λ rules. says rules default call) is ∙ says_behind rules (rule ∷ []) default call in record {
      apart = subst AreApart (sym is) (apart_behind rules (rule ∷ []) part.first ruled.apart ruled.below alone above);
      below = subst (All (λ (rule : Rule). rule.last < part.last + 1)) (sym is) (All-append (λ (rule : Rule). rule.last < part.last + 1) rules (rule ∷ []) old last);
      there = subst (All RuleThere) (sym is) (All-append RuleThere rules (rule ∷ []) ruled.there (All-cons RuleThere rule [] one.there (All-nil RuleThere)));
      says = λ default call whole less. subst (PartsSay architecture others parts default call) (sym (both default call)) (elim (cases_lt call.nr part.first) [
        | inl earlier ↦ subst (λ default'. PartsSay architecture others parts default call (says rules default' call)) (sym (says_below (rule ∷ []) part.first default call above earlier))
            (ruled.says default call whole earlier)
        | inr from ↦
            let is_it = is_for_inside rule call.nr (omega (arith, from, one.first)) (omega (arith, less, one.last)) in
            let it : says (rule ∷ []) default call ≡ said rule.cases.items rule.otherwise call =
            ap (λ b. if b then said rule.cases.items rule.otherwise call else default) is_it in
            let all = says_above rules part.first (says (rule ∷ []) default call) call ruled.below from ∙ it in
            subst (PartsSay architecture others parts default call) (sym all) (inl (record {
              part = part;
              there = All-head (Contains parts) part rest ruled.inside;
              has = has_inside call.nr part from (omega (arith, less));
              says = one.says call whole;
            }))
      ]);
      past = λ nr from. ruled.past nr (omega (arith, from, some)) ∙ omega (arith, times_cons part rest nr, once_above nr part (omega (arith, from)));
      left_apart = ruled.left_apart.2;
      behind = All-weaker (λ (other : Part). part.last < other.first) (λ (other : Part). part.last + 1 ≤ other.first) (λ other less. omega (arith, less)) rest ruled.left_apart.1;
      inside = All-tail (Contains parts) part rest ruled.inside;
      closed = All-tail HasElse part rest ruled.closed;
    }

pub all_ruled : (architecture : Architecture) (others : ℕ) (parts : List Part) (rules : List Rule) → Ruled architecture others parts rules (2 ^ 32) [] → AreRulesOf architecture others parts rules
all_ruled architecture others parts rules ruled = record {
  apart = ruled.apart;
  within = All-weaker (λ (rule : Rule). rule.last < 2 ^ 32) (λ (rule : Rule). (0 ≤ rule.first) × (rule.last ≤ 0xffffffff)) (λ rule less. (omega arith, omega (arith, less))) rules ruled.below;
  there = ruled.there;
  says = λ default call whole. ruled.says default call whole whole.is_call.number;
}

pub later_parts : (part : Part) (rest : List Part) → PartsApart (part ∷ rest) → All (λ (other : Part). part.first ≤ other.first) (part ∷ rest)
later_parts part rest apart = All-cons (λ (other : Part). part.first ≤ other.first) part rest (omega arith)
    (All-weaker (λ (other : Part). part.last < other.first) (λ (other : Part). part.first ≤ other.first) (λ other less. omega (arith, less, apart.0)) rest apart.1)

pub unread_among : (parts : List Part) (part : Part) (rest : List Part) (it : PolicyFault) → All (Contains parts) (part ∷ rest) → IsUnreadBelow part.behind it → AreUnruled parts it
unread_among parts part rest (fault.Wrong line why) inside unread = record { part = part; there = All-head (Contains parts) part rest inside; unread = unread }
unread_among parts part rest (fault.Twice it) inside unread = absurd unread
unread_among parts part rest (fault.Missing nr) inside unread = absurd unread
unread_among parts part rest fault.TooLong inside unread = absurd unread
unread_among parts part rest fault.Memory inside unread = tt

pub none_left : {X : Type 0} (xs : List X) → length xs ≡ 0 → xs ≡ []
none_left [] e = refl
none_left (x ∷ xs) e = absurd (omega (arith, e))
