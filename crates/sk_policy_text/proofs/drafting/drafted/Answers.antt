use Rattle.std.proofs.Common.{◌≡◌, arith, map, sym, subst, ◌∙◌, ◌≤◌, rules}
use Rattle.std.specs.Prelude.{unwrap_or}
use Rattle.std.proofs.lemmas.Bool.{leb-true, leb-false}
use Rattle.std.proofs.lemmas.List.Sorted.{All-permutation}
use Rattle.sk_policy_text.specs.PolicyRows.{parts_of, sentences_of, default_of, others_of}
use Rattle.sk_policy_text.specs.PolicyRanges.{part_of}
use Rattle.sk_policy_text.specs.PolicyRules.{AreUnruled, HasElse, PartsSay}
use Rattle.sk_policy.specs.Policies.{says}
use Rattle.sk_policy_text.proofs.Bounding.{bound_moved, cases_few}
use Rattle.sk_policy_text.proofs.Moving.{twice_moved, once_moved, cases_moved, all_closed, unruled_fault, says_moved}
use Rattle.sk_policy_text.proofs.drafting.drafted.Goals as goal

pub returns-in-Some-clause-fault : goal.returns-in-Some-clause-fault
returns-in-Some-clause-fault c = (c.requires.right, twice_moved _ _ c.in-Some.twice c.requires.same c.in-Some.ensures.twice)

pub returns-in-Some-missing-clause-fault : goal.returns-in-Some-missing-clause-fault
returns-in-Some-missing-clause-fault c = (
  c.requires.right,
  once_moved c.args.text.now _ c.requires.same c.in_default.ensures.none,
  c.in-Some-missing.ensures.missing,
)

pub returns-then-not-are_few-clause-fault : goal.returns-then-not-are_few-clause-fault
returns-then-not-are_few-clause-fault c = (
  c.requires.right,
  once_moved c.args.text.now _ c.requires.same c.in_default.ensures.none,
  c.in_default-missing.ensures.none,
  omega (
    arith,
    leb-false _ 4096 (sym c.are_few.ensures.few ∙ c.if-not-are_few.true),
    cases_few (map part_of c.args.spans.now),
    bound_moved (parts_of c.args.text.now) (map part_of c.args.spans.now) c.requires.same,
  ),
)

pub rules_of-requires-clause-closed : goal.rules_of-requires-clause-closed
rules_of-requires-clause-closed c = All-permutation HasElse _ _ c.requires.same (all_closed _ c.args.text.now c.requires.right)

pub returns-in_err-rules-clause-fault : goal.returns-in_err-rules-clause-fault
returns-in_err-rules-clause-fault c =
    let moved = map part_of c.args.spans.now in
    let unruled : AreUnruled moved c.in_err-rules.field-0.0 = c.in_err-rules.ensures.fault in
    let it = unruled_fault c.args.text.now moved c.in_err-rules.field-0.0 c.requires.same c.requires.right
    (once_moved c.args.text.now moved c.requires.same c.in_default.ensures.none) c.in_default-missing.ensures.none unruled in
    search rules

pub returns-clause-policy : goal.returns-clause-policy
returns-clause-policy c =
    let text = c.args.text.now in
    let moved = map part_of c.args.spans.now in
    let on = c.architecture_of-architecture.ensures.of in
    let others = c.others_of-others.ensures.of in
    let default : c.unwrap_or.result ≡ unwrap_or (default_of (sentences_of text)) 0 = cc in
    let rules = c.in_ok-rules.ensures.rules in record {
      right = c.requires.right;
      once = once_moved text moved c.requires.same c.in_default.ensures.none;
      named = c.in_default-missing.ensures.none;
      few = subst (λ n. n ≤ 4096) (cases_moved _ moved c.requires.same) (leb-true _ 4096 (sym c.are_few.ensures.few ∙ c.if-not-are_few.false));
      audit = cc;
      others = others;
      apart = rules.apart;
      within = rules.within;
      there = rules.there;
      size = omega (arith, c.in_ok-rules.ensures.size, bound_moved (parts_of text) moved c.requires.same);
      says = λ call whole.
          let said = rules.says c.unwrap_or.result call whole in
          says_moved text moved call _ c.requires.same c.in_default-missing.ensures.none whole.is_call.number
          (subst (λ on. PartsSay on (others_of (sentences_of text)) moved (unwrap_or (default_of (sentences_of text)) 0) call
          (says c.in_ok-rules.rules.items c.unwrap_or.result call)) on
          (subst (λ others. PartsSay c.architecture_of-architecture.result others moved (unwrap_or (default_of (sentences_of text)) 0) call
          (says c.in_ok-rules.rules.items c.unwrap_or.result call)) others
          (subst (λ default. PartsSay c.architecture_of-architecture.result c.others_of-others.result moved default call
          (says c.in_ok-rules.rules.items c.unwrap_or.result call)) default said)));
    }
