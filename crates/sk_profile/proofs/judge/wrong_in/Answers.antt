use Rattle.std.proofs.Common.{arith, sym, ◌∙◌}
use Rattle.sk_profile.specs.Rows.{IsGood}
use Rattle.sk_profile.specs.Views.{rule_of}
use Rattle.sk_profile.proofs.Judging.{good_rule, one_good, all_good}
use Rattle.sk_profile.proofs.Places.{here, drop_more}
use Rattle.sk_profile.proofs.judge.wrong_in.Goals as goal

pub returns-then-not-is_good-clause-place : goal.returns-then-not-is_good-clause-place
returns-then-not-is_good-clause-place c = (
  rule_of c.in-Some.rule.now,
  here rule_of _ _ _ c.in-Some.rule.now c.loop-rule.place c.loop-rule.invariant.left c.in-Some.ensures.cases.0,
  sym c.if-not-is_good.ensures.good,
)

pub loop-rule-preserved : goal.loop-rule-preserved
loop-rule-preserved c =
    let length = c.in-Some.ensures.cases.1 in
    let whole = c.loop-rule.invariant.place in record {
      left = drop_more c.loop-rule.place c.args.part.now.rules.items _ c.in-Some.rule.now (sym c.loop-rule.invariant.left ∙ c.in-Some.ensures.cases.0);
      place = omega (arith, length, whole);
      good = one_good IsGood _ _ _ c.in-Some.rule.now c.in-Some.ensures.cases.0 (good_rule c.in-Some.rule.now (sym c.if-not-is_good.ensures.good)) c.loop-rule.invariant.good;
    }

pub returns-clause-none : goal.returns-clause-none
returns-clause-none c = all_good IsGood _ _ c.in_default.ensures.cases c.loop-rule.invariant.good
