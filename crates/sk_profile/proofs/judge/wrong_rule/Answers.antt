use Rattle.std.proofs.Common.{arith, sym, ◌∙◌}
use Rattle.sk_profile.specs.Rows.{AreGood}
use Rattle.sk_profile.specs.Views.{part_of}
use Rattle.sk_profile.proofs.Judging.{one_good, all_good}
use Rattle.sk_profile.proofs.Places.{here, drop_more}
use Rattle.sk_profile.proofs.judge.wrong_rule.Goals as goal

pub returns-in-Some-wrong_in-clause-place : goal.returns-in-Some-wrong_in-clause-place
returns-in-Some-wrong_in-clause-place c = (
  part_of c.in-Some.first.now,
  here part_of _ _ _ c.in-Some.first.now c.loop-first.part c.loop-first.invariant.left c.in-Some.ensures.cases.0,
  c.in-Some-wrong_in.ensures.place,
)

pub loop-first-preserved : goal.loop-first-preserved
loop-first-preserved c =
    let length = c.in-Some.ensures.cases.1 in
    let whole = c.loop-first.invariant.place in record {
      left = drop_more c.loop-first.part c.args.profile.now.parts.items _ c.in-Some.first.now (sym c.loop-first.invariant.left ∙ c.in-Some.ensures.cases.0);
      place = omega (arith, length, whole);
      good = one_good AreGood _ _ _ c.in-Some.first.now c.in-Some.ensures.cases.0 c.in_default-wrong_in.ensures.none c.loop-first.invariant.good;
    }

pub returns-clause-none : goal.returns-clause-none
returns-clause-none c = all_good AreGood _ _ c.in_default.ensures.cases c.loop-first.invariant.good
