use Rattle.std.proofs.Common.{arith, sym, ◌∙◌}
use Rattle.sk_profile.specs.CodeViews.{arm_of}
use Rattle.sk_profile.proofs.Clearing.{rest_good}
use Rattle.sk_profile.proofs.Places.{here, drop_more, none_more}
use Rattle.sk_profile.proofs.clash.clash_with.Goals as goal

pub returns-in-Some-clashing-clause-place : goal.returns-in-Some-clashing-clause-place
returns-in-Some-clashing-clause-place c = record {
  other = arm_of c.in-Some.other.now;
  at_place = here arm_of _ _ _ c.in-Some.other.now c.loop-other.place c.loop-other.invariant.left c.in-Some.ensures.cases.0;
  fits = c.in-Some-clashing.ensures.fits;
  differ = c.in-Some-clashing.ensures.differ;
}

pub loop-other-preserved : goal.loop-other-preserved
loop-other-preserved c =
    let length = c.in-Some.ensures.cases.1 in
    let whole = c.loop-other.invariant.place in record {
      left = drop_more c.loop-other.place c.args.others.now _ c.in-Some.other.now (sym c.loop-other.invariant.left ∙ c.in-Some.ensures.cases.0);
      place = omega (arith, length, whole);
      good = rest_good _ _ _ c.in-Some.ensures.cases.0 c.loop-other.invariant.good;
      so_far = none_more c.args.narrow (arm_of c.args.arm.now) _ _ c.args.others.now c.in-Some.other.now c.in-Some.ensures.cases.0 c.in_default-clashing.ensures.none c.loop-other.invariant.so_far;
    }
