use Rattle.std.proofs.Common.{arith, refl, sym, ◌∙◌}
use Rattle.sk_profile.proofs.Clearing.{arm_more, rest_good, nothing_left}
use Rattle.sk_profile.proofs.Places.{found, drop_more}
use Rattle.sk_profile.proofs.clash.clash.Goals as goal

pub returns-in-Some-clash_with-clause-clash : goal.returns-in-Some-clash_with-clause-clash
returns-in-Some-clash_with-clause-clash c =
    found c.args.saying.now.narrow c.args.saying.now.otherwise _ _ _ c.in-Some.arm.now _ c.in-Some-clash_with.other.place c.loop-arm.invariant.left c.in-Some.ensures.cases.0 refl
    c.in-Some-clash_with.ensures.place c.args.arch c.args.nr (omega (arith, c.ranges.arch.fits)) (omega (arith, c.ranges.nr.fits))

pub loop-arm-preserved : goal.loop-arm-preserved
loop-arm-preserved c =
    let length = c.in-Some.ensures.cases.1 in
    let whole = c.loop-arm.invariant.first in record {
      left = drop_more c.loop-arm.first c.args.saying.now.arms.items _ c.in-Some.arm.now (sym c.loop-arm.invariant.left ∙ c.in-Some.ensures.cases.0);
      first = omega (arith, length, whole);
      good = rest_good _ _ _ c.in-Some.ensures.cases.0 c.loop-arm.invariant.good;
      so_far = arm_more c.args.saying.now.narrow _ _ c.args.saying.now.arms.items c.in-Some.arm.now c.in-Some.ensures.cases.0 c.in_default-clash_with.ensures.none c.loop-arm.invariant.so_far;
    }

pub returns-clause-none : goal.returns-clause-none
returns-clause-none c = nothing_left c.args.saying.now.narrow _ _ c.in_default.ensures.cases c.loop-arm.invariant.so_far
