use Rattle.std.proofs.Common.{subst, sym}
use Rattle.std.specs.Prelude.{All}
use Rattle.sk_profile.specs.Faults.{IsFaultOf}
use Rattle.sk_profile.specs.Rows.{AreGood}
use Rattle.sk_profile.specs.Views.{profile_of}
use Rattle.sk_profile.proofs.Growing.{handed_on}
use Rattle.sk_profile.proofs.Whole.{none_so_far, first_good, one_more_part, long_parts, fault_of, handed}
use Rattle.sk_profile.proofs.filter.push_parts.Goals as goal

pub loop-part-init : goal.loop-part-init
loop-part-init c =
    none_so_far c.args.profile.now c.deref-left.result.now c.args.code.now.items c.deref-left.ensures.value (subst (All AreGood) (sym c.deref-left.ensures.value) c.requires.good)

pub push_part-requires : goal.push_part-requires
push_part-requires c = record {
  good = first_good c.args.profile.now c.loop-part.left.now c.in-Some.rest.now c.in-Some.part.now c.args.code.now.items c.loop-part.code.items c.in-Some.ensures.cases.0 c.loop-part.invariant;
}

pub returns-in_err-push_part-clause-long : goal.returns-in_err-push_part-clause-long
returns-in_err-push_part-clause-long c =
    handed_on _ _ _ c.from_residual.ensures.1
    (λ is. long_parts c.args.profile.now c.loop-part.left.now c.in-Some.rest.now c.in-Some.part.now c.args.code.now.items c.loop-part.code.items c.in-Some.ensures.cases.0 c.loop-part.invariant
    (c.in_err-push_part.ensures.long is))

pub returns-in_err-push_part-clause-fault : goal.returns-in_err-push_part-clause-fault
returns-in_err-push_part-clause-fault c =
    handed (IsFaultOf (profile_of c.args.profile.now)) _ _ c.from_residual.ensures.1
    (fault_of c.args.profile.now c.loop-part.left.now c.in-Some.rest.now c.in-Some.part.now c.args.code.now.items c.loop-part.code.items _ c.in-Some.ensures.cases.0 c.loop-part.invariant
    c.in_err-push_part.ensures.fault)

pub loop-part-preserved : goal.loop-part-preserved
loop-part-preserved c =
    one_more_part c.args.profile.now c.loop-part.left.now c.in-Some.rest.now c.in-Some.part.now c.args.code.now.items c.loop-part.code.items c.push_part.new.code.items c.in-Some.ensures.cases.0
    c.loop-part.invariant c.in_ok-push_part.ensures.section c.in_ok-push_part.ensures.clear
