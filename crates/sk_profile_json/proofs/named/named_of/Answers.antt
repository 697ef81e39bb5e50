use Rattle.std.proofs.Common.{◌∙◌}
use Rattle.std.proofs.lemmas.Result.{err_from_is_err_and}
use Rattle.sk_profile_json.proofs.Gathering.{more_entries, fault_here}
use Rattle.sk_profile_json.proofs.named.named_of.Goals as goal

pub returns-in_err-push_entry-clause-fault : goal.returns-in_err-push_entry-clause-fault
returns-in_err-push_entry-clause-fault c =
    let p = err_from_is_err_and c.from_residual.result c.from_residual.ensures.1 in
    rw (p.1, p.2) (fault_here c.args.context.now _ _ c.index-entries-place.result _ _ c.loop-place-test.true c.index-entries-place.is c.loop-place.invariant c.in_err-push_entry.ensures.fault)

pub loop-place-preserved : goal.loop-place-preserved
loop-place-preserved c =
    more_entries c.args.context.now _ _ c.index-entries-place.result _ _ c.loop-place-test.true c.index-entries-place.is c.in_ok-push_entry.ensures.pushed ∙ c.loop-place.invariant
