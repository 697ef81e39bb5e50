use Rattle.sk_kernel.proofs.candidates.CandidatesProcStore.new.Goals as goal
use Rattle.sk_kernel.proofs.Changing.{noted_opening}

pub invariant_of-result : goal.invariant_of-result
invariant_of-result g c =
    noted_opening (g.S.ProcStore.contents c.in_ok-new.field-0) c.empty-noted.result c.insert.new.self c.in_ok-new.ensures.opening c.empty-noted.ensures c.insert.ensures
