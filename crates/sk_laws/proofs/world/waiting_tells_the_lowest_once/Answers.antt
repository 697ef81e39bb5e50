use Rattle.sk_world.proofs.Telling.{ready_lowest, no_match, not_ready, told_once}
use Rattle.sk_laws.proofs.world.waiting_tells_the_lowest_once.Goals as goal

pub returns : goal.returns
returns c = record { lowest = ready_lowest; no_match = no_match; not_ready = not_ready; once = told_once }
