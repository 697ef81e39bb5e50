-- Each worked run of ends and waits is what the definitions compute.
use Rattle.std.proofs.Common.{refl}
use Rattle.sk_laws.proofs.Computing.{worked_runs}
use Rattle.sk_laws.specs.WorkedWaits.{WorkedWaits}

pub worked_waits : WorkedWaits
unfolding worked_runs
worked_waits = record {
  leaves_no_zombies = refl;
  crashes = refl;
  tells_stop_and_continue = refl;
  hands_zombie_on = refl;
  hands_children_on = refl;
  refuses_to_wait = refl;
  interrupts_wait = refl;
  tells_continuation_once = refl;
  tells_no_continuation = refl;
  waits_while_stopped = refl;
  tells_end_once = refl;
  tells_lowest_first = refl;
  tells_end_in_place_of_stop = refl;
  hands_stop_on = refl;
}
