-- Each worked run of turns is what the definitions compute.
use Rattle.std.proofs.Common.{refl}
use Rattle.sk_laws.proofs.Computing.{worked_runs}
use Rattle.sk_laws.specs.WorkedTurns.{WorkedTurns}

pub worked_turns : WorkedTurns
unfolding worked_runs
worked_turns = record {
  tells_reasons = refl;
  ends_system = refl;
  halts_all = refl;
  turns_with_filter = refl;
  turns_without_zombies = refl;
  turns_of_crash = refl;
  turns_of_stop_and_continue = refl;
  turns_of_orphan = refl;
  turns_of_kills = refl;
  turns_of_regrouping = refl;
  turns_of_pause = refl;
  nobody_runs = refl;
  killed_runs = refl;
  killed_needs_delivery = refl;
  paused_needs_resumption = refl;
  signalled_needs_delivery = refl;
  first_needs_call = refl;
}
