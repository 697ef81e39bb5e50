-- Each worked run of signals is what the definitions compute.
use Rattle.std.proofs.Common.{refl}
use Rattle.sk_laws.proofs.Computing.{worked_runs}
use Rattle.sk_laws.specs.WorkedSignals.{WorkedSignals}

pub worked_signals : WorkedSignals
unfolding worked_runs
worked_signals = record {
  handles_trap = refl;
  forces_sigsys = refl;
  forces_sigsys_on_init = refl;
  pauses_for_handler = refl;
  signals_itself = refl;
  blocks_all_but_kill = refl;
  blocks_and_ends = refl;
  discards_each_other = refl;
  sets_mask = refl;
  ignores_signals = refl;
  drops_handlers_at_exec = refl;
  begins_eight_handlers = refl;
  begins_eight_more = refl;
  ends_without_room_for_frame = refl;
  halts_without_room_for_frame = refl;
  ends_by_segv = refl;
}
