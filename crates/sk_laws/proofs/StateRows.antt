-- Each worked run of what calls change is what the definitions compute.
use Rattle.std.proofs.Common.{refl}
use Rattle.sk_laws.proofs.Computing.{worked_runs}
use Rattle.sk_laws.specs.WorkedStates.{WorkedStates}

pub worked_states : WorkedStates
unfolding worked_runs
worked_states = record {
  adds_to_mask = refl;
  takes_from_mask = refl;
  replaces_mask = refl;
  keeps_kill_out_of_handlers = refl;
  returns_one_by_one = refl;
  ignores_what_was_blocked = refl;
  announces_stop_to_parent = refl;
  sends_no_signal = refl;
  signals_nobody = refl;
  continues_other_groups = refl;
  tells_ids_apart = refl;
  tells_parents = refl;
  minds_each_argument = refl;
  has_three_options = refl;
}
