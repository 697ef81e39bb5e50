-- Each worked run of signals, stops and waits where several rules meet is what the definitions compute.
use Rattle.std.proofs.Common.{refl}
use Rattle.sk_laws.proofs.Computing.{worked_runs}
use Rattle.sk_laws.specs.WorkedEdges.{WorkedEdges}

pub worked_edges : WorkedEdges
unfolding worked_runs
worked_edges = record {
  blocks_while_handling = refl;
  ends_init_by_sigsys_kept = refl;
  forces_sigsys_past_handler = refl;
  never_stops_init = refl;
  continues_though_blocked = refl;
  tells_stops_by_child_signal = refl;
  keeps_stopped_from_all = refl;
  takes_default_actions = refl;
  puts_signal_first = refl;
  waits_for_first_group = refl;
  keeps_group_asked_for = refl;
  waits_for_own_children = refl;
  announces_continuing = refl;
  forks_without_pending = refl;
  delivers_in_order = refl;
}
