-- Each worked state is what the definitions compute.
use Rattle.std.proofs.Common.{refl}
use Rattle.sk_world.specs.Sets.{empty, contains, insert, retain, remove, difference, union, from_list}
use Rattle.sk_world.specs.SignalSet.{signals_to, lowest}
use Rattle.sk_world.specs.Signalling.{opening}
use Rattle.sk_world.specs.laws.WorkedSignals.{WorkedActions, WorkedGeneration, WorkedDelivery, WorkedCalls}

pub worked_actions : WorkedActions
unfolding signals_to
worked_actions = refl

pub worked_generation : WorkedGeneration
unfolding opening signals_to lowest empty contains insert retain remove difference union from_list
worked_generation = record {
  pends = refl;
  once = refl;
  ignored_by_default = refl;
  ignored = refl;
  blocked = refl;
  discards_stops = refl;
  discards_continue = refl;
  spared = refl;
  spared_though_blocked = refl;
  caught = refl;
  forced_through_mask = refl;
  forced_though_ignored = refl;
  forced_on_handler = refl;
}

pub worked_delivery : WorkedDelivery
unfolding opening signals_to lowest empty contains insert retain remove difference union from_list
worked_delivery = record {
  lowest = refl;
  kill_first = refl;
  blocked = refl;
  none = refl;
  taken_alone = refl;
  begins = refl;
  nests = refl;
  returns = refl;
  returns_twice = refl;
  returns_from_none = refl;
}

pub worked_calls : WorkedCalls
unfolding opening signals_to lowest empty contains insert retain remove difference union from_list
worked_calls = record {
  mask_is_set = refl;
  pending_is_discarded = refl;
  blocked_is_discarded = refl;
  default_discards = refl;
  default_keeps = refl;
  default_discards_in_first = refl;
  handler_keeps = refl;
  executed = refl;
  child = refl;
  ended = refl;
}
