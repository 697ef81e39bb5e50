-- Each worked world is what the definitions compute.
use Rattle.std.proofs.Common.{refl}
use Rattle.sk_laws.specs.Common.{empty, contains, insert, retain, remove, from_list, no_signal, fresh_of, ancestors, new_parent}
use Rattle.sk_laws.specs.WorkedWorlds.{WorkedForks, WorkedEnds, WorkedReapers, WorkedWaits, WorkedSignals}

pub worked_forks : WorkedForks
unfolding fresh_of no_signal empty contains insert retain remove from_list
worked_forks = record {
  first_number = refl;
  next_number = refl;
  last_number = refl;
  goes_round = refl;
  spares_pid = refl;
  spares_group = refl;
  spares_session = refl;
  child_is_there = refl;
  child_of_child = refl;
  caller_stays = refl;
  last_given = refl;
  starts_anew = refl;
  rights_are_kept = refl;
  nothing_pends = refl;
  mask_is_kept = refl;
  actions_are_kept = refl;
}

pub worked_ends : WorkedEnds
unfolding fresh_of ancestors new_parent no_signal empty contains insert retain remove from_list
worked_ends = record {
  zombie_is_left = refl;
  orphan_is_handed_on = refl;
  zombie_is_handed_on = refl;
  zombie_is_announced = refl;
  living_orphan_is_unannounced = refl;
  zombie_goes = refl;
  living_orphan_stays = refl;
  end_is_announced = refl;
  parent_ignores = refl;
  ignored_end_is_unannounced = refl;
  nothing_pends = refl;
  note_goes = refl;
  waiting_goes = refl;
  end_of_first_halts = refl;
  end_of_another_does_not = refl;
  end_of_first_hands_none_on = refl;
}

pub worked_reapers : WorkedReapers
unfolding fresh_of ancestors new_parent no_signal empty contains insert retain remove from_list
worked_reapers = record {
  goes_to_first = refl;
  goes_to_subreaper = refl;
  goes_far_up = refl;
  nearer_of_two = refl;
  then_the_other = refl;
  own_mark = refl;
  no_ancestor = refl;
  stopped_subreaper = refl;
  child_is_unmarked = refl;
  zombie_stays_marked = refl;
  cleared_mark = refl;
  then_first = refl;
  zombie_is_announced = refl;
  not_to_first = refl;
  zombie_goes = refl;
  zombie_is_handed_on = refl;
  orphan_keeps_rights = refl;
  orphan_keeps_rights_below = refl;
}

pub worked_waits : WorkedWaits
unfolding fresh_of ancestors new_parent no_signal empty contains insert retain remove from_list
worked_waits = record {
  no_child = refl;
  nobodys_child = refl;
  anothers_child = refl;
  another_group = refl;
  not_yet = refl;
  not_yet_in_group = refl;
  ended = refl;
  lowest_first = refl;
  one_of_them = refl;
  then_the_other = refl;
  stopped = refl;
  stopped_unasked = refl;
  continued = refl;
  continued_unasked = refl;
  told_once = refl;
}

pub worked_signals : WorkedSignals
unfolding fresh_of ancestors new_parent no_signal empty contains insert retain remove from_list
worked_signals = record {
  pends = refl;
  ignored = refl;
  ignored_and_blocked = refl;
  first_is_spared = refl;
  first_catches = refl;
  zombie_gets_none = refl;
  continues = refl;
  continues_ignored = refl;
  continues_blocked = refl;
  continuation_is_announced = refl;
  continues_nobody = refl;
  discards_stops = refl;
  discards_continue = refl;
  forced_on_first = refl;
  forced_through_mask = refl;
}
