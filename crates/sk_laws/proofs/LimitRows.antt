-- Each worked run to a limit is what the definitions compute.
use Rattle.std.proofs.Common.{refl}
use Rattle.sk_laws.proofs.Computing.{worked_runs}
use Rattle.sk_laws.specs.WorkedLimits.{GoesRoundPids, SparesGroupOfGoneLeader, RefusesForkWithoutRoom, ForksIntoLastRoom, RefusesFilterPastLimit, AttachesFilterAtLimit, RefusesInvalidBeforeLimit, RefusesUserBeforeInvalid, WorkedLimits}

goes_round_pids : GoesRoundPids
unfolding worked_runs
goes_round_pids = refl

spares_group_of_gone_leader : SparesGroupOfGoneLeader
unfolding worked_runs
spares_group_of_gone_leader = refl

refuses_fork_without_room : RefusesForkWithoutRoom
unfolding worked_runs
refuses_fork_without_room = refl

forks_into_last_room : ForksIntoLastRoom
unfolding worked_runs
forks_into_last_room = refl

refuses_filter_past_limit : RefusesFilterPastLimit
unfolding worked_runs
refuses_filter_past_limit = refl

attaches_filter_at_limit : AttachesFilterAtLimit
unfolding worked_runs
attaches_filter_at_limit = refl

refuses_invalid_before_limit : RefusesInvalidBeforeLimit
unfolding worked_runs
refuses_invalid_before_limit = refl

refuses_user_before_invalid : RefusesUserBeforeInvalid
unfolding worked_runs
refuses_user_before_invalid = refl

pub worked_limits : WorkedLimits
worked_limits = record {
  goes_round_pids = goes_round_pids;
  spares_group_of_gone_leader = spares_group_of_gone_leader;
  refuses_fork_without_room = refuses_fork_without_room;
  forks_into_last_room = forks_into_last_room;
  refuses_filter_past_limit = refuses_filter_past_limit;
  attaches_filter_at_limit = attaches_filter_at_limit;
  refuses_invalid_before_limit = refuses_invalid_before_limit;
  refuses_user_before_invalid = refuses_user_before_invalid;
}
