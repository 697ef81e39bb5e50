-- Each worked run of groups, permissions, filters, lineages and turns is what the definitions compute.
use Rattle.std.proofs.Common.{refl}
use Rattle.sk_laws.proofs.Computing.{worked_runs}
use Rattle.sk_laws.specs.WorkedOrders.{WorkedOrders}

pub worked_orders : WorkedOrders
unfolding worked_runs
worked_orders = record {
  regroups_zombies = refl;
  founds_session_alone = refl;
  stays_in_session = refl;
  everyone_may_not_continue = refl;
  exec_keeps_ignored = refl;
  orders_refusals_of_attach = refl;
  logs_and_ends_by_precedence = refl;
  lineage_after_refused_fork = refl;
  lineage_of_pid_given_twice = refl;
  lineage_through_forks = refl;
  asks_when_child_ends = refl;
  asks_when_child_is_gone = refl;
}
