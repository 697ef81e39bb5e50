use Rattle.sk_laws.proofs.Unchanged.{impossible_changes_nothing, possible_happens, refused_changes_nothing, trap_forces_sigsys, kill_ends_caller, failed_changes_nothing, halt_has_status}
use Rattle.sk_laws.proofs.refusals_change_nothing.Goals as goal

pub returns : goal.returns
returns c = record {
  impossible = impossible_changes_nothing;
  possible = possible_happens;
  refused = refused_changes_nothing;
  trapped = trap_forces_sigsys;
  killed = kill_ends_caller;
  failed = failed_changes_nothing;
  halt = halt_has_status;
}
