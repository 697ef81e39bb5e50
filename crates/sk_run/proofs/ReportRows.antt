-- Each worked report is what the definitions compute.
use Rattle.std.proofs.Common.{refl}
use Rattle.std.specs.Fmt.{digits}
use Rattle.sk_insn.specs.Actions.{action_of}
use Rattle.sk_insn.specs.Operations.{operation_of}
use Rattle.sk_filter.specs.FirstFault.{first_fault}
use Rattle.sk_world.specs.Sets.{empty, contains, insert, retain, remove, difference, union, from_list}
use Rattle.sk_world.specs.SignalSet.{lowest, signals_to, signals_of, number_of as bits_of}
use Rattle.sk_world.specs.Signalling.{opening as no_signal}
use Rattle.sk_world.specs.Numbers.{fresh_of}
use Rattle.sk_world.specs.Subreapers.{ancestors, new_parent}
use Rattle.sk_machine.specs.Machine.{step_of}
use Rattle.sk_run.specs.Text.{turn_text, happening_text, judgement_text, outcome_text, effect_text, end_text, call_name, hex}
use Rattle.sk_run.specs.Report.{report_from}
use Rattle.sk_run.specs.laws.WorkedReports.{WorkedReports}

pub worked_reports : WorkedReports
unfolding digits report_from turn_text happening_text judgement_text outcome_text effect_text end_text call_name hex step_of fresh_of new_parent ancestors action_of operation_of first_fault empty contains insert retain remove difference union from_list lowest signals_to signals_of no_signal bits_of
worked_reports = record {
  refused = refl;
  trapped = refl;
  nothing = refl;
  idle = refl;
  limit = refl;
  refused_end = refl;
  refused_return = refl;
  positions = refl;
  exec = refl;
  stop = refl;
  number = refl;
  trapped_end = refl;
  zero = refl;
  return_alone = refl;
  kept = refl;
  kills = refl;
  orphan = refl;
  plain_fork = refl;
  fork_in_handler = refl;
  named_fork_in_handler = refl;
  exec_in_handler = refl;
  interrupted = refl;
  undeclared = refl;
  set = refl;
  last_turn = refl;
  address = refl;
}
