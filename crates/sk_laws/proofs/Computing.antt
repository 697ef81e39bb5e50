-- What an answer unfolds to compute a run of the machine.
use Rattle.std.specs.Prelude.{⊤}
use Rattle.sk_laws.specs.Common.{action_of, first_fault, empty, contains, insert, retain, remove, difference, union, from_list, lowest, signals_to, signals_of, no_signal, fresh_of, ancestors, new_parent, step_of}
use Rattle.sk_insn.specs.Operations.{operation_of}

unfoldable pub worked_runs : ⊤
unfolding step_of fresh_of new_parent ancestors action_of operation_of first_fault empty contains insert retain remove difference union from_list lowest signals_to signals_of no_signal
worked_runs = tt
