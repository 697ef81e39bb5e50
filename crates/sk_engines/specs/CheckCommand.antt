-- What `skern check` answers.
use Rattle.std.specs.Prelude.{ℕ, ◌++◌, List, length, codes, Option, Some, None}
use Rattle.std.specs.Fmt.{decimal}
use Rattle.sk_insn.specs.declared.insn.Insn.{Insn}
use Rattle.sk_filter.specs.declared.fault.CheckFault.{CheckFault}
use Rattle.sk_filter.specs.FirstFault.{first_fault}
use Rattle.sk_engines.specs.Output.{Output, done, refused, line, within_limit}
use Rattle.sk_engines.specs.Judging.{check_fault_text}
use Rattle.sk_engines.specs.OnImage.{on_image}

-- the answer on a program of so many instructions, which is valid or has this first fault
abbrev pub judged_answer : ℕ → Option CheckFault → Output
judged_answer count None = done (line (codes "ok " ++ decimal count))
judged_answer count (Some fault) = refused (line (check_fault_text fault))

abbrev pub program_answer : List Insn → Output
program_answer program = judged_answer (length program) (first_fault program)

abbrev pub check_answer : List ℕ → Output
check_answer input = within_limit (on_image program_answer) input
