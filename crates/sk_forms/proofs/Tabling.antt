-- Rows of a table are read line by line.
use Rattle.std.proofs.Common.{List, ◌++◌, Option, Some, None}
use Rattle.sk_insn.specs.declared.insn.Insn.{Insn}

-- these instructions before those that are read
abbrev pub before : List Insn → Option (List Insn) → Option (List Insn)
before front None = None
before front (Some insns) = Some (front ++ insns)
