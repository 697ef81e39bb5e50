use Rattle.std.proofs.Common.{◌≡◌, ◌++◌, take, string_bytes}
use Rattle.sk_forms.specs.Writing.{decimals_rows}
use Rattle.sk_forms.proofs.writing.push_decimals_rows.Given as goal

-- the rows of the instructions before this one are written
abbrev pub invariant-loop-insn : goal.invariant-loop-insn
invariant-loop-insn l = string_bytes l.text ≡ string_bytes l.initial.text ++ decimals_rows (take l.insn-index l.insns)
