use Rattle.std.proofs.Common.{◌≡◌, take, flat_map, string_bytes}
use Rattle.sk_engines.specs.AsmCommand.{digits_line}
use Rattle.sk_engines.proofs.asm.digits_of.Given as goal

abbrev pub invariant-loop-insn : goal.invariant-loop-insn
invariant-loop-insn l = string_bytes l.text ≡ flat_map digits_line (take l.insn-index l.insns)
