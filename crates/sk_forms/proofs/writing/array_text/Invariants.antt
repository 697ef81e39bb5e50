use Rattle.std.proofs.Common.{◌≡◌, take, string_bytes}
use Rattle.sk_forms.specs.Writing.{array_text}
use Rattle.sk_forms.proofs.writing.array_text.Given as goal

-- the lines of the instructions before this one are written
abbrev pub invariant-loop-insn : goal.invariant-loop-insn
invariant-loop-insn l = string_bytes l.text ≡ array_text (take l.insn-index l.insns)
