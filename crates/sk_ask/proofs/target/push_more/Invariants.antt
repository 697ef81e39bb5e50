use Rattle.std.proofs.Common.{◌≡◌, ◌++◌, flat_map, string_bytes, take}
use Rattle.sk_ask.specs.Targets.{json_more}
use Rattle.sk_ask.proofs.target.push_more.Given as goal

abbrev pub invariant-loop-insn : goal.invariant-loop-insn
invariant-loop-insn l = string_bytes l.text ≡ string_bytes l.initial.text ++ flat_map json_more (take l.insn-index l.insns)
