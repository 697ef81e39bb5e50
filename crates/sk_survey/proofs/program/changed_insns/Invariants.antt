use Rattle.std.proofs.Common.{◌≡◌, map, take}
use Rattle.sk_survey.specs.Changes.{changed}
use Rattle.sk_survey.proofs.program.changed_insns.Given as goal

-- the instructions that are there are those before this one
abbrev pub invariant-loop-insn : goal.invariant-loop-insn
invariant-loop-insn l = l.others.items ≡ map (changed l.change) (take l.insn-index l.insns)
