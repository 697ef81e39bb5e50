use Rattle.std.proofs.Common.{◌≡◌, take}
use Rattle.std.specs.List.{All}
use Rattle.sk_insn.specs.Instructions.{image_of}
use Rattle.sk_profile_json.specs.Ranges.{IsInRange}
use Rattle.sk_profile_json.proofs.image.image_of.Given as goal

-- the bytes of the instructions before this one are written, and the fields of these are in range
abbrev pub invariant-loop-insn : goal.invariant-loop-insn
invariant-loop-insn l = record {
  bytes : l.image.items ≡ image_of (take l.insn-index l.insns);
  ranges : All IsInRange (take l.insn-index l.insns);
}
