use Rattle.std.proofs.Common.{◌≡◌, ◌*◌, length, take}
use Rattle.sk_insn.specs.Instructions.{image_of}
use Rattle.sk_insn.proofs.image.write_each.Given as goal

-- the instructions before this one are written
abbrev pub invariant-loop-place : goal.invariant-loop-place
invariant-loop-place l = record {
  size : length l.image ≡ 8 * length l.insns;
  written : take (8 * l.place) l.image ≡ image_of (take l.place l.insns);
}
