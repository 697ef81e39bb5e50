use Rattle.std.proofs.Common.{◌≡◌, ◌*◌, ◌-◌, ◌++◌, length, drop, vec_len}
use Rattle.sk_insn.specs.Instructions.{instructions_in, image_of}
use Rattle.sk_insn.proofs.image.insns_in.Given as goal

abbrev pub invariant-loop-place : goal.invariant-loop-place
invariant-loop-place l = record {
  left : l.rest ≡ drop (8 * l._place) l.image;
  room : 8 * (l.count - l._place) ≡ length l.rest;
  count : vec_len l.insns ≡ l._place;
  so_far : l.insns.items ++ instructions_in (l.count - l._place) l.rest ≡ instructions_in l.count l.image;
  spelled : image_of l.insns.items ++ l.rest ≡ l.image;
}
