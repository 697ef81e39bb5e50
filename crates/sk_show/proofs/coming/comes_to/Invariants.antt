use Rattle.std.proofs.Common.{◌≡◌, ◌+◌, ◌++◌, length, vec_len}
use Rattle.sk_show.specs.Coming.{comes_from, comes_to}
use Rattle.sk_show.proofs.coming.comes_to.Given as goal

-- of the instructions before this one it is noted
abbrev pub invariant-loop-insn : goal.invariant-loop-insn
invariant-loop-insn l = record {
  comes : l.comes.items ++ comes_from l.number l.at l.jumps.items l.next l.rest ≡ comes_to l.number l.insns;
  left : l.at + length l.rest ≡ length l.insns;
  places : vec_len l.jumps ≡ length l.insns;
}

abbrev pub decreases-loop-insn : goal.decreases-loop-insn
decreases-loop-insn l = length l.rest
