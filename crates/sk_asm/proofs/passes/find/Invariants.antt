use Rattle.std.proofs.Common.{◌≡◌, ◌+◌, [], length}
use Rattle.sk_asm.specs.Block.{lines_in}
use Rattle.sk_asm.specs.Passes.{labelled}
use Rattle.sk_asm.specs.Views.{labels_in, jumps_in}
use Rattle.sk_asm.proofs.Turns.{FoundSoFar}
use Rattle.sk_asm.proofs.passes.find.Given as goal

-- what the lines that are left do to the labels is what all lines do
abbrev pub invariant-loop-line : goal.invariant-loop-line
invariant-loop-line l = record {
  all : l.n + length (lines_in l.is_block l.lines.0.now) ≡ l.before + length (lines_in l.is_block l.text);
  so_far : labelled (l.n + 1) (labels_in l.found.labels) l.at (lines_in l.is_block l.lines.0.now) ≡ labelled (l.before + 1) [] 0 (lines_in l.is_block l.text);
  so_many : FoundSoFar (l.before + 1) (l.n + 1) l.at l.found.insns.items (jumps_in l.found.jumps.items) (lines_in l.is_block l.lines.0.now) (lines_in l.is_block l.text);
}

abbrev pub decreases-loop-line : goal.decreases-loop-line
decreases-loop-line l = length (lines_in l.is_block l.lines.0.now)
