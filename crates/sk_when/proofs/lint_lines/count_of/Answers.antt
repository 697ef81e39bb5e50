use Rattle.std.proofs.Common.{arith}
use Rattle.std.proofs.lemmas.Grind.{common_steps}
use Rattle.sk_when.proofs.Counts.{counted_more}
use Rattle.sk_when.proofs.lint_lines.count_of.Goals as goal

pub loop-piece-preserved : goal.loop-piece-preserved
loop-piece-preserved c = grind (arith, common_steps, counted_more)
