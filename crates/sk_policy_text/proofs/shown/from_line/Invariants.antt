use Rattle.std.proofs.Common.{◌≡◌, length}
use Rattle.sk_policy_text.specs.Views.{all_seen}
use Rattle.sk_policy_text.specs.PolicyTexts.{from_line}
use Rattle.sk_policy_text.proofs.shown.from_line.Given as goal

abbrev pub invariant-loop-first : goal.invariant-loop-first
invariant-loop-first l = from_line l.line (all_seen l.left) ≡ from_line l.line (all_seen l.words)

abbrev pub decreases-loop-first : goal.decreases-loop-first
decreases-loop-first l = length l.left
