use Rattle.std.proofs.Common.{◌≡◌, length}
use Rattle.sk_policy_text.specs.Views.{all_seen}
use Rattle.sk_policy_text.specs.PolicyTexts.{behind_where}
use Rattle.sk_policy_text.proofs.shown.behind_where.Given as goal

abbrev pub invariant-loop-first : goal.invariant-loop-first
invariant-loop-first l = behind_where (all_seen l.left) ≡ behind_where (all_seen l.words)

abbrev pub decreases-loop-first : goal.decreases-loop-first
decreases-loop-first l = length l.left
