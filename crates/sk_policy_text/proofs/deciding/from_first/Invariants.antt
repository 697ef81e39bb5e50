use Rattle.std.proofs.Common.{◌≡◌, length}
use Rattle.sk_policy_text.specs.PolicyDeciding.{from_first}
use Rattle.sk_policy_text.proofs.deciding.from_first.Given as goal

abbrev pub invariant-loop-first : goal.invariant-loop-first
invariant-loop-first l = from_first l.what l.left ≡ from_first l.what l.text

abbrev pub decreases-loop-first : goal.decreases-loop-first
decreases-loop-first l = length l.left
