use Rattle.std.proofs.Common.{[], length}
use Rattle.sk_policy_text.specs.Views.{all_seen}
use Rattle.sk_policy_text.specs.PolicyMade.{AreSaid}
use Rattle.sk_policy_text.proofs.making.sentences_in.Given as goal

abbrev pub invariant-loop-first : goal.invariant-loop-first
invariant-loop-first l = AreSaid [] (all_seen l.words) l.text.items (all_seen l.left)

abbrev pub decreases-loop-first : goal.decreases-loop-first
decreases-loop-first l = length l.left
