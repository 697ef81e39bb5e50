use Rattle.std.proofs.Common.{◌≡◌, List, [], length}
use Rattle.sk_policy_text.specs.declared.policy_fault.PolicyFault.{PolicyFault}
use Rattle.sk_policy_text.specs.declared.sentence.Sentence.{Sentence}
use Rattle.sk_policy_text.specs.PolicyFaults.{above_of, AreRight, IsSentenceFault}
use Rattle.sk_policy_text.proofs.right.all_right.Given as goal

abbrev pub invariant-loop-first : goal.invariant-loop-first
invariant-loop-first l = (above : List Sentence) × (l.above ≡ above_of above) × (AreRight above l.left → AreRight [] l.text)
    × ((fault : PolicyFault) → IsSentenceFault above l.left fault → IsSentenceFault [] l.text fault)

abbrev pub decreases-loop-first : goal.decreases-loop-first
decreases-loop-first l = length l.left
