use Rattle.std.proofs.Common.{◌≡◌, length}
use Rattle.sk_policy.specs.Emitting.{joins_all, end_of}
use Rattle.sk_policy.proofs.rules.end_of_run.Given as goal

abbrev pub invariant-loop-next : goal.invariant-loop-next
invariant-loop-next l = record {
  joins : joins_all l.last l.left ≡ joins_all l.rule l.rules;
  ends : end_of l.last l.left ≡ end_of l.rule l.rules;
}

abbrev pub decreases-loop-next : goal.decreases-loop-next
decreases-loop-next l = length l.left
