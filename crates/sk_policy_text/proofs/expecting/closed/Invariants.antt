use Rattle.std.proofs.Common.{◌≡◌, ◌++◌, List, None}
use Rattle.sk_policy_text.specs.declared.stated.Stated.{Stated}
use Rattle.sk_policy_text.specs.Expecting.{closed}
use Rattle.sk_policy_text.proofs.expecting.closed.Given as goal

abbrev pub invariant-loop-stated : goal.invariant-loop-stated
invariant-loop-stated l = (left : List Stated) → closed None (l.yielded ++ left) ≡ l.whole.items ++ closed l.wanting left
