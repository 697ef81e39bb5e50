use Rattle.std.proofs.Common.{◌≡◌, length}
use Rattle.sk_ask.specs.Allows.{wide_call}
use Rattle.sk_ask.proofs.narrowing.wide_call.Given as goal

-- the first of the calls that are left is the first of all
abbrev pub invariant-loop-nr : goal.invariant-loop-nr
invariant-loop-nr l = wide_call l.calls l.left ≡ wide_call l.calls l.narrowed

abbrev pub decreases-loop-nr : goal.decreases-loop-nr
decreases-loop-nr l = length l.left
