use Rattle.std.proofs.Common.{◌≡◌, ◌++◌, ◌-◌, flat_map}
use Rattle.std.specs.List.{range_with_len}
use Rattle.sk_policy_when.specs.Narrowing.{unshown_arguments, unshown_at}
use Rattle.sk_policy_when.proofs.narrowing.unshown_arguments.Given as goal

abbrev pub invariant-loop-place : goal.invariant-loop-place
invariant-loop-place l = l.places.items ++ flat_map (unshown_at l.calls l.nr) (range_with_len l.place (6 - l.place)) ≡ unshown_arguments l.calls l.nr
