use Rattle.std.proofs.Common.{◌≡◌, ◌++◌, ◌-◌, flat_map}
use Rattle.std.specs.List.{range_with_len}
use Rattle.sk_arguments.specs.Reading.{unread_at, unread_places}
use Rattle.sk_arguments.proofs.reading.unread_places.Given as goal

abbrev pub invariant-loop-i : goal.invariant-loop-i
invariant-loop-i l = l.places.items ++ flat_map (unread_at l.nr) (range_with_len l.i (6 - l.i)) ≡ unread_places l.nr
