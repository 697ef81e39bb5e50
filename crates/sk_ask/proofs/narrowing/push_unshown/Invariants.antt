use Rattle.std.proofs.Common.{◌≡◌, ◌++◌, flat_map, take}
use Rattle.sk_ask.specs.Allows.{unshown_notes}
use Rattle.sk_ask.proofs.narrowing.push_unshown.Given as goal

abbrev pub invariant-loop-nr : goal.invariant-loop-nr
invariant-loop-nr l = l.notes.items ≡ l.initial.notes.items ++ unshown_notes l.calls (take l.nr-index l.narrowed)
