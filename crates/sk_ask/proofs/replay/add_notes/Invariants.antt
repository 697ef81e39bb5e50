use Rattle.std.proofs.Common.{◌≡◌, ◌++◌, take}
use Rattle.sk_ask.specs.Replays.{unclear_notes}
use Rattle.sk_ask.proofs.replay.add_notes.Given as goal

abbrev pub invariant-loop-number : goal.invariant-loop-number
invariant-loop-number l = l.notes.items ≡ l.initial.notes.items ++ unclear_notes l.name (take l.number-index l.numbers)
