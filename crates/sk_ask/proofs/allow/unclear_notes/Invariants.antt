use Rattle.std.proofs.Common.{◌≡◌, ◌++◌, length, map, string_bytes}
use Rattle.sk_ask.specs.Allows.{unclear_notes}
use Rattle.sk_ask.proofs.allow.unclear_notes.Given as goal

-- the lines so far, and those of the logs that are left, are all
abbrev pub invariant-loop-name : goal.invariant-loop-name
invariant-loop-name l = l.notes.items ++ unclear_notes (map string_bytes l.rest) l.left ≡ unclear_notes (map string_bytes l.names) l.counts

abbrev pub decreases-loop-name : goal.decreases-loop-name
decreases-loop-name l = length l.rest
