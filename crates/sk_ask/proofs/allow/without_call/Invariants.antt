use Rattle.std.proofs.Common.{◌≡◌, length, map, string_bytes}
use Rattle.sk_ask.specs.Allows.{without_call}
use Rattle.sk_ask.proofs.allow.without_call.Given as goal

-- the first of the logs that are left is the first of all
abbrev pub invariant-loop-name : goal.invariant-loop-name
invariant-loop-name l = without_call (map string_bytes l.rest) l.left ≡ without_call (map string_bytes l.names) l.counts

abbrev pub decreases-loop-name : goal.decreases-loop-name
decreases-loop-name l = length l.rest
