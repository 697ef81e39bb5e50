use Rattle.std.proofs.Common.{◌++◌, ℕ, List, length, map, string_bytes}
use Rattle.sk_ask.specs.Calls.{AreAskedCalls, IsFirstNoCall}
use Rattle.sk_ask.proofs.on.asked_calls.Given as goal

-- the calls of the words that are done go with those of the words that are left
abbrev pub invariant-loop-word : goal.invariant-loop-word
invariant-loop-word l = record {
  so_far : (more : List ℕ) → AreAskedCalls l.architecture (map string_bytes l.rest) more → AreAskedCalls l.architecture (map string_bytes l.asked) (l.calls.items ++ more);
  first : (line : List ℕ) → IsFirstNoCall l.architecture line (map string_bytes l.rest) → IsFirstNoCall l.architecture line (map string_bytes l.asked);
}

abbrev pub decreases-loop-word : goal.decreases-loop-word
decreases-loop-word l = length l.rest
