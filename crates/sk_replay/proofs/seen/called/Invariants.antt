use Rattle.std.proofs.Common.{◌≡◌, ◌++◌, map}
use Rattle.sk_replay.proofs.seen.called.Given as goal

-- the calls that are listed, and those that are left, are all
abbrev pub invariant-loop-call : goal.invariant-loop-call
invariant-loop-call l = l.calls.items ++ map (λ entry. entry.0) l.call-iterator ≡ map (λ entry. entry.0) l.tallied.entries
