use Rattle.std.proofs.Common.{◌≡◌, map, take}
use Rattle.sk_policy_when.specs.Allowing.{logged_calls}
use Rattle.sk_ask.proofs.narrowing.logged_calls.Given as goal

-- the calls of the logs that are done are there
abbrev pub invariant-loop-log : goal.invariant-loop-log
invariant-loop-log l = l.calls.items ≡ logged_calls l.architecture (map (λ log. log.items) (take l.log-index l.logs))
