use Rattle.std.proofs.Common.{◌≡◌, map, take}
use Rattle.sk_replay.specs.Logged.{numbers_in}
use Rattle.sk_ask.specs.Allows.{counts_of}
use Rattle.sk_ask.proofs.allow.counts_of.Given as goal

-- the numbers of the logs that are done are there, and their lines were counted
abbrev pub invariant-loop-log : goal.invariant-loop-log
invariant-loop-log l = record {
  numbers : l.numbers.keys ≡ numbers_in l.architecture (map (λ log. log.items) (take l.log-index l.logs));
  counts : l.counts.items ≡ map (counts_of l.architecture) (map (λ log. log.items) (take l.log-index l.logs));
}
