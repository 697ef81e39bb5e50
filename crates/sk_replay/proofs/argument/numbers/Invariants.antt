use Rattle.std.proofs.Common.{◌≡◌, ◌≤◌, ◌+◌, length}
use Rattle.std.specs.Option.{option_map}
use Rattle.sk_replay.specs.CallWords.{cut_all, left_of}
use Rattle.sk_replay.proofs.Given.{placed, zeros}
use Rattle.sk_replay.proofs.argument.numbers.Given as goal

-- what is read and what is left make what all make
abbrev pub invariant-loop-rest : goal.invariant-loop-rest
invariant-loop-rest l = record {
  few : l.count + length (left_of 44 (option_map (λ rest. rest.now) l.rest)) ≤ 6;
  so_far : placed l.count l.args (left_of 44 (option_map (λ rest. rest.now) l.rest)) ≡ placed 0 zeros (cut_all 44 l.inside);
}

abbrev pub decreases-loop-rest : goal.decreases-loop-rest
decreases-loop-rest l = length (left_of 44 (option_map (λ rest. rest.now) l.rest))
