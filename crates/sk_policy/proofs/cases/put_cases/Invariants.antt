use Rattle.std.proofs.Common.{◌≡◌, ◌≤◌, [], ◌∷◌, ◌++◌, length, take, drop}
use Rattle.sk_profile.specs.Code.{answer}
use Rattle.sk_policy.proofs.Ending.{chain, case_part}
use Rattle.sk_policy.proofs.cases.put_cases.Given as goal

abbrev pub invariant-loop-last : goal.invariant-loop-last
invariant-loop-last l = record {
  few : length l.code ≤ 4096;
  more : length l.fn.code ≤ length l.code;
  left : l.left ≡ take (length l.left) l.cases;
  code : l.code ≡ chain case_part (answer l.otherwise ∷ []) (drop (length l.left) l.cases) ++ l.fn.code;
}

abbrev pub decreases-loop-last : goal.decreases-loop-last
decreases-loop-last l = length l.left
