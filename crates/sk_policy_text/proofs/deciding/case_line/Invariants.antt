use Rattle.std.proofs.Common.{◌≡◌, ℕ, List, ◌++◌, length, Option}
use Rattle.sk_policy_text.specs.declared.stated.Stated.{Stated}
use Rattle.sk_policy_text.specs.PolicyDeciding.{CasesDecide}
use Rattle.sk_policy_text.proofs.deciding.case_line.Given as goal

abbrev pub invariant-loop-first : goal.invariant-loop-first
invariant-loop-first l = record {
  before : (front : List Stated) × (l.text ≡ front ++ l.left);
  decides : (line : Option ℕ) → CasesDecide l.left l.call line → CasesDecide l.text l.call line;
}

abbrev pub decreases-loop-first : goal.decreases-loop-first
decreases-loop-first l = length l.left
