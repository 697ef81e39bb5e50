use Rattle.std.proofs.Common.{◌≡◌, ◌≤◌, ◌+◌, ℕ, List, ◌++◌, length}
use Rattle.std.specs.Prelude.{All}
use Rattle.sk_insn.specs.declared.record.Record.{Record}
use Rattle.sk_policy.specs.Policies.{IsWhole, CaseThere, said}
use Rattle.sk_policy.specs.Sizes.{cases_most}
use Rattle.sk_policy_text.specs.declared.stated.Stated.{Stated}
use Rattle.sk_policy_text.specs.PolicyRows.{sentences_of, else_below}
use Rattle.sk_policy_text.specs.PolicySays.{SaysCases}
use Rattle.sk_policy_text.specs.PolicySizes.{cases_bound}
use Rattle.sk_policy_text.proofs.rules.cases_of.Given as goal

abbrev pub invariant-loop-first : goal.invariant-loop-first
invariant-loop-first l = record {
  before : (front : List Stated) × (l.text ≡ front ++ l.left);
  below : else_below (sentences_of l.left) ≡ else_below (sentences_of l.text);
  there : All CaseThere l.cases.items;
  says : (call : Record) (value : ℕ) → IsWhole call → SaysCases (sentences_of l.left) call value
      → SaysCases (sentences_of l.text) call (said l.cases.items value call);
  size : cases_most l.cases.items + cases_bound (sentences_of l.left) ≤ cases_bound (sentences_of l.text) + 1;
}

abbrev pub decreases-loop-first : goal.decreases-loop-first
decreases-loop-first l = length l.left
