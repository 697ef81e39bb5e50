use Rattle.std.specs.List.{All}
use Rattle.sk_policy.specs.Policies.{CaseThere}
use Rattle.sk_policy_when.specs.Again.{AreCasesOf}
use Rattle.sk_policy_when.proofs.Ruled.{AreMade}
use Rattle.sk_policy_when.proofs.rules.cases_of.Given as goal

abbrev pub invariant-loop-line : goal.invariant-loop-line
invariant-loop-line l = record {
  made : AreMade AreCasesOf l.initial.line-iterator.rest.items l.line-iterator.rest.items l.cases.items;
  there : All CaseThere l.cases.items;
}
