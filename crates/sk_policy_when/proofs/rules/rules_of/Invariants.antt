use Rattle.std.specs.List.{All}
use Rattle.sk_policy.specs.Policies.{RuleThere}
use Rattle.sk_policy_when.specs.Again.{AreRulesOf}
use Rattle.sk_policy_when.proofs.Ruled.{AreMade}
use Rattle.sk_policy_when.proofs.rules.rules_of.Given as goal

abbrev pub invariant-loop-told : goal.invariant-loop-told
invariant-loop-told l = record {
  made : AreMade AreRulesOf l.initial.told-iterator.rest.items l.told-iterator.rest.items l.rules.items;
  there : All RuleThere l.rules.items;
}
