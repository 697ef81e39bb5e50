use Rattle.std.proofs.Common.{List, subst, ◌∙◌}
use Rattle.sk_policy_text.specs.declared.token.Token.{Token}
use Rattle.sk_policy_text.specs.ConditionsRead.{ReadsCondition}
use Rattle.sk_policy_text.proofs.ConditionsMeaning.{reads_condition}
use Rattle.sk_policy_text.proofs.condition.condition_of.Goals as goal

pub returns-in-Ok-clause-reads : goal.returns-in-Ok-clause-reads
returns-in-Ok-clause-reads c =
    subst (λ (tokens : List Token). ReadsCondition tokens c.in-Ok.choices.items) (c.as_slice.ensures.value ∙ c.in_ok-tokens.ensures.tokens) (reads_condition c.as_slice.result.now c.in-Ok.choices.items c.in-Ok.ensures.reads)
