use Rattle.sk_policy_text.proofs.ConditionsChoosing.{mask_starts, value_starts, no_brackets, no_comparison_there}
use Rattle.sk_policy_text.proofs.alternatives.starts_comparison.Goals as goal

pub returns-then-begins_mask-clause-held : goal.returns-then-begins_mask-clause-held
returns-then-begins_mask-clause-held c held =
    no_brackets c.args.tokens.now (mask_starts c.args.tokens.now c.in-Some.inside.now c.in-Some.ensures.first (c.begins_mask.ensures.held c.if-begins_mask.true))

pub returns-else-begins_mask-clause-held : goal.returns-else-begins_mask-clause-held
returns-else-begins_mask-clause-held c held =
    no_brackets c.args.tokens.now (value_starts c.args.tokens.now c.in-Some.inside.now c.in-Some.ensures.first (c.begins_numbers.ensures.held held))

pub returns-else-begins_mask-clause-failed : goal.returns-else-begins_mask-clause-failed
returns-else-begins_mask-clause-failed c failed =
    no_comparison_there c.args.tokens.now c.in-Some.inside.now c.in-Some.ensures.first (c.begins_mask.ensures.failed c.if-begins_mask.false) (c.begins_numbers.ensures.failed failed)
