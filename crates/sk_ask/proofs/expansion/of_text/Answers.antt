use Rattle.sk_ask.proofs.expansion.of_text.Goals as goal

pub returns-then-is_policy-clause-without : goal.returns-then-is_policy-clause-without
returns-then-is_policy-clause-without c = c.policy_filter_of.ensures.without c.args.manner c.args.context.now
