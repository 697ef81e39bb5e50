use Rattle.sk_policy_text.proofs.ConditionsValues.{value_alone, value_in_brackets, on_ok}
use Rattle.sk_policy_text.proofs.values.read_value.Goals as goal

pub returns-in-Some-clause-reads : goal.returns-in-Some-clause-reads
returns-in-Some-clause-reads c =
    on_ok c.read_numbers.result (λ read. value_in_brackets c.args.tokens.now c.in-Some.inside.now read.1.now read.0 c.in-Some.ensures.first) c.read_numbers.ensures.reads

pub returns-in-None-clause-reads : goal.returns-in-None-clause-reads
returns-in-None-clause-reads c =
    on_ok c.number_at.result (λ read. value_alone c.args.tokens.now read.1.now read.0) c.number_at.ensures.first
