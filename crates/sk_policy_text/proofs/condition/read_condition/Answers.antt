use Rattle.std.proofs.Common.{arith}
use Rattle.sk_policy_text.proofs.ConditionsWhole.{no_such_number}
use Rattle.sk_policy_text.proofs.condition.read_condition.Goals as goal

pub returns-in-Some-clause-none : goal.returns-in-Some-clause-none
returns-in-Some-clause-none c = (omega arith, no_such_number c.args.tokens.now c.in-Some._number c.in-Some.ensures.alone c.in-Some._number-test.0.1 c.in-Some._number-test.1)
