use Rattle.sk_arguments.proofs.Named.{answer_is_identifier, answer_is_read}
use Rattle.sk_arguments.proofs.constants.Set.name.Goals as goal

pub returns-clause-read : goal.returns-clause-read
returns-clause-read c = answer_is_read c.named.result c.args.self c.args.number c.named.ensures.name

pub returns-clause-identifier : goal.returns-clause-identifier
returns-clause-identifier c = answer_is_identifier c.named.result c.args.self c.args.number c.named.ensures.name
