use Rattle.sk_arguments.proofs.Named.{all_identifiers}
use Rattle.sk_arguments.proofs.ReadsBack.{as_long, all_read}
use Rattle.sk_arguments.proofs.laws.constants_are_named.Goals as goal

pub returns-clause-long : goal.returns-clause-long
returns-clause-long c = as_long

pub returns-clause-identifiers : goal.returns-clause-identifiers
returns-clause-identifiers c = all_identifiers

pub returns-clause-read : goal.returns-clause-read
returns-clause-read c = all_read
