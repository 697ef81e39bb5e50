use Rattle.std.proofs.Common.{refl}
use Rattle.sk_names.specs.X86_64.{name_of}
use Rattle.sk_names.specs.Names.{name_at, number_at, name_in, number_in, runs_of, name_on, number_on}
use Rattle.sk_names.proofs.laws.worked_rows.Goals as goal

pub returns-clause-audits : goal.returns-clause-audits
returns-clause-audits c = (refl, refl, refl, refl)

pub returns-clause-x86 : goal.returns-clause-x86
unfolding name_of name_at number_at name_in number_in runs_of name_on number_on
returns-clause-x86 c = (refl, refl, refl, refl, refl, refl, refl)

pub returns-clause-x32 : goal.returns-clause-x32
unfolding name_at number_at name_in number_in runs_of name_on number_on
returns-clause-x32 c = (refl, refl, refl, refl, refl)

pub returns-clause-arm : goal.returns-clause-arm
unfolding name_at number_at name_in number_in runs_of name_on number_on
returns-clause-arm c = (refl, refl, refl)

pub returns-clause-generic : goal.returns-clause-generic
unfolding name_at number_at name_in number_in runs_of name_on number_on
returns-clause-generic c = (refl, refl, refl, refl, refl, refl, refl, refl, refl)

pub returns-clause-others : goal.returns-clause-others
unfolding name_at number_at name_in number_in runs_of name_on number_on
returns-clause-others c = (refl, refl, refl, refl, refl, refl)
