use Rattle.std.proofs.Common.{refl}
use Rattle.sk_names.specs.X86_64.{name_of, number_named}
use Rattle.sk_names.specs.Names.{name_at, name_in as name_among, name_on, number_on, runs_of}
use Rattle.sk_arguments.specs.Constants.{all_names, all_numbers, form_of, holds, name_in, number_of_constant}
use Rattle.sk_arguments.specs.Naming.{call_with_constants}
use Rattle.sk_arguments.specs.Reading.{argument_name, decided_by, kind_by, kind_of, unread_at, unread_places}
use Rattle.sk_arguments.proofs.laws.worked_rows.Goals as goal

pub returns-clause-kinds : goal.returns-clause-kinds
unfolding kind_of kind_by
returns-clause-kinds c = (refl, refl, refl, refl, refl, refl, refl, refl, refl)

pub returns-clause-places : goal.returns-clause-places
unfolding unread_places unread_at kind_of kind_by
returns-clause-places c = (refl, refl)

pub returns-clause-rows : goal.returns-clause-rows
unfolding decided_by argument_name
returns-clause-rows c = (refl, refl, refl, refl, refl, refl, refl)

pub returns-clause-constants : goal.returns-clause-constants
unfolding number_of_constant all_names all_numbers
returns-clause-constants c = (refl, refl, refl, refl, refl)

pub returns-clause-forms : goal.returns-clause-forms
unfolding form_of holds name_in all_names all_numbers
returns-clause-forms c = (refl, refl, refl, refl, refl, refl, refl, refl)

pub returns-clause-naming : goal.returns-clause-naming
unfolding call_with_constants name_of number_named name_at name_among name_on number_on runs_of
returns-clause-naming c = (refl, refl, refl, refl, refl)
