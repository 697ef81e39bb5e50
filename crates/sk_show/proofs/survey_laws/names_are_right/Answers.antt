use Rattle.sk_show.proofs.Hiding.{name_of_each, none_hidden, row_of_named}
use Rattle.sk_show.proofs.survey_laws.names_are_right.Goals as goal

pub returns : goal.returns
returns c = record { each = name_of_each; hidden = none_hidden; row = row_of_named }
