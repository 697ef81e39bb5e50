use Rattle.std.proofs.Common.{refl}
use Rattle.sk_arguments.specs.Reading.{kind_by, kind_of, unread_at, unread_places}
use Rattle.sk_survey.proofs.architecture_laws.worked_taken.Goals as goal

pub returns : goal.returns
unfolding unread_places unread_at kind_of kind_by
returns c = record { law = record { socket = refl; chmod = refl; unknown = refl } }
