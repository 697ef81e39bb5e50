use Rattle.std.proofs.Common.{refl}
use Rattle.std.specs.Int.Count.{ones_in}
use Rattle.sk_arguments.specs.Constants.{all_numbers}
use Rattle.sk_arguments.proofs.laws.forms_are_sound.Goals as goal

pub returns : goal.returns
unfolding all_numbers ones_in
returns c = record { sound = refl }
