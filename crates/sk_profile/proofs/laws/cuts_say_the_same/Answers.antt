use Rattle.sk_profile.proofs.CodeRows.{cuts_say_the_same}
use Rattle.sk_profile.proofs.laws.cuts_say_the_same.Goals as goal

pub returns : goal.returns
returns c = record { law = cuts_say_the_same }
