use Rattle.sk_profile.proofs.Growing.{has_more}
use Rattle.sk_profile.proofs.build.+place_of.Goals as goal

pub returns-in_ok-place_of-in-Some-clause-there : goal.returns-in_ok-place_of-in-Some-clause-there
returns-in_ok-place_of-in-Some-clause-there t c = has_more c.args.values.now c.in-Some.others.now c.in-Some.first.now c.args.value c.in-Some.ensures.cases.0 c.in_ok-place_of-in-Some.ensures.there
