use Rattle.sk_profile_json.proofs.Examples.{worked_profiles}
use Rattle.sk_profile_json.proofs.laws.worked_profiles.Goals as goal

pub returns : goal.returns
returns c = record { law = worked_profiles }
