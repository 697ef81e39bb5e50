use Rattle.sk_profile_json.proofs.Placed.{one_name}
use Rattle.sk_profile_json.proofs.capabilities.names_at.Goals as goal

pub returns : goal.returns
returns c = record { one = one_name (λ name. name.now) c.args.names.now c.args.place }
