use Rattle.json.specs.Value.{value_view}
use Rattle.sk_profile.specs.Views.{profile_of}
use Rattle.sk_profile_json.proofs.Good.{rules_good}
use Rattle.sk_profile_json.proofs.making.made_of_profile.Goals as goal

pub built-requires : goal.built-requires
built-requires c = record { good = rules_good c.args.context.now (value_view c.args.value.now) (profile_of c.args.profile.now) c.requires.said }
