use Rattle.std.proofs.Common.{sym, ◌∙◌}
use Rattle.sk_names.proofs.Places.{position_texts}
use Rattle.sk_profile_json.specs.Capabilities.{is_named}
use Rattle.sk_profile_json.proofs.capabilities.place_of.Goals as goal

pub returns-clause-place : goal.returns-clause-place
returns-clause-place c = c.place_in.ensures.place ∙ sym (position_texts (is_named c.args.word.now) c.args.names.now)
