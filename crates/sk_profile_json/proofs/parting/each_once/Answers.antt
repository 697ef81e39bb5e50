use Rattle.std.proofs.Common.{rules}
use Rattle.std.proofs.lemmas.Fn.{dedup_same}
use Rattle.sk_profile_json.specs.Partings.{is_same_entry}
use Rattle.sk_profile_json.proofs.parting.each_once.Goals as goal

pub returns : goal.returns
returns c = record { once = dedup_same _ is_same_entry _ (λ x y b f' x' y' k. search rules) _ _ c.dedup_by.ensures.filtered }
