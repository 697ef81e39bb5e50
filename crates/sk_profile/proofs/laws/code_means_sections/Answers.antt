use Rattle.sk_profile.proofs.Trees.{code_means_sections}
use Rattle.sk_profile.proofs.laws.code_means_sections.Goals as goal

pub returns : goal.returns
returns c = record { law = code_means_sections }
