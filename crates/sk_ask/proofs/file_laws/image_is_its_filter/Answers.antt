use Rattle.sk_ask.proofs.Images.{image_is_its_filter}
use Rattle.sk_ask.proofs.file_laws.image_is_its_filter.Goals as goal

pub returns : goal.returns
returns c = record { law = image_is_its_filter }
