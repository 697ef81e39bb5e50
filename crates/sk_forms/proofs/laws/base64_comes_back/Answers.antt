use Rattle.sk_forms.proofs.Base64Back.{base64_comes_back}
use Rattle.sk_forms.proofs.FiltersBack.{filters_come_back}
use Rattle.sk_forms.proofs.laws.base64_comes_back.Goals as goal

pub returns : goal.returns
returns c = record { image = base64_comes_back; filter = filters_come_back }
