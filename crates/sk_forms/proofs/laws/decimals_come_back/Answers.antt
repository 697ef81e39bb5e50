use Rattle.sk_forms.proofs.DecimalsBack.{decimals_come_back}
use Rattle.sk_forms.proofs.laws.decimals_come_back.Goals as goal

pub returns : goal.returns
returns c = record { law = decimals_come_back }
