use Rattle.sk_forms.proofs.ArraysBack.{arrays_come_back}
use Rattle.sk_forms.proofs.laws.arrays_come_back.Goals as goal

pub returns : goal.returns
returns c = record { law = arrays_come_back }
