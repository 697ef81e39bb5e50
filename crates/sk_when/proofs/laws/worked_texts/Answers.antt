use Rattle.sk_when.proofs.WorkedTexts.{colours_work, order_works, findings_work}
use Rattle.sk_when.proofs.laws.worked_texts.Goals as goal

pub returns : goal.returns
returns c = record { colours = colours_work; order = order_works; findings = findings_work }
