use Rattle.sk_document.proofs.WorkedValues.{verdicts_work, numbers_work, calls_work, terms_work}
use Rattle.sk_document.proofs.laws.worked_values.Goals as goal

pub returns : goal.returns
returns c = record { verdicts = verdicts_work; numbers = numbers_work; calls = calls_work; terms = terms_work }
