use Rattle.sk_when.proofs.WorkedLints.{concerns_work, sockets_work, words_work}
use Rattle.sk_when.proofs.laws.worked_lints.Goals as goal

pub returns : goal.returns
returns c = record { sockets = sockets_work; concerns = concerns_work; words = words_work }
