use Rattle.sk_when.proofs.Linting.{clean, nowhere_looser}
use Rattle.sk_when.proofs.laws.lint_tells_of_every_call.Goals as goal

pub returns : goal.returns
returns c = record { looser = nowhere_looser; clean = clean }
