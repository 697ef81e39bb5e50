use Rattle.sk_when.proofs.Linting.{followed_is_decided, signs_are_told}
use Rattle.sk_when.proofs.laws.lint_leaves_nothing_out.Goals as goal

pub returns : goal.returns
returns c = record { decided = followed_is_decided; signs = signs_are_told }
