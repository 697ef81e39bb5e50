use Rattle.sk_when.proofs.RowsMet.{followed_rows_have_verdicts}
use Rattle.sk_when.proofs.laws.followed_rows_have_verdicts.Goals as goal

pub returns : goal.returns
returns c = record { law = followed_rows_have_verdicts }
