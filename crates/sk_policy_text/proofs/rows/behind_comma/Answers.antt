use Rattle.std.proofs.Common.{sym}
use Rattle.sk_policy_text.proofs.Places.{no_comma}
use Rattle.sk_policy_text.proofs.rows.behind_comma.Goals as goal

pub returns-in_err-word-clause-behind : goal.returns-in_err-word-clause-behind
returns-in_err-word-clause-behind c =
    rw c.from_residual.ensures (sym (no_comma _ _ _ c.split_at.ensures.back c.end_of_item.ensures.first c.in_err-word.ensures.cases))
