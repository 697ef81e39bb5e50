use Rattle.std.proofs.Common.{inl, inr}
use Rattle.sk_ask.proofs.Unchecked.{unchecked}
use Rattle.sk_ask.proofs.check.check_answer.Goals as goal

pub returns-in_err-images-clause-told : goal.returns-in_err-images-clause-told
returns-in_err-images-clause-told g c =
    let without = rw c.deref.ensures.value at c.in_err-images.ensures.without in
    unchecked _ _ _ _ _ _ c.from_residual-in_err-images.ensures.1 (inr (inl (_, c.in_ok-files.ensures.contents, without)))
