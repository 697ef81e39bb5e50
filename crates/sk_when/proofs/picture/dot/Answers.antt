use Rattle.std.proofs.lemmas.Result.{IfOk-weaker}
use Rattle.sk_filter.specs.Verdict.{verdict_of}
use Rattle.sk_when.proofs.picture.dot.Goals as goal

pub returns-clause-picture : goal.returns-clause-picture
returns-clause-picture c =
    IfOk-weaker c.dot_text.result _ _ (λ text is. (
      c.in_ok-decision.decision,
      λ call within. c.in_ok-decision.ensures.decides call within.0 (verdict_of c.args.chain.now call) (c.in_ok-tree.ensures.tells call within),
      λ follows some. c.in_ok-decision.ensures.all (c.in_ok-tree.ensures.all follows some),
      is,
    )) c.dot_text.ensures.text
