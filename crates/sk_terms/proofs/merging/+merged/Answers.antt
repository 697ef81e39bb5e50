use Rattle.std.proofs.lemmas.Result.{IfOk-weaker}
use Rattle.sk_terms.proofs.merging.+merged.Goals as goal

pub returns-then-len-before-clause-met : goal.returns-then-len-before-clause-met
returns-then-len-before-clause-met t c = IfOk-weaker c.merged.result _ _ (λ merged h calls all. h calls (c.in_ok-fewer.ensures.met calls all)) c.merged.ensures.met

pub returns-then-len-before-clause-alike : goal.returns-then-len-before-clause-alike
returns-then-len-before-clause-alike t c =
    IfOk-weaker c.merged.result _ _ (λ merged h one other all. h one other (c.in_ok-fewer.ensures.alike one other all)) c.merged.ensures.alike
