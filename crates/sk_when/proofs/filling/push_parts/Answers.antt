use Rattle.std.proofs.Common.{◌++◌, ◌∙◌, string_bytes}
use Rattle.std.proofs.lemmas.Result.{IfOk-weaker}
use Rattle.sk_when.specs.Filling.{filled}
use Rattle.sk_when.proofs.Filled.{first_here}
use Rattle.sk_when.proofs.filling.push_parts.Goals as goal

pub returns : goal.returns
returns c =
    let others = c.first_part.result.1.now in
    record {
      text = IfOk-weaker c.push_other_parts.result _ _ (λ _ pushed. pushed
          ∙ (λ i. c.in_ok-push_str.ensures.bytes i ++ filled (c.saturating_sub.ensures i) 0 others)
          ∙ first_here (string_bytes c.args.text.now) c.args.condition.now c.first_part.result.0.now others c.args.room
          c.first_part.ensures.part c.first_part.ensures.others c.first_part.ensures.length) c.push_other_parts.ensures.text;
    }
