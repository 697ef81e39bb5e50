use Rattle.std.proofs.Common.{ap, ◌∙◌}
use Rattle.std.proofs.lemmas.Result.{IfOk-weaker}
use Rattle.sk_terms.specs.Lines.{holds_choice, meets_choices}
use Rattle.sk_terms.proofs.Kept.{all_with, known, put_together}
use Rattle.sk_terms.proofs.clause.+with_choice.Goals as goal

pub returns-in_default : goal.returns-in_default
returns-in_default t c = record {
  meets = λ call.
      ap (λ choices. meets_choices choices call) c.in_ok-insert.ensures.items
      ∙ all_with (λ choice. holds_choice choice call) c.args.choices.items c.place_of.result c.args.choice;
}

pub returns : goal.returns
returns t c = record {
  meets = IfOk-weaker c.with_choice.result _ _ (λ clause h call.
      h call
      ∙ put_together c.args.choices.items c.deref.result.now c.remove-other.new.self.items c.in-Some.found.at c.args.choice c.in-Some.found.joined call
      c.deref.ensures.value (known _ _ _ c.in-Some.is c.in_ok-partner.ensures.there) c.remove-other.ensures.items (known _ _ _ c.in-Some.is c.in_ok-partner.ensures.both call)) c.with_choice.ensures.meets;
}
