use Rattle.std.proofs.Common.{◌||◌, ap, sym, ◌∙◌, refl}
use Rattle.sk_terms.specs.Lines.{holds_choice, holds_one}
use Rattle.sk_terms.proofs.Kept.{met_always, met_together}
use Rattle.sk_terms.proofs.merging.together.Goals as goal

pub returns-then-is_any-clause-met : goal.returns-then-is_any-clause-met
returns-then-is_any-clause-met c = λ call.
    let differ = c.requires.differ in
    met_always c.args.one.choices.items c.args.other.choices.items c.remove-choice.new.self.items c.remove-choice.result c.index-another.result.now c.args.at call
    differ.first differ.second c.remove-choice.ensures.items c.remove-choice.ensures.value c.index-another.ensures
    (ap (λ terms. holds_one terms call || holds_choice c.index-another.result.now call) (sym c.deref.ensures.value)
    ∙ ap (λ terms. holds_one c.deref.result.now call || holds_one terms call) (sym c.deref-2.ensures.value)
    ∙ sym (c.in_ok-both.ensures.either call)
    ∙ ap (λ terms. holds_one terms call) (sym c.deref-3.ensures.value)
    ∙ c.if-is_any.ensures.any refl call)
    (differ.others call)

pub returns-clause-met : goal.returns-clause-met
returns-clause-met c = λ call.
    let differ = c.requires.differ in
    met_together c.args.one.choices.items c.args.other.choices.items c.insert.new.self.items c.remove-choice.new.self.items c.remove-choice.result c.index-another.result.now c.in_ok-both.both c.args.at call
    differ.first differ.second c.remove-choice.ensures.items c.in_ok-insert.ensures.items c.remove-choice.ensures.value c.index-another.ensures
    (c.in_ok-both.ensures.either call
    ∙ ap (λ terms. holds_one terms call || holds_one c.deref-2.result.now call) c.deref.ensures.value
    ∙ ap (λ terms. holds_choice c.remove-choice.result call || holds_one terms call) c.deref-2.ensures.value)
    (differ.others call)
