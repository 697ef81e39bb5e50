use Rattle.std.proofs.Common.{◌&&◌, ◌||◌, take, ap, sym, ◌∙◌}
use Rattle.std.proofs.lemmas.List.Folds.{list_any_more}
use Rattle.sk_terms.specs.Lines.{holds_one}
use Rattle.sk_terms.specs.Terms.{holds_term}
use Rattle.sk_terms.proofs.Kept.{one_more_within}
use Rattle.sk_terms.proofs.choices.add_within.Goals as goal

pub loop-other-preserved : goal.loop-other-preserved
loop-other-preserved c = λ call.
    c.in_ok-add_joined.ensures.added call
    ∙ one_more_within (holds_one c.args.terms.now.items call) (holds_term c.args.term call) (holds_one (take c.loop-other.other-index c.args.others.now) call) _ _ _
    (c.loop-other.invariant call) (c.in-Some.ensures.both call)
    ∙ ap (λ b. holds_one c.args.terms.now.items call || (holds_term c.args.term call && b))
    (sym (list_any_more (λ term. holds_term term call) c.args.others.now c.loop-other.other-index _ c.loop-other-test.true))
