use Rattle.std.proofs.Common.{◌&&◌, ap, sym, ◌∙◌}
use Rattle.sk_terms.specs.Lines.{holds_choice, meets_choices}
use Rattle.sk_terms.proofs.Meeting.{parted}
use Rattle.sk_terms.proofs.forms.written.Goals as goal

pub loop-choice-preserved : goal.loop-choice-preserved
loop-choice-preserved c = λ call.
    let rest = c.next.new.self.rest.items in
    let before = meets_choices c.loop-choice.written.items call in
    ap (λ b. b && meets_choices rest call) (c.in_ok-add_written.ensures.meets call)
    ∙ sym (parted before (holds_choice c.in-Some.choice call) (meets_choices rest call))
    ∙ ap (λ choices. before && meets_choices choices call) (sym c.in-Some.ensures.steps.0)
    ∙ c.loop-choice.invariant call
