use Rattle.std.proofs.Common.{sym, subst, ◌∙◌}
use Rattle.std.specs.List.{All}
use Rattle.std.proofs.lemmas.List.Elements.{All-push}
use Rattle.sk_terms.specs.declared.lines.Line.{Line}
use Rattle.sk_terms.specs.Lines.{IsMetBy, MeetAlike}
use Rattle.sk_terms.proofs.Ends.{end_met}
use Rattle.sk_terms.proofs.lines.add_end.Goals as goal

pub returns-clause-met : goal.returns-clause-met
returns-clause-met c = λ calls some all.
    let line : Line = record { value = c.args.value; choices = c.in_ok-choices.choices } in
    subst (All (IsMetBy calls)) (sym c.in_ok-push.ensures.items)
    (All-push (IsMetBy calls) c.args.lines.now.items line all (end_met calls c.args.choices.items line c.in_ok-choices.ensures.meets some))

pub returns-clause-alike : goal.returns-clause-alike
returns-clause-alike c = λ one other same all.
    let line : Line = record { value = c.args.value; choices = c.in_ok-choices.choices } in
    subst (All (MeetAlike one other)) (sym c.in_ok-push.ensures.items)
    (All-push (MeetAlike one other) c.args.lines.now.items line all (c.in_ok-choices.ensures.meets one ∙ same ∙ sym (c.in_ok-choices.ensures.meets other)))
