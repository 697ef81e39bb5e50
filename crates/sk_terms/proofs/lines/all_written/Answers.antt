use Rattle.std.proofs.Common.{◌++◌, ap, sym, subst, ◌∙◌, append_assoc}
use Rattle.std.specs.List.{All}
use Rattle.std.proofs.lemmas.List.Elements.{All-head, All-tail, All-push}
use Rattle.sk_terms.specs.Lines.{told_by, told_alone, IsMetBy, MeetAlike}
use Rattle.sk_terms.proofs.Ends.{same_met}
use Rattle.sk_terms.proofs.Telling.{told_cons, told_pushed, told_same}
use Rattle.sk_terms.proofs.lines.all_written.Goals as goal

pub loop-line-preserved : goal.loop-line-preserved
loop-line-preserved c =
    let line = c.in-Some.line in
    let rest = c.next.new.self.rest.items in
    let steps = c.in-Some.ensures.steps.0 in
    let before = c.loop-line.all.items in record {
      told = λ call.
          ap (λ lines. told_by lines call ++ told_by rest call) c.in_ok-push.ensures.items
          ∙ ap (λ told. told ++ told_by rest call) (told_pushed before c.in_ok-told.told call
          ∙ ap (λ told. told_by before call ++ told) (told_same c.in_ok-told.told line call c.in_ok-told.ensures.value (c.in_ok-told.ensures.met call)))
          ∙ append_assoc (told_by before call) (told_alone line call) (told_by rest call)
          ∙ ap (λ told. told_by before call ++ told) (sym (told_cons line rest call) ∙ ap (λ lines. told_by lines call) (sym steps))
          ∙ c.loop-line.invariant.told call;
      met = λ calls all.
          let so_far = c.loop-line.invariant.met calls all in
          let left = subst (All (IsMetBy calls)) steps so_far.1 in (
            subst (All (IsMetBy calls)) (sym c.in_ok-push.ensures.items)
                (All-push (IsMetBy calls) before c.in_ok-told.told so_far.0
                (same_met calls line c.in_ok-told.told c.in_ok-told.ensures.met (All-head (IsMetBy calls) line rest left))),
            All-tail (IsMetBy calls) line rest left,
          );
      alike = λ one other all.
          let so_far = c.loop-line.invariant.alike one other all in
          let left = subst (All (MeetAlike one other)) steps so_far.1 in (
            subst (All (MeetAlike one other)) (sym c.in_ok-push.ensures.items)
                (All-push (MeetAlike one other) before c.in_ok-told.told so_far.0
                (c.in_ok-told.ensures.met one ∙ All-head (MeetAlike one other) line rest left ∙ sym (c.in_ok-told.ensures.met other))),
            All-tail (MeetAlike one other) line rest left,
          );
    }
