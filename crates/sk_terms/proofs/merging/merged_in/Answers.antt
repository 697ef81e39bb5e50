use Rattle.std.proofs.Common.{ap, subst, ◌∙◌}
use Rattle.std.specs.List.{All}
use Rattle.std.proofs.lemmas.List.Elements.{All-head, All-tail}
use Rattle.sk_terms.specs.Lines.{told_alone, told_by, IsMetBy, MeetAlike}
use Rattle.sk_terms.proofs.Telling.{one_line_more, told_cons}
use Rattle.sk_terms.proofs.merging.merged_in.Goals as goal

pub loop-line-preserved : goal.loop-line-preserved
loop-line-preserved c =
    let line = c.in-Some.line in
    let rest = c.next.new.self.rest.items in
    let steps = c.in-Some.ensures.steps.0 in record {
      told = λ call.
          one_line_more _ (told_by c.loop-line.merged.items call) _ (told_by c.loop-line.line-iterator.rest.items call) (told_by rest call) (told_alone line call)
          (ap (λ lines. told_by lines call) steps ∙ told_cons line rest call) (c.loop-line.invariant.told call) (c.in_ok-add.ensures.told call);
      met = λ calls all.
          let so_far = c.loop-line.invariant.met calls all in
          let left = subst (All (IsMetBy calls)) steps so_far.1 in
          (c.in_ok-add.ensures.met calls so_far.0 (All-head (IsMetBy calls) line rest left), All-tail (IsMetBy calls) line rest left);
      alike = λ one other all.
          let so_far = c.loop-line.invariant.alike one other all in
          let left = subst (All (MeetAlike one other)) steps so_far.1 in
          (c.in_ok-add.ensures.alike one other so_far.0 (All-head (MeetAlike one other) line rest left), All-tail (MeetAlike one other) line rest left);
    }
