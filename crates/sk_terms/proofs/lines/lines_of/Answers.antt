use Rattle.std.proofs.Common.{sym, subst, ap, ◌∙◌, get_or}
use Rattle.std.specs.List.{All}
use Rattle.std.proofs.lemmas.List.Elements.{All-nil}
use Rattle.std.proofs.lemmas.Result.{IfOk-weaker}
use Rattle.sk_terms.specs.Lines.{meets_choices, IsMetBy, MeetAlike}
use Rattle.sk_terms.proofs.Ends.{passes_always}
use Rattle.sk_terms.proofs.Numbers.{tells_no_whole}
use Rattle.sk_terms.proofs.lines.lines_of.Goals as goal

pub returns-clause-met : goal.returns-clause-met
returns-clause-met c =
    IfOk-weaker c.all_written.result _ _ (λ lines h calls met.
    h calls (c.in_ok-merged.ensures.met calls
    (c.in_ok-add_lines.ensures.met calls
    (passes_always c.args.decision.now calls (λ call. meets_choices c.new.result.items call) (λ call. ap (λ choices. meets_choices choices call) c.new.ensures.items) met)
    (subst (All (IsMetBy calls)) (sym c.new-lines.ensures.items) (All-nil (IsMetBy calls)))))) c.all_written.ensures.met

pub returns-clause-numbers : goal.returns-clause-numbers
returns-clause-numbers c =
    IfOk-weaker c.all_written.result _ _ (λ lines h first last calls within met k line less.
    tells_no_whole first last c.args.decision.now calls (get_or lines.items k line) within met (λ one other together.
    h one other (c.in_ok-merged.ensures.alike one other
    (c.in_ok-add_lines.ensures.alike one other
    (ap (λ choices. meets_choices choices one) c.new.ensures.items ∙ sym (ap (λ choices. meets_choices choices other) c.new.ensures.items))
    (λ always. together)
    (subst (All (MeetAlike one other)) (sym c.new-lines.ensures.items) (All-nil (MeetAlike one other))))) k line less)) c.all_written.ensures.alike
