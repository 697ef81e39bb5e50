use Rattle.std.proofs.Common.{◌<◌, ◌∙◌, length, get_or, ap, sym, subst}
use Rattle.std.specs.List.{All}
use Rattle.std.proofs.lemmas.List.Elements.{All-push}
use Rattle.sk_terms.specs.Lines.{meets_line, told_by, IsMetBy, MeetAlike}
use Rattle.sk_terms.proofs.Ends.{all_but, still_met}
use Rattle.sk_terms.proofs.Kept.{get_same}
use Rattle.sk_terms.proofs.Numbers.{both_alike}
use Rattle.sk_terms.proofs.Telling.{told_pushed, told_together}
use Rattle.sk_terms.proofs.merging.add.Goals as goal

pub returns-clause-told : goal.returns-clause-told
returns-clause-told c = λ call once.
    let there = subst (λ xs. c.in-Some.partner.at < length xs) c.deref.ensures.value c.in-Some.ensures.there in
    let it = c.remove-other.ensures.value in
    let same = ap (λ line. line.value) (it ∙ get_same c.args.lines.now.items c.in-Some.partner.at c.remove-other.result c.args.line there)
    ∙ ap (λ xs. (get_or xs c.in-Some.partner.at c.args.line).value) (sym c.deref.ensures.value) ∙ c.in-Some.ensures.differ.value in
    ap (λ lines. told_by lines call) c.in_ok-push-2.ensures.items
    ∙ told_pushed c.remove-other.new.self.items c.in_ok-both.both call
    ∙ told_together c.args.lines.now.items c.remove-other.new.self.items c.in-Some.partner.at c.args.line c.remove-other.result c.in_ok-both.both call there
    c.remove-other.ensures.items it same c.in_ok-both.ensures.value (c.in_ok-both.ensures.met call) once

pub returns-clause-met : goal.returns-clause-met
returns-clause-met c = λ calls all met.
    subst (All (IsMetBy calls)) (sym c.in_ok-push-2.ensures.items)
    (All-push (IsMetBy calls) c.remove-other.new.self.items c.in_ok-both.both
    (subst (All (IsMetBy calls)) (sym c.remove-other.ensures.items) (all_but (IsMetBy calls) c.args.lines.now.items c.in-Some.partner.at all))
    (still_met calls c.args.line c.in_ok-both.both (λ call. meets_line c.remove-other.result call) c.in_ok-both.ensures.met met))

pub returns-clause-alike : goal.returns-clause-alike
returns-clause-alike c = λ one other all alike.
    let P = MeetAlike one other in
    let there = subst (λ xs. c.in-Some.partner.at < length xs) c.deref.ensures.value c.in-Some.ensures.there in
    let removed = subst P (sym c.remove-other.ensures.value) (all c.in-Some.partner.at c.remove-other.result there) in
    subst (All P) (sym c.in_ok-push-2.ensures.items)
    (All-push P c.remove-other.new.self.items c.in_ok-both.both
    (subst (All P) (sym c.remove-other.ensures.items) (all_but P c.args.lines.now.items c.in-Some.partner.at all))
    (both_alike c.remove-other.result c.args.line c.in_ok-both.both one other (c.in_ok-both.ensures.met one) (c.in_ok-both.ensures.met other) removed alike))
