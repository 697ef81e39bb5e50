use Rattle.std.proofs.Common.{◌≡◌, ◌&&◌, not, if◌then◌else◌, filter, ◌∙◌, ap, sym, subst}
use Rattle.std.proofs.lemmas.Result.{IfOk-weaker}
use Rattle.sk_insn.specs.declared.record.Record.{Record}
use Rattle.sk_terms.specs.Decisions.{decided, EachEndIsMetBy}
use Rattle.sk_terms.specs.Terms.{holds_term}
use Rattle.sk_terms.proofs.Ends.{both_hold, first_fails, passes, passes_both}
use Rattle.sk_terms.proofs.Meeting.{parted_unless}
use Rattle.sk_terms.proofs.decision.asked_both.Goals as goal

pub returns-in-Some-as_one-clause-decided : goal.returns-in-Some-as_one-clause-decided
returns-in-Some-as_one-clause-decided c =
    IfOk-weaker c.fork-in-Some-as_one.result _ _ (λ it h call.
    h call
    ∙ ap (λ tree. if holds_term c.in-Some-as_one.joined call then decided tree call else decided c.args.failed call) c.into_inner-in-Some-as_one.ensures
    ∙ parted_unless (holds_term c.args.term call) (holds_term c.args.held.term call) (holds_term c.in-Some-as_one.joined call)
    (decided c.args.held.held.value call) (decided c.args.held.failed.value call) (decided c.args.failed call)
    (c.in-Some-as_one.ensures.both call ∙ ap (λ b. holds_term c.args.term call && b) (c.negated.ensures.negated call))
    (c.same-begins_as_failed.ensures.same c.if-begins_as_failed.true call ∙ ap (λ tree. decided tree call) c.deref-beginning.ensures)) c.fork-in-Some-as_one.ensures.decided

pub returns-in-Some-clause-met : goal.returns-in-Some-clause-met
returns-in-Some-clause-met c =
    let term = c.args.term in
    let next = c.args.held.term in
    let joined = c.in-Some.joined in
    IfOk-weaker c.fork.result _ _ (λ it h calls first second.
    h calls
    (subst (EachEndIsMetBy (filter (λ call. holds_term joined call) calls)) (sym c.into_inner.ensures)
    (passes_both c.args.held.held.value calls (λ call. holds_term term call) (λ call. holds_term next call) (λ call. holds_term joined call)
    (λ call. both_hold (holds_term term call) (holds_term next call) (holds_term joined call) (c.in-Some.ensures.both call)) first.0))
    (passes c.args.failed calls (λ call. not (holds_term term call)) (λ call. not (holds_term joined call))
    (λ call. first_fails (holds_term term call) (holds_term next call) (holds_term joined call) (c.in-Some.ensures.both call)) second)) c.fork.ensures.met

pub returns-in-Some-as_one-clause-met : goal.returns-in-Some-as_one-clause-met
returns-in-Some-as_one-clause-met c =
    let term = c.args.term in
    let next = c.args.held.term in
    let joined = c.in-Some-as_one.joined in
    let is : (call : Record) → holds_term joined call ≡ (holds_term term call && not (holds_term next call)) =
    λ call. c.in-Some-as_one.ensures.both call ∙ ap (λ b. holds_term term call && b) (c.negated.ensures.negated call) in
    IfOk-weaker c.fork-in-Some-as_one.result _ _ (λ it h calls first second.
    h calls
    (subst (EachEndIsMetBy (filter (λ call. holds_term joined call) calls)) (sym c.into_inner-in-Some-as_one.ensures)
    (passes_both c.args.held.failed.value calls (λ call. holds_term term call) (λ call. not (holds_term next call)) (λ call. holds_term joined call)
    (λ call. both_hold (holds_term term call) (not (holds_term next call)) (holds_term joined call) (is call)) first.1))
    (passes c.args.failed calls (λ call. not (holds_term term call)) (λ call. not (holds_term joined call))
    (λ call. first_fails (holds_term term call) (not (holds_term next call)) (holds_term joined call) (is call)) second)) c.fork-in-Some-as_one.ensures.met
