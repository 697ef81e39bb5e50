use Rattle.std.proofs.Common.{◌≡◌, ◌||◌, not, if◌then◌else◌, filter, ◌∙◌, ap, sym, subst}
use Rattle.std.proofs.lemmas.Result.{IfOk-weaker}
use Rattle.sk_insn.specs.declared.record.Record.{Record}
use Rattle.sk_terms.specs.Decisions.{decided, EachEndIsMetBy}
use Rattle.sk_terms.specs.Terms.{holds_term}
use Rattle.sk_terms.proofs.Ends.{first_holds, neither_holds, passes, passes_both}
use Rattle.sk_terms.proofs.Meeting.{parted_else}
use Rattle.sk_terms.proofs.decision.asked_then.Goals as goal

pub returns-in-Some-either-clause-decided : goal.returns-in-Some-either-clause-decided
returns-in-Some-either-clause-decided c =
    IfOk-weaker c.fork-in-Some-either.result _ _ (λ it h call.
    h call
    ∙ ap (λ tree. if holds_term c.in-Some-either.joined call then decided c.args.held call else decided tree call) c.into_inner-in-Some-either.ensures
    ∙ parted_else (holds_term c.args.term call) (holds_term c.args.failed.term call) (holds_term c.in-Some-either.joined call)
    (decided c.args.failed.held.value call) (decided c.args.failed.failed.value call) (decided c.args.held call)
    (c.in-Some-either.ensures.either call ∙ ap (λ b. holds_term c.args.term call || b) (c.negated.ensures.negated call))
    (c.same-ends_as_held.ensures.same c.if-ends_as_held.true call ∙ ap (λ tree. decided tree call) c.deref-end.ensures)) c.fork-in-Some-either.ensures.decided

pub returns-in-Some-clause-met : goal.returns-in-Some-clause-met
returns-in-Some-clause-met c =
    let term = c.args.term in
    let next = c.args.failed.term in
    let joined = c.in-Some.joined in
    IfOk-weaker c.fork.result _ _ (λ it h calls first second.
    h calls
    (passes c.args.held calls (λ call. holds_term term call) (λ call. holds_term joined call)
    (λ call. first_holds (holds_term term call) (holds_term next call) (holds_term joined call) (c.in-Some.ensures.either call)) first)
    (subst (EachEndIsMetBy (filter (λ call. not (holds_term joined call)) calls)) (sym c.into_inner.ensures)
    (passes_both c.args.failed.failed.value calls (λ call. not (holds_term term call)) (λ call. not (holds_term next call)) (λ call. not (holds_term joined call))
    (λ call. neither_holds (holds_term term call) (holds_term next call) (holds_term joined call) (c.in-Some.ensures.either call)) second.1))) c.fork.ensures.met

pub returns-in-Some-either-clause-met : goal.returns-in-Some-either-clause-met
returns-in-Some-either-clause-met c =
    let term = c.args.term in
    let next = c.args.failed.term in
    let joined = c.in-Some-either.joined in
    let is : (call : Record) → holds_term joined call ≡ (holds_term term call || not (holds_term next call)) =
    λ call. c.in-Some-either.ensures.either call ∙ ap (λ b. holds_term term call || b) (c.negated.ensures.negated call) in
    IfOk-weaker c.fork-in-Some-either.result _ _ (λ it h calls first second.
    h calls
    (passes c.args.held calls (λ call. holds_term term call) (λ call. holds_term joined call)
    (λ call. first_holds (holds_term term call) (not (holds_term next call)) (holds_term joined call) (is call)) first)
    (subst (EachEndIsMetBy (filter (λ call. not (holds_term joined call)) calls)) (sym c.into_inner-in-Some-either.ensures)
    (passes_both c.args.failed.held.value calls (λ call. not (holds_term term call)) (λ call. holds_term next call) (λ call. not (holds_term joined call))
    (λ call fails holds. neither_holds (holds_term term call) (not (holds_term next call)) (holds_term joined call) (is call) fails (ap (λ b. not (not b)) holds)) second.0)))
    c.fork-in-Some-either.ensures.met
