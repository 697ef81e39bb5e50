use Rattle.std.proofs.Common.{◌≡◌, not, sym, subst, ◌∙◌, ap, filter}
use Rattle.std.proofs.lemmas.Result.{IfOk-weaker}
use Rattle.sk_conditions.specs.Conditions.{holds_on}
use Rattle.sk_conditions.specs.Meeting.{EachEndIsMet}
use Rattle.sk_insn.specs.declared.record.Record.{Record}
use Rattle.sk_insn.specs.Record.{IsNative}
use Rattle.sk_terms.specs.Terms.{holds_meant, holds_term}
use Rattle.sk_terms.proofs.Ends.{parted_met, side_met, some_of_tree}
use Rattle.sk_terms.proofs.decision.+decide.Goals as goal

pub returns-in-None-clause-met : goal.returns-in-None-clause-met
returns-in-None-clause-met t c = λ calls natives met. some_of_tree c.args.tree.now calls met

pub returns-in-Some-Always-true-clause-met : goal.returns-in-Some-Always-true-clause-met
returns-in-Some-Always-true-clause-met t c =
    IfOk-weaker c.decide.result _ _ (λ decision h calls natives met.
    side_met c.deref.result.now decision calls (λ call. holds_on c.in-Ask.test call) natives h
    (subst (EachEndIsMet (filter (λ call. holds_on c.in-Ask.test call) calls)) (sym c.deref.ensures) (subst (EachEndIsMet calls) c.in-Ask.is met).0)) c.decide.ensures.met

pub returns-in-Some-Always-false-clause-met : goal.returns-in-Some-Always-false-clause-met
returns-in-Some-Always-false-clause-met t c =
    IfOk-weaker c.decide-in-Some-Always-false.result _ _ (λ decision h calls natives met.
    side_met c.deref-in-Some-Always-false.result.now decision calls (λ call. not (holds_on c.in-Ask.test call)) natives h
    (subst (EachEndIsMet (filter (λ call. not (holds_on c.in-Ask.test call)) calls)) (sym c.deref-in-Some-Always-false.ensures)
    (subst (EachEndIsMet calls) c.in-Ask.is met).1)) c.decide-in-Some-Always-false.ensures.met

pub returns-in_ok-failed-in-Some-Term-clause-met : goal.returns-in_ok-failed-in-Some-Term-clause-met
returns-in_ok-failed-in-Some-Term-clause-met t c =
    let test = c.in-Ask.test in
    let term = c.in-Some-Term.term in
    let says : (call : Record) → IsNative call → holds_on test call ≡ holds_term term call =
    λ call native. c.in-Some-Term.ensures.meant call native ∙ ap (λ meant. holds_meant meant call) c.in-Some-Term.field-0-is in
    IfOk-weaker c.asked.result _ _ (λ decision h calls natives met.
    let both = subst (EachEndIsMet calls) c.in-Ask.is met in
    h calls
    (parted_met c.deref-in-Some-Term.result.now c.in_ok-held-in-Some-Term.held calls (λ call. holds_on test call) (λ call. holds_term term call) natives
    (λ call native holds. sym (says call native) ∙ holds) c.in_ok-held-in-Some-Term.ensures.met
    (subst (EachEndIsMet (filter (λ call. holds_on test call) calls)) (sym c.deref-in-Some-Term.ensures) both.0))
    (parted_met c.deref-in-Some-Term-2.result.now c.in_ok-failed-in-Some-Term.failed calls (λ call. not (holds_on test call)) (λ call. not (holds_term term call)) natives
    (λ call native fails. ap not (sym (says call native)) ∙ fails) c.in_ok-failed-in-Some-Term.ensures.met
    (subst (EachEndIsMet (filter (λ call. not (holds_on test call)) calls)) (sym c.deref-in-Some-Term-2.ensures) both.1))) c.asked.ensures.met
