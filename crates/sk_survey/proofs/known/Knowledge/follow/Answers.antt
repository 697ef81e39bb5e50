use Rattle.std.proofs.Common.{◌≡◌, length, Some, ap, subst, sym, ◌∙◌, arith}
use Rattle.sk_insn.specs.declared.operation.Operation.TheVariants.{StoreScratch, Compute, Branch}
use Rattle.sk_insn.specs.Operations.{operation_of}
use Rattle.sk_filter.specs.Paths.{LeadsTo}
use Rattle.sk_survey.proofs.KnownStates.{store_leads}
use Rattle.sk_survey.proofs.known.Knowledge.follow.Goals as goal

pub returns-in-Some-StoreScratch-clause-leads : goal.returns-in-Some-StoreScratch-clause-leads
returns-in-Some-StoreScratch-clause-leads c =
    λ call s within is.
    let insn = c.args.insn.now in
    let r = c.in-Some-StoreScratch.register in
    let does : operation_of insn.code ≡ Some (StoreScratch r) = sym c.decode.ensures.operation ∙ c.in-Some-StoreScratch.is ∙ ap Some c.in-Some-StoreScratch.field-0-is in
    let inside = rw does at c.requires.constant in
    let full : length c.args.self.now.words ≡ 16 = omega arith in
    rw (does, c.store.ensures.next, c.store.ensures.knows) (store_leads r insn c.args.self.now call s full inside is)

pub returns-in-Some-Compute-clause-goes : goal.returns-in-Some-Compute-clause-goes
returns-in-Some-Compute-clause-goes c =
    λ place next goes.
    let step = c.in-Some-Compute in
    let does : operation_of c.args.insn.now.code ≡ Some (Compute step.arithmetic step.operand) = sym c.decode.ensures.operation ∙ step.is ∙ ap Some step.field-0-is in
    subst (λ o. LeadsTo place next o c.args.insn.now) (sym does) (c.compute.ensures.goes place next goes)

pub returns-in-Some-Branch-clause-goes : goal.returns-in-Some-Branch-clause-goes
returns-in-Some-Branch-clause-goes c =
    λ place next goes.
    let step = c.in-Some-Branch in
    let does : operation_of c.args.insn.now.code ≡ Some (Branch step.comparison step.operand) = sym c.decode.ensures.operation ∙ step.is ∙ ap Some step.field-0-is in
    subst (λ o. LeadsTo place next o c.args.insn.now) (sym does) (c.branch-self.ensures.goes place next goes)
