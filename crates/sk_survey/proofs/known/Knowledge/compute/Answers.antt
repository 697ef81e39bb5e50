use Rattle.std.proofs.Common.{◌≡◌, ◌==◌, false, subst, sym, ◌∙◌, Some}
use Rattle.std.proofs.lemmas.Bool.{ne_eqb}
use Rattle.sk_insn.specs.declared.operation.Arithmetic.TheVariants.{Divide}
use Rattle.sk_insn.specs.declared.operation.Operand.TheVariants.{IndexRegister}
use Rattle.sk_insn.specs.declared.operation.Operation.TheVariants.{Compute}
use Rattle.sk_filter.specs.Fits.{TakesConstant}
use Rattle.sk_filter.specs.Meaning.{operand}
use Rattle.sk_survey.specs.Following.{Describes}
use Rattle.sk_survey.proofs.KnownStates.{operand_known, compute_leads}
use Rattle.sk_survey.proofs.known.Knowledge.compute.Goals as goal
use Rattle.sk_survey.proofs.known.Knowledge.compute.Goals.{in_default-via-in-Divide+in-Is+in_default, in_default-via-in_default}

pub returns-in_default-clause-leads : goal.returns-in_default-clause-leads
returns-in_default-clause-leads c =
    λ call s is.
    let insn = c.args.insn.now in
    let arithmetic = c.args.arithmetic in
    let right = c.args.operand in
    let known = subst (λ known. Describes known call (operand right insn s)) (sym c.right-right.ensures.operand) (operand_known right insn c.args.self.now call s is) in
    let some : arithmetic ≡ Divide → right ≡ IndexRegister → (s.x == 0) ≡ false =
    elim c.in_default.branch [
      | in_default-via-in-Divide+in-Is+in_default w ↦ λ divides index.
          let is_n = subst (λ known. Describes known call (operand right insn s)) w.in_default.is-1 known in
          let x_n : s.x ≡ w.in_default.field-0-1 = subst (λ r. operand r insn s ≡ w.in_default.field-0-1) index is_n in
          ne_eqb s.x 0 (λ e. w.in_default.field-0-1-test.1 (sym x_n ∙ e))
      | in_default-via-in_default w ↦ λ divides index. absurd (w.in_default.not-Divide-0 divides)
    ] in
    rw (c.set.ensures.next, c.set.ensures.knows)
    (compute_leads arithmetic right insn c.calculation.result c.args.self.now call s is
    (λ e. subst (λ o. TakesConstant (Some (Compute arithmetic o)) insn) e c.requires.constant)
    some
    (c.calculation.ensures.value call s.a (operand right insn s) is.a known))
