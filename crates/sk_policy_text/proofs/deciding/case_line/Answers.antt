use Rattle.std.proofs.Common.{◌≡◌, [], ◌∷◌, ◌++◌, sym, ap, ◌∙◌, subst, append_assoc, Some}
use Rattle.std.specs.Prelude.{IfSome}
use Rattle.sk_policy_text.specs.PolicyFaults.{IsCaseOf}
use Rattle.sk_policy_text.specs.PolicyDeciding.{CasesDecide}
use Rattle.sk_policy_text.proofs.DecidingCases.{met_here, met_behind}
use Rattle.sk_policy_text.proofs.deciding.case_line.Goals as goal

pub returns-then-is_met-clause-decides : goal.returns-then-is_met-clause-decides
returns-then-is_met-clause-decides c =
    let first = c.in-Some.first.now in
    let rest = c.in-Some.rest.now in
    let case = c.in-Some-2.case in
    let is : IsCaseOf first.sentence case = subst (λ found. IfSome found (IsCaseOf first.sentence)) c.in-Some-2.is c.in_ok-case.ensures.some in
    let here : CasesDecide (first ∷ rest) c.args.call (Some first.line) =
    met_here first.sentence first.line (CasesDecide rest c.args.call (Some first.line)) case c.args.call is (sym c.if-is_met.ensures.met) in
    c.loop-first.invariant.decides (Some first.line) (subst (λ left. CasesDecide left c.args.call (Some first.line)) (sym c.in-Some.ensures.cases.0) here)

pub loop-first-preserved : goal.loop-first-preserved
loop-first-preserved c =
    let first = c.in-Some.first.now in
    let rest = c.in-Some.rest.now in
    let case = c.in-Some-2.case in
    let steps = c.in-Some.ensures.cases.0 in
    let is : IsCaseOf first.sentence case = subst (λ found. IfSome found (IsCaseOf first.sentence)) c.in-Some-2.is c.in_ok-case.ensures.some in
    let before = c.loop-first.invariant.before in record {
      before = (before.0 ++ first ∷ [], before.1 ∙ ap (λ left. before.0 ++ left) steps ∙ sym (append_assoc before.0 (first ∷ []) rest));
      decides = λ line behind. c.loop-first.invariant.decides line (subst (λ left. CasesDecide left c.args.call line) (sym steps)
          (met_behind first.sentence first.line (CasesDecide rest c.args.call line) case c.args.call line is (sym c.if-is_met.ensures.met) behind));
    }
