use Rattle.std.proofs.Common.{◌≡◌, ◌-◌, ◌<◌, ◌++◌, ◌∷◌, List, [], length, drop, length-append, refl, ap, sym, ◌∙◌, subst, arith, append_assoc}
use Rattle.sk_insn.specs.declared.insn.Insn.{Insn}
use Rattle.sk_profile.specs.Code.{answer}
use Rattle.sk_policy.specs.Code.{line_code}
use Rattle.sk_policy.proofs.Ending.{chain, case_part, before_is, one_more, over_with, over_at_end, cases_are}
use Rattle.sk_policy.proofs.Ruling.{handed_on}
use Rattle.sk_policy.proofs.cases.put_cases.Goals as goal

pub returns-in_err-put_one-clause-long : goal.returns-in_err-put_one-clause-long
returns-in_err-put_one-clause-long c =
    let cases = c.args.cases.now in
    let end = answer c.args.otherwise ∷ [] in
    handed_on _ _ _ c.from_residual.ensures.1
    (λ is. subst (λ insns. 4096 < length (insns ++ c.args.code.now)) (sym (cases_are cases c.args.otherwise))
    (over_at_end case_part end cases c.args.code.now (subst (λ (insn : Insn). 4096 < length (insn ∷ c.args.code.now)) c.answer.ensures.insn (c.in_err-put_one.ensures.long is))))

pub returns-in_err-put_case-clause-long : goal.returns-in_err-put_case-clause-long
returns-in_err-put_case-clause-long c =
    let loop = c.loop-last in
    let cases = c.args.cases.now in
    let last = c.in-Some.last.now in
    let end = answer c.args.otherwise ∷ [] in
    let same = append_assoc (line_code last.choices.items 0 1) (answer last.value ∷ []) loop.code in
    handed_on _ _ _ c.from_residual-in_err-put_case.ensures.1
    (λ is. subst (λ insns. 4096 < length (insns ++ c.args.code.now)) (sym (cases_are cases c.args.otherwise))
    (over_with case_part end cases loop.left.now c.in-Some.before.now last c.args.code.now loop.code (case_part last (length loop.code - length c.args.code.now) ++ loop.code)
    (length loop.code - length c.args.code.now) loop.invariant.left c.in-Some.ensures.cases.0 loop.invariant.code (omega (arith, loop.invariant.more)) refl
    (subst (λ insns. 4096 < length insns) (sym same) (c.in_err-put_case.ensures.long is))))

pub loop-last-preserved : goal.loop-last-preserved
loop-last-preserved c =
    let loop = c.loop-last in
    let last = c.in-Some.last.now in
    let end = answer c.args.otherwise ∷ [] in
    let same = append_assoc (line_code last.choices.items 0 1) (answer last.value ∷ []) loop.code in record {
      few = c.in_ok-put_case.ensures.few;
      more = omega (arith, loop.invariant.more, ap length c.in_ok-put_case.ensures.code, length-append (line_code last.choices.items 0 1) (answer last.value ∷ loop.code));
      left = before_is c.args.cases.now loop.left.now c.in-Some.before.now last loop.invariant.left c.in-Some.ensures.cases.0;
      code = one_more case_part end c.args.cases.now loop.left.now c.in-Some.before.now last c.args.code.now loop.code c.put_case.new.code (length loop.code - length c.args.code.now)
          loop.invariant.left c.in-Some.ensures.cases.0 loop.invariant.code (omega (arith, loop.invariant.more)) (c.in_ok-put_case.ensures.code ∙ sym same);
    }

pub returns-clause-code : goal.returns-clause-code
returns-clause-code c =
    let none : length c.loop-last.left.now ≡ 0 = c.in_default.ensures.cases in
    c.loop-last.invariant.code ∙ ap (λ n. chain case_part (answer c.args.otherwise ∷ []) (drop n c.args.cases.now) ++ c.args.code.now) none
    ∙ ap (λ (insns : List Insn). insns ++ c.args.code.now) (sym (cases_are c.args.cases.now c.args.otherwise))
