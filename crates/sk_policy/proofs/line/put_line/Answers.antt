use Rattle.std.proofs.Common.{◌+◌, ◌-◌, ◌<◌, ◌++◌, length, ap, ◌∙◌, subst, arith, length-append}
use Rattle.sk_policy.specs.Code.{choice_code, line_code}
use Rattle.sk_policy.proofs.Ending.{choice_part, choice_end, line_is, begins, goes_on, is_whole, over_on, over_first}
use Rattle.sk_policy.proofs.Ruling.{handed_on}
use Rattle.sk_policy.proofs.line.put_line.Goals as goal

pub returns-in_err-put_choice-clause-long : goal.returns-in_err-put_choice-clause-long
returns-in_err-put_choice-clause-long c =
    handed_on _ _ _ c.from_residual.ensures.1
    (λ is. over_first (choice_part c.args.failed) (choice_end c.args.held c.args.failed) (λ choices. line_code choices c.args.held c.args.failed) (line_is c.args.held c.args.failed) c.args.choices.now c.in-Some.before.now c.in-Some.last.now c.args.code.now c.in-Some.ensures.cases.0
    (subst (λ terms. 4096 < length (choice_code terms c.args.held c.args.failed ++ c.args.code.now)) c.deref.ensures.value (c.in_err-put_choice.ensures.long is)))

pub returns-in_err-put_choice-2-clause-long : goal.returns-in_err-put_choice-2-clause-long
returns-in_err-put_choice-2-clause-long c =
    let loop = c.loop-choice in
    let behind = c.len.result - c.len-end.result in
    handed_on _ _ _ c.from_residual-in_err-put_choice-2.ensures.1
    (λ is. over_on (choice_part c.args.failed) (choice_end c.args.held c.args.failed) (λ choices. line_code choices c.args.held c.args.failed) (line_is c.args.held c.args.failed) c.args.choices.now loop.left.now c.in-Some-split_last.others.now c.in-Some-split_last.choice.now c.args.code.now loop.code behind
    loop.invariant.writes c.in-Some-split_last.ensures.cases.0 (omega (arith, loop.invariant.more, c.len.ensures.len, c.len-end.ensures.len))
    (subst (λ terms. 4096 < length (choice_code terms 0 (behind + c.args.failed) ++ loop.code)) c.deref-in-Some-split_last.ensures.value (c.in_err-put_choice-2.ensures.long is)))

pub loop-choice-init : goal.loop-choice-init
loop-choice-init c =
    let last = c.in-Some.last.now in
    let end = choice_end c.args.held c.args.failed in
    let put = c.in_ok-put_choice.ensures.code ∙ ap (λ terms. choice_code terms c.args.held c.args.failed ++ c.args.code.now) c.deref.ensures.value in record {
      few = c.in_ok-put_choice.ensures.few;
      more = omega (arith, ap length put, length-append (end last) c.args.code.now);
      writes = begins (choice_part c.args.failed) end c.args.choices.now c.in-Some.before.now last c.args.code.now c.put_choice.new.code c.in-Some.ensures.cases.0 put;
    }

pub loop-choice-preserved : goal.loop-choice-preserved
loop-choice-preserved c =
    let loop = c.loop-choice in
    let behind = c.len.result - c.len-end.result in
    let it = c.in-Some-split_last.choice.now in
    let put = c.in_ok-put_choice-2.ensures.code ∙ ap (λ terms. choice_code terms 0 (behind + c.args.failed) ++ loop.code) c.deref-in-Some-split_last.ensures.value in record {
      few = c.in_ok-put_choice-2.ensures.few;
      more = omega (arith, loop.invariant.more, ap length put, length-append (choice_part c.args.failed it behind) loop.code);
      writes = goes_on (choice_part c.args.failed) (choice_end c.args.held c.args.failed) c.args.choices.now loop.left.now c.in-Some-split_last.others.now it c.args.code.now loop.code c.put_choice-in-Some-split_last.new.code behind
          loop.invariant.writes c.in-Some-split_last.ensures.cases.0 (omega (arith, loop.invariant.more, c.len.ensures.len, c.len-end.ensures.len)) put;
    }

pub returns-clause-code : goal.returns-clause-code
returns-clause-code c =
    is_whole (choice_part c.args.failed) (choice_end c.args.held c.args.failed) (λ choices. line_code choices c.args.held c.args.failed) (line_is c.args.held c.args.failed) c.args.choices.now c.loop-choice.left.now c.args.code.now c.loop-choice.code c.loop-choice.invariant.writes
    c.in_default-split_last.ensures.cases
