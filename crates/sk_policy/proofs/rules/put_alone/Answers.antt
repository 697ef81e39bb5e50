use Rattle.std.proofs.Common.{◌<◌, ◌++◌, ◌∷◌, ◌-◌, length, arith, ap, ◌∙◌, subst}
use Rattle.sk_profile.proofs.Emitting.{on_ok}
use Rattle.sk_policy.specs.Code.{cases_code}
use Rattle.sk_policy.proofs.Ruling.{on_err, handed_on, alone, alone_and_more}
use Rattle.sk_policy.proofs.Sizing.{cases_put, cases_over}
use Rattle.sk_policy.proofs.rules.put_alone.Goals as goal

pub returns-then-to-rule-clause-emits : goal.returns-then-to-rule-clause-emits
returns-then-to-rule-clause-emits c =
    let rule = c.args.rule.now in
    on_ok c.put_cases.result
    (λ is. alone c.args.code.now c.put_cases.new.code rule c.args.default c.args.to c.requires.there c.if-to-rule.true
    (is ∙ ap (λ cases. cases_code cases rule.otherwise ++ c.args.code.now) c.deref.ensures.value))
    c.put_cases.ensures.code

pub returns-clause-emits : goal.returns-clause-emits
returns-clause-emits c =
    let rule = c.args.rule.now in
    let above = c.put_one.new.code in
    let mid = c.put_cases-2.new.code in
    on_ok c.put_head.result
    (λ is. alone_and_more c.args.code.now above mid c.put_head.new.code rule c.args.default c.args.to (c.len.result - c.len-above.result) c.requires.there c.requires.some
    (c.in_ok-put_one.ensures.code ∙ ap (λ insn. insn ∷ c.args.code.now) c.answer.ensures.insn)
    (c.in_ok-put_cases.ensures.code ∙ ap (λ cases. cases_code cases rule.otherwise ++ above) c.deref-2.ensures.value)
    (omega (arith, c.len.ensures.len, c.len-above.ensures.len))
    is)
    c.put_head.ensures.code

pub returns-then-to-rule-clause-size : goal.returns-then-to-rule-clause-size
returns-then-to-rule-clause-size c =
    let rule = c.args.rule.now in
    on_ok c.put_cases.result
    (λ is. let few = cases_put rule.cases.items rule.otherwise c.args.code.now c.put_cases.new.code (is ∙ ap (λ cases. cases_code cases rule.otherwise ++ c.args.code.now) c.deref.ensures.value) in omega (arith, few))
    c.put_cases.ensures.code

pub returns-then-to-rule-clause-long : goal.returns-then-to-rule-clause-long
returns-then-to-rule-clause-long c =
    let rule = c.args.rule.now in
    on_err c.put_cases.result
    (λ fault over is. let more = cases_over rule.cases.items rule.otherwise c.args.code.now (subst (λ cases. 4096 < length (cases_code cases rule.otherwise ++ c.args.code.now)) c.deref.ensures.value (over is)) in omega (arith, more))
    c.put_cases.ensures.long

pub returns-in_err-put_cases-clause-long : goal.returns-in_err-put_cases-clause-long
returns-in_err-put_cases-clause-long c =
    let rule = c.args.rule.now in
    let above = c.put_one.new.code in
    handed_on _ _ _ c.from_residual-in_err-put_cases.ensures.1
    (λ is. let more = cases_over rule.cases.items rule.otherwise above (subst (λ cases. 4096 < length (cases_code cases rule.otherwise ++ above)) c.deref-2.ensures.value (c.in_err-put_cases.ensures.long is)) in
    omega (arith, more, ap length c.in_ok-put_one.ensures.code))

pub returns-clause-size : goal.returns-clause-size
returns-clause-size c =
    let rule = c.args.rule.now in
    let above = c.put_one.new.code in
    let few = cases_put rule.cases.items rule.otherwise above c.put_cases-2.new.code (c.in_ok-put_cases.ensures.code ∙ ap (λ cases. cases_code cases rule.otherwise ++ above) c.deref-2.ensures.value) in
    on_ok c.put_head.result (λ more. omega (arith, more, few, ap length c.in_ok-put_one.ensures.code)) c.put_head.ensures.size

pub returns-clause-long : goal.returns-clause-long
returns-clause-long c =
    let rule = c.args.rule.now in
    let above = c.put_one.new.code in
    let few = cases_put rule.cases.items rule.otherwise above c.put_cases-2.new.code (c.in_ok-put_cases.ensures.code ∙ ap (λ cases. cases_code cases rule.otherwise ++ above) c.deref-2.ensures.value) in
    on_err c.put_head.result (λ fault over is. let more = over is in omega (arith, more, few, ap length c.in_ok-put_one.ensures.code)) c.put_head.ensures.long
