use Rattle.std.proofs.Common.{◌≡◌, ℕ, ◌++◌, ◌∷◌, ◌+◌, ◌-◌, ◌<◌, ◌≤◌, List, length, get_or, take, drop, inl, inr, arith, ap, sym, ◌∙◌, subst, refl}
use Rattle.std.specs.Prelude.{All, OnOk}
use Rattle.std.proofs.lemmas.Bool.{cases_lt}
use Rattle.std.proofs.lemmas.List.Elements.{All-head, All-take, All-drop}
use Rattle.sk_profile.specs.Code.{answer}
use Rattle.sk_profile.proofs.Emitting.{rest_of, on_ok}
use Rattle.sk_policy.specs.declared.policy.Rule.{Rule}
use Rattle.sk_policy.specs.Sizes.{rules_most, gap_most}
use Rattle.sk_policy.specs.Code.{head_code}
use Rattle.sk_policy.specs.Emitting.{Emits}
use Rattle.sk_policy.specs.Policies.{RuleThere, AreApart, AreWithin}
use Rattle.sk_policy.proofs.Sizing.{both_most, no_gap, still_none}
use Rattle.sk_policy.proofs.Running.{first_and_rest, run_short, run_more}
use Rattle.sk_policy.proofs.Ruling.{on_err, handed_on, one_answer, some_say, none_say, gap_before, cut_here, apart_take, apart_drop, within_take, within_drop, above_start, first_within}
use Rattle.sk_policy.proofs.rules.+put_rules.Goals as goal

pub returns-then-say_nothing-clause-emits : goal.returns-then-say_nothing-clause-emits
returns-then-say_nothing-clause-emits t c =
    on_ok c.put_one.result
    (λ is. one_answer c.args.code.now c.put_one.new.code c.args.rules.now c.args.default c.args.from c.args.to c.args.default (is ∙ ap (λ insn. insn ∷ c.args.code.now) c.answer.ensures.insn)
    (λ call up to. none_say c.args.default c.args.rules.now (sym c.say_nothing.ensures.nothing ∙ c.if-say_nothing.true) call))
    c.put_one.ensures.code

pub returns-then-from-first-clause-emits : goal.returns-then-from-first-clause-emits
returns-then-from-first-clause-emits t c =
    let rules = c.args.rules.now in
    let first = c.index-rules-0.result in
    let inside : 0 < length rules = some_say c.args.default rules (sym c.say_nothing.ensures.nothing ∙ c.if-say_nothing.false) in
    let above = c.put_rules.new.code in
    let mid = c.put_one-then-from-first.new.code in
    let here = ap (λ (rule : Rule). rule.first) c.index-rules-0.is in
    on_ok c.put_head.result
    (λ is. gap_before c.args.code.now above mid c.put_head.new.code rules 0 first c.args.default c.args.from c.args.to (c.len.result - c.len-above.result) refl inside c.requires.apart
    (omega (arith, here, c.if-from-first.true))
    (subst (λ n. Emits c.args.code.now above rules c.args.default n c.args.to) here c.in_ok-put_rules.ensures.emits)
    (c.in_ok-put_one.ensures.code ∙ ap (λ insn. insn ∷ above) c.answer-then-from-first.ensures.insn)
    (omega (arith, c.len.ensures.len, c.len-above.ensures.len))
    (is ∙ ap (λ n. head_code n (c.len.result - c.len-above.result) ++ mid) here))
    c.put_head.ensures.code

pub put_rules-requires-2 : goal.put_rules-requires-2
put_rules-requires-2 t c =
    let rules = c.args.rules.now in
    let n = c.cut-at.result in
    let d = c.index-rules-at.result in
    let inside = c.cut-at.ensures.inside in
    let here = ap (λ (rule : Rule). rule.first) c.index-rules-at.is in
    let some = above_start n rules d c.args.from c.args.to c.cut-at.ensures.behind inside c.requires.apart c.requires.within in
    let most = first_within n rules d c.args.from c.args.to inside c.requires.apart c.requires.within in
    let whole = rest_of n rules in (
      omega (arith, c.decreases, some, most, here),
      (
        c.requires.room,
        (
          subst AreApart (sym whole) (apart_drop n rules c.requires.apart),
          (
            subst (λ (rest : List Rule). AreWithin d.first c.args.to rest) (sym whole)
                (subst (λ k. AreWithin k c.args.to (drop n rules)) (sym here) (within_drop n rules d c.args.from c.args.to inside c.requires.apart c.requires.within)),
            subst (All RuleThere) (sym whole) (All-drop RuleThere n rules c.requires.there),
          ),
        ),
      ),
    )

pub put_rules-requires-3 : goal.put_rules-requires-3
put_rules-requires-3 t c =
    let rules = c.args.rules.now in
    let n = c.cut-at.result in
    let d = c.index-rules-at.result in
    let inside = c.cut-at.ensures.inside in
    let here = ap (λ (rule : Rule). rule.first) c.index-rules-at.is in
    let some = above_start n rules d c.args.from c.args.to c.cut-at.ensures.behind inside c.requires.apart c.requires.within in
    let most = first_within n rules d c.args.from c.args.to inside c.requires.apart c.requires.within in (
      omega (arith, c.decreases, some, most, here),
      (
        c.in_ok-put_rules-2.ensures.few,
        (
          apart_take n rules c.requires.apart,
          (
            subst (λ k. AreWithin c.args.from (k - 1) (take n rules)) (sym here) (within_take n rules d c.args.from c.args.to inside c.requires.apart c.requires.within),
            All-take RuleThere n rules c.requires.there,
          ),
        ),
      ),
    )

pub returns-clause-emits : goal.returns-clause-emits
returns-clause-emits t c =
    let rules = c.args.rules.now in
    let n = c.cut-at.result in
    let d = c.index-rules-at.result in
    let here = ap (λ (rule : Rule). rule.first) c.index-rules-at.is in
    let above = c.put_rules-2.new.code in
    let mid = c.put_rules-3.new.code in
    on_ok c.put_head-2.result
    (λ is. cut_here c.args.code.now above mid c.put_head-2.new.code rules n d c.args.default c.args.from c.args.to (c.len-2.result - c.len-above-2.result) c.cut-at.ensures.behind c.cut-at.ensures.inside
    c.requires.apart c.requires.within
    (subst (λ k. Emits c.args.code.now above (drop n rules) c.args.default k c.args.to) here
    (subst (λ (rest : List Rule). Emits c.args.code.now above rest c.args.default d.first c.args.to) (rest_of n rules) c.in_ok-put_rules-2.ensures.emits))
    (subst (λ k. Emits above mid (take n rules) c.args.default c.args.from (k - 1)) here c.in_ok-put_rules-3.ensures.emits)
    (omega (arith, c.len-2.ensures.len, c.len-above-2.ensures.len))
    (is ∙ ap (λ k. head_code k (c.len-2.result - c.len-above-2.result) ++ mid) here))
    c.put_head-2.ensures.code

-- what is above the cut has no gap before it
above_most : (n : ℕ) (rules : List Rule) (d : Rule) (start : ℕ) → n < length rules → start ≡ (get_or rules n d).first
    → rules_most (take (length rules - n) (drop n rules)) + gap_most start (take (length rules - n) (drop n rules)) ≡ rules_most (drop n rules)
above_most n rules d start inside here =
    let whole = rest_of n rules in
    let most : rules_most (take (length rules - n) (drop n rules)) ≡ rules_most (drop n rules) = ap rules_most whole in
    let none : gap_most start (take (length rules - n) (drop n rules)) ≡ 0 =
    ap (λ (rest : List Rule). gap_most start rest) whole ∙ ap (λ k. gap_most k (drop n rules)) here ∙ no_gap n rules d inside in
    omega (arith, most, none)

pub returns-in_err-put_rules-2-clause-long : goal.returns-in_err-put_rules-2-clause-long
returns-in_err-put_rules-2-clause-long t c =
    let rules = c.args.rules.now in
    let n = c.cut-at.result in
    let above = above_most n rules c.index-rules-at.result c.index-rules-at.result.first c.cut-at.ensures.inside (ap (λ (rule : Rule). rule.first) c.index-rules-at.is) in
    handed_on _ _ _ c.from_residual-in_err-put_rules-2.ensures.1
    (λ is. let over = c.in_err-put_rules-2.ensures.long is in omega (arith, over, above, both_most n rules))

pub returns-in_err-put_rules-3-clause-long : goal.returns-in_err-put_rules-3-clause-long
returns-in_err-put_rules-3-clause-long t c =
    let rules = c.args.rules.now in
    let n = c.cut-at.result in
    let above = above_most n rules c.index-rules-at.result c.index-rules-at.result.first c.cut-at.ensures.inside (ap (λ (rule : Rule). rule.first) c.index-rules-at.is) in
    handed_on _ _ _ c.from_residual-in_err-put_rules-3.ensures.1
    (λ is. let over = c.in_err-put_rules-3.ensures.long is in
    omega (arith, over, above, c.in_ok-put_rules-2.ensures.size, both_most n rules, still_none n rules c.args.from c.cut-at.ensures.behind c.cut-at.ensures.inside))

pub returns-clause-size : goal.returns-clause-size
returns-clause-size t c =
    let rules = c.args.rules.now in
    let n = c.cut-at.result in
    let above = above_most n rules c.index-rules-at.result c.index-rules-at.result.first c.cut-at.ensures.inside (ap (λ (rule : Rule). rule.first) c.index-rules-at.is) in
    on_ok c.put_head-2.result
    (λ few. omega (arith, few, above, c.in_ok-put_rules-2.ensures.size, c.in_ok-put_rules-3.ensures.size, both_most n rules, still_none n rules c.args.from c.cut-at.ensures.behind c.cut-at.ensures.inside))
    c.put_head-2.ensures.size

pub returns-clause-long : goal.returns-clause-long
returns-clause-long t c =
    let rules = c.args.rules.now in
    let n = c.cut-at.result in
    let above = above_most n rules c.index-rules-at.result c.index-rules-at.result.first c.cut-at.ensures.inside (ap (λ (rule : Rule). rule.first) c.index-rules-at.is) in
    on_err c.put_head-2.result
    (λ fault over is. let more = over is in
    omega (arith, more, above, c.in_ok-put_rules-2.ensures.size, c.in_ok-put_rules-3.ensures.size, both_most n rules, still_none n rules c.args.from c.cut-at.ensures.behind c.cut-at.ensures.inside))
    c.put_head-2.ensures.long

pub returns-in-Some-clause-emits : goal.returns-in-Some-clause-emits
returns-in-Some-clause-emits t c =
    let rules = c.args.rules.now in
    let first = c.index-rules-0.result in
    let rest = take (length rules - 1) (drop 1 rules) in
    let inside : 0 < length rules = some_say c.args.default rules (sym c.say_nothing.ensures.nothing ∙ c.if-say_nothing.false) in
    let parts : rules ≡ first ∷ rest = first_and_rest rules first inside ∙ ap (λ (rule : Rule). rule ∷ rest) (sym c.index-rules-0.is) in
    let within : AreWithin c.args.from c.args.to (first ∷ rest) = subst (AreWithin c.args.from c.args.to) parts c.requires.within in
    let here = All-head (λ (rule : Rule). (c.args.from ≤ rule.first) × (rule.last ≤ c.args.to)) first rest within in
    let run = c.in-Some.ensures.run in
    subst (λ (all : List Rule). OnOk c.put_run.result (Emits c.args.code.now c.put_run.new.code all c.args.default c.args.from c.args.to)) (sym parts)
    (elim (cases_lt c.in-Some.end c.args.to) [
      | inl more ↦
          on_ok c.put_run.result
          (λ is. run_more c.args.code.now c.put_run.new.code first rest c.args.default c.args.from c.args.to (omega (arith, here.0, c.if-from-first.false)) (subst AreApart parts c.requires.apart) run.0
          (is ∙ ap (λ k. head_code (k + 1) 1 ++ (answer first.otherwise ∷ answer c.args.default ∷ c.args.code.now)) run.1))
          (c.put_run.ensures.more more)
      | inr short ↦
          on_ok c.put_run.result
          (λ is. run_short c.args.code.now c.put_run.new.code first rest c.args.default c.args.from c.args.to c.if-from-first.false run.0 (omega (arith, short, run.1)) is)
          (c.put_run.ensures.short short)
    ])
