use Rattle.std.proofs.Common.{◌<◌, [], ◌∷◌, length, Some, arith, ap, refl, sym, subst, ◌∙◌}
use Rattle.std.proofs.lemmas.List.Elements.{All-weaker}
use Rattle.sk_insn.specs.Record.{IsNative}
use Rattle.sk_filter.specs.Verdict.{verdict_of}
use Rattle.sk_survey.specs.Answers.{IsCallOf, answers_of}
use Rattle.sk_terms.specs.Decisions.{decided}
use Rattle.sk_terms.specs.Lines.{IsValueOf}
use Rattle.sk_terms.specs.Numbers.{HasNumber}
use Rattle.sk_when.specs.Lines.{or_else}
use Rattle.sk_conditions.proofs.Spending.{not_spent, spares}
use Rattle.sk_when.proofs.Elses.{else_tells, is_decided, is_verdict}
use Rattle.sk_when.proofs.RowsMet.{alone_met, row_met}
use Rattle.sk_when.proofs.row.conditions_of_row.Goals as goal

pub returns-clause-told : goal.returns-clause-told
returns-clause-told c = λ call within.
    let value = decided c.in_ok-decision.decision call in
    let verdict = verdict_of c.args.chain.now call in (
      value,
      ap (λ values. or_else values c.in_ok-otherwise.otherwise) (c.in_ok-lines.ensures.told call) ∙ else_tells value c.in_ok-otherwise.otherwise,
      is_verdict (answers_of c.args.row.answers) verdict value
          (c.in_ok-decision.ensures.decides call within.0 verdict (c.in_ok-tree.ensures.tells call within)) (c.requires.among call within),
    )

pub returns-clause-met : goal.returns-clause-met
returns-clause-met c =
    let calls = c.in_ok-tree.ensures.met.0 in
    let within = c.in_ok-tree.ensures.met.1 in
    let natives = All-weaker (IsCallOf c.args.row.first c.args.row.last) IsNative (λ call inside. inside.0) calls within in
    let ends = c.in_ok-decision.ensures.met calls natives c.in_ok-tree.ensures.met.2 in
    row_met c.args.chain.now (record { row = c.args.row; lines = c.in_ok-lines.lines; otherwise = c.in_ok-otherwise.otherwise }) calls c.in_ok-all.all.items
    (decided c.in_ok-decision.decision) within
    (λ call inside. c.in_ok-decision.ensures.decides call inside.0 (verdict_of c.args.chain.now call) (c.in_ok-tree.ensures.tells call inside))
    c.in_ok-all.ensures.told c.in_ok-lines.ensures.told (c.in_ok-all.ensures.met calls ends) (c.in_ok-lines.ensures.met calls ends)
    (λ some. subst (λ lines. IsValueOf lines c.in_ok-otherwise.otherwise) c.deref.ensures.value (c.in_ok-otherwise.ensures.found (subst (λ lines. 0 < length lines) (sym c.deref.ensures.value) some)))
    (c.in_ok-lines.ensures.numbers c.args.row.first c.args.row.last calls
    (All-weaker (IsCallOf c.args.row.first c.args.row.last) (HasNumber c.args.row.first c.args.row.last) (λ call inside. inside.1) calls within) ends)

pub returns-in-Some-clause-met : goal.returns-in-Some-clause-met
returns-in-Some-clause-met c =
    alone_met c.args.chain.now (record { row = c.args.row; lines = c.new.result; otherwise = Some c.in-Some.value }) c.in-Some.value c.requires.range c.requires.among
    c.in-Some.ensures.only c.new.ensures.items refl

pub returns-clause-exact : goal.returns-clause-exact
returns-clause-exact c = λ follows unspent call within.
    let left = not_spent _ _ _ c.put_back.ensures.spent unspent in
    let value = decided c.in_ok-decision.decision call in
    let verdict = verdict_of c.args.chain.now call in
    ap (λ values. or_else values c.in_ok-otherwise.otherwise) (c.in_ok-lines.ensures.told call) ∙ else_tells value c.in_ok-otherwise.otherwise
    ∙ ap (λ value. value ∷ []) (is_decided c.in_ok-decision.decision call verdict (c.in_ok-decision.ensures.all (c.in_ok-tree.ensures.all follows left.1))
    (c.in_ok-decision.ensures.decides call within.0 verdict (c.in_ok-tree.ensures.tells call within)))

pub returns-clause-spent : goal.returns-clause-spent
returns-clause-spent c = λ unspent. sym c.row-left.ensures.spent ∙ (not_spent _ _ _ c.put_back.ensures.spent unspent).0

pub returns-clause-one_way : goal.returns-clause-one_way
returns-clause-one_way c = λ all fresh.
    let taken = c.in_ok-tree.ensures.one_way all in
    spares _ _ _ _ _ _ _ c.row-left.ensures.row taken (omega arith) c.put_back.ensures.spent (c.row-left.ensures.spent ∙ fresh)
