use Rattle.sk_ask.specs.Asked.{question_of}
use Rattle.sk_ask.specs.Endings.{ending_of}
use Rattle.sk_ask.proofs.Expecting.{is_compared, is_refused}
use Rattle.sk_ask.proofs.expect.expect_answer.Goals as goal

pub returns-then-is_turned-clause-told : goal.returns-then-is_turned-clause-told
returns-then-is_turned-clause-told g c =
    let held = g.S.Shelf.held c.args.shelf.now in
    let may_spend = g.A.Analysis.may_spend c.args.analysis.now in
    let demands = rw (c.unmarked.ensures.text, c.deref.ensures.value) at c.in_ok-it.ensures.demands in
    is_refused held may_spend (question_of c.args.asked.now) c.in_ok-it.it _ _ _ _ c.arch_by-arch.result _
    c.first_name.ensures.names c.in_ok-text.ensures.content demands c.arch_by-arch.ensures.arch c.if-is_turned.ensures.turned
    c.in_ok-turned_line.ensures.line

pub returns-clause-told : goal.returns-clause-told
returns-clause-told g c =
    let held = g.S.Shelf.held c.args.shelf.now in
    let may_spend = g.A.Analysis.may_spend c.args.analysis.now in
    let demands = rw (c.unmarked.ensures.text, c.deref.ensures.value) at c.in_ok-it.ensures.demands in
    is_compared held may_spend (question_of c.args.asked.now) c.in_ok-it.it _ _ _ _ c.arch_by-arch.result c.context_on-context.result
    (ending_of c.answer.result) c.architecture_of.result c.naming_asked.result c.printing_asked.result c.in_ok-notes.notes.items
    c.first_name.ensures.names c.in_ok-text.ensures.content demands c.arch_by-arch.ensures.arch c.if-is_turned.ensures.turned
    c.context_on-context.ensures.context c.architecture_of.ensures.architecture c.naming_asked.ensures.naming c.printing_asked.ensures.printing c.in_ok-notes.ensures.note
    c.answer.ensures.told
