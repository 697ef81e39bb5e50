use Rattle.std.proofs.Common.{List, arith, subst, ◌∙◌}
use Rattle.sk_conditions.proofs.Spending.{spares}
use Rattle.sk_insn.specs.declared.insn.Insn.{Insn}
use Rattle.sk_when.specs.Pieces.{Holds}
use Rattle.sk_when.proofs.pieces.next_piece.Goals as goal

pub returns-then-are_same-clause-holds : goal.returns-then-are_same-clause-holds
returns-then-are_same-clause-holds c =
    let chains = c.args.chains in
    let same = c.requires.same c.if-are_same.true in
    subst (λ (new : List (List Insn)). Holds chains.relation chains.old.now new c.without_parts.result) same.1
    (c.without_parts.ensures.holds chains.relation chains.old.now same.0)

pub returns-clause-one_way : goal.returns-clause-one_way
returns-clause-one_way c = λ both fresh.
    let taken = c.in_ok-piece.ensures.one_way both in
    spares _ _ _ _ _ _ _ c.row-left.ensures.row taken (omega arith) c.put_back.ensures.spent (c.row-left.ensures.spent ∙ fresh)
