use Rattle.std.proofs.Common.{sym, subst}
use Rattle.std.proofs.lemmas.Result.{on_ok_weaker}
use Rattle.sk_conditions.specs.declared.numbers.Numbers.{Numbers}
use Rattle.sk_when.specs.Pieces.{AreCompared, NamedAreAlone}
use Rattle.sk_when.proofs.pieces.push_piece.Goals as goal

pub returns-clause-alone : goal.returns-clause-alone
returns-clause-alone c =
    on_ok_weaker c.push.result (λ pushed from so_far all alone.
    let chains = c.args.chains in
    let same = sym c.in_ok-piece.ensures.numbers in
    pushed chains.relation chains.old.now chains.new.now from
    (subst (λ (numbers : Numbers). AreCompared chains.relation chains.old.now chains.new.now from numbers.first c.args.pieces.now.items) same so_far) all
    (subst (NamedAreAlone c.args.architecture) same alone)) c.push.ensures.alone

pub returns-clause-decided : goal.returns-clause-decided
returns-clause-decided c =
    on_ok_weaker c.push.result (λ pushed follows follows' before unspent.
    pushed (before (c.next_piece.ensures.spent unspent)) (c.in_ok-piece.ensures.decided follows follows' unspent)) c.push.ensures.decided

pub returns-clause-same : goal.returns-clause-same
returns-clause-same c =
    on_ok_weaker c.push.result (λ pushed same before. pushed before (c.in_ok-piece.ensures.same same)) c.push.ensures.decided
