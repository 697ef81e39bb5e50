use Rattle.std.proofs.Common.{ℕ, ◌≤◌, List, arith, subst}
use Rattle.std.specs.List.{All}
use Rattle.sk_when.proofs.Alone.{named_behind}
use Rattle.sk_when.proofs.pieces.pieces.Goals as goal

pub returns-clause-alone : goal.returns-clause-alone
returns-clause-alone c =
    let before = c.in_ok-first.ensures in
    let passed = subst (λ (all : List ℕ). All (λ beginning. beginning ≤ c.in_ok-first.first) all) c.deref.ensures.value before.passed in
    c.in_ok-push_piece.ensures.alone 0 before.compared before.alone
    (named_behind c.args.architecture c.in_ok-beginnings.beginnings.items (record { first = c.in_ok-first.first; last = 4294967295 })
    c.in_ok-beginnings.ensures.round passed (omega arith))

pub returns-clause-same : goal.returns-clause-same
returns-clause-same c = λ reflexive same.
    let is = c.hold_alike-are_same.ensures.same.1 (reflexive, same) in
    c.in_ok-push_piece.ensures.same is (c.in_ok-first.ensures.same is)

pub returns-clause-one_way : goal.returns-clause-one_way
returns-clause-one_way c = λ never never' fresh.
    let first = c.in_ok-first.first in
    c.push_piece.ensures.one_way (never first 4294967295 (omega arith) (omega arith) (omega arith), never' first 4294967295 (omega arith) (omega arith) (omega arith))
    (c.push_pieces.ensures.one_way never never' fresh)

pub returns-in_err-push_piece-clause-one_way : goal.returns-in_err-push_piece-clause-one_way
returns-in_err-push_piece-clause-one_way c = λ never never' fresh.
    let first = c.in_ok-first.first in
    c.push_piece.ensures.one_way (never first 4294967295 (omega arith) (omega arith) (omega arith), never' first 4294967295 (omega arith) (omega arith) (omega arith))
    (c.push_pieces.ensures.one_way never never' fresh)
