use Rattle.std.proofs.Common.{List, sym, ap, subst, ◌∙◌, arith}
use Rattle.std.specs.List.{All}
use Rattle.sk_arguments.specs.Reading.{unread_places}
use Rattle.sk_insn.specs.declared.insn.Insn.{Insn}
use Rattle.sk_conditions.specs.declared.standing.Relation.TheVariants.{Same}
use Rattle.sk_conditions.specs.Followed.{AreFollowed}
use Rattle.sk_conditions.specs.Steps.{GoOneWay}
use Rattle.sk_survey.specs.Taken.{chain_taking, loaded_places}
use Rattle.sk_when.specs.Pieces.{Holds}
use Rattle.sk_when.proofs.WithoutWords.{followed_without, one_way_without}
use Rattle.sk_when.proofs.lint_pieces.number_piece.Goals as goal

pub returns-clause-number : goal.returns-clause-number
returns-clause-number c = ap (λ numbers. numbers.first) c.in_ok-piece.ensures.numbers

pub returns-clause-holds : goal.returns-clause-holds
returns-clause-holds c =
    let piece = c.in_ok-piece.piece in
    let numbers = c.in_ok-piece.ensures.numbers in
    let first = ap (λ numbers. numbers.first) numbers in
    let last = ap (λ numbers. numbers.last) numbers in
    let taking = c.requires.taking ∙ ap (λ nr. chain_taking nr c.args.chain.now) (sym first) in (
      first ∙ sym last,
      subst (λ (old : List (List Insn)). Holds Same old c.args.chain.now piece) taking c.in_ok-piece.ensures.holds,
    )

pub returns-clause-decided : goal.returns-clause-decided
returns-clause-decided c = λ all unspent.
    let places = loaded_places c.args.chain.now (unread_places c.args.nr) in
    let other = subst (All AreFollowed) (sym c.requires.taking) (followed_without places c.args.chain.now all) in
    c.in_ok-piece.ensures.decided other all unspent

pub returns-clause-one_way : goal.returns-clause-one_way
returns-clause-one_way c = λ never fresh.
    let fits = c.ranges.nr.fits in
    let all = never c.args.nr c.args.nr (omega arith) (omega arith) (omega (arith, fits)) in
    let places = loaded_places c.args.chain.now (unread_places c.args.nr) in
    let other = subst (All (GoOneWay c.args.nr c.args.nr)) (sym c.requires.taking) (one_way_without c.args.nr c.args.nr places c.args.chain.now all) in
    c.next_piece.ensures.one_way (other, all) fresh

pub returns-in_err-piece-clause-one_way : goal.returns-in_err-piece-clause-one_way
returns-in_err-piece-clause-one_way c = λ never fresh.
    let fits = c.ranges.nr.fits in
    let all = never c.args.nr c.args.nr (omega arith) (omega arith) (omega (arith, fits)) in
    let places = loaded_places c.args.chain.now (unread_places c.args.nr) in
    let other = subst (All (GoOneWay c.args.nr c.args.nr)) (sym c.requires.taking) (one_way_without c.args.nr c.args.nr places c.args.chain.now all) in
    c.next_piece.ensures.one_way (other, all) fresh
