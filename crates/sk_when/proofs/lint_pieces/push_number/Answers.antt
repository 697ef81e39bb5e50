use Rattle.std.proofs.Common.{◌∷◌, ◌++◌, [], if◌then◌else◌, map, ap, sym, subst, ◌∙◌}
use Rattle.std.specs.List.{All}
use Rattle.std.proofs.lemmas.Bool.{true≢false}
use Rattle.std.proofs.lemmas.List.Elements.{All-push}
use Rattle.sk_arguments.specs.Reading.{unread_places}
use Rattle.sk_when.specs.Lint.{IsLinted, number_of}
use Rattle.sk_when.proofs.Linting.{some_loaded, unasked_from}
use Rattle.sk_when.proofs.Counts.{map_push}
use Rattle.sk_when.proofs.lint_pieces.push_number.Goals as goal

pub returns-then-are_none-clause-numbers : goal.returns-then-are_none-clause-numbers
returns-then-are_none-clause-numbers c =
    let before = map number_of c.args.pieces.now.items in
    let none = sym c.in_ok-places.ensures.places ∙ sym c.deref.ensures.value ∙ c.are_none.ensures.none.0 c.if-are_none.true in
    sym (ap (λ b. if b then before ++ c.args.nr ∷ [] else before) (unasked_from c.args.chain.now (unread_places c.args.nr) none))

pub returns-clause-numbers : goal.returns-clause-numbers
returns-clause-numbers c =
    let before = map number_of c.args.pieces.now.items in
    let some = some_loaded c.args.chain.now (unread_places c.args.nr) (λ none.
    true≢false (sym (c.are_none.ensures.none.1 (c.deref.ensures.value ∙ c.in_ok-places.ensures.places ∙ none)) ∙ c.if-are_none.false)) in
    ap (map number_of) c.in_ok-push.ensures.items
    ∙ map_push number_of c.args.pieces.now.items c.in_ok-piece.piece
    ∙ ap (λ nr. before ++ nr ∷ []) c.in_ok-piece.ensures.number
    ∙ sym (ap (λ b. if b then before ++ c.args.nr ∷ [] else before) some)

pub returns-clause-holds : goal.returns-clause-holds
returns-clause-holds c = λ all.
    subst (All (IsLinted c.args.chain.now)) (sym c.in_ok-push.ensures.items)
    (All-push (IsLinted c.args.chain.now) c.args.pieces.now.items c.in_ok-piece.piece all c.in_ok-piece.ensures.holds)
