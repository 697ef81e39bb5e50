use Rattle.std.proofs.Common.{◌+◌, [], ◌∷◌, ◌++◌, ap, ◌∙◌, sym, subst, rules}
use Rattle.std.specs.List.{All}
use Rattle.std.proofs.lemmas.List.Elements.{All-push}
use Rattle.sk_when.specs.Pieces.{AreCompared, ArePartsOfOne, NamedAreAloneIn, AreDecided}
use Rattle.sk_when.proofs.Alone.{joined_alone, joined_decided}
use Rattle.sk_when.proofs.Joined.{one_more, joined}
use Rattle.sk_when.proofs.pieces.push.Goals as goal

pub returns-then-are_one : goal.returns-then-are_one
returns-then-are_one c = record {
  compared = λ relation old new from so_far holds.
      let piece = c.args.piece in
      let last = c.in-Some.last in
      let one : ArePartsOfOne last.parts.items piece.parts.items = search (rules, c.are_one.ensures.one, c.if-are_one.true) in
      subst (AreCompared relation old new from (piece.numbers.last + 1)) (sym c.in_ok-push_joined.ensures.added)
      (joined relation old new c.pop.new.self.items from last piece
      (subst (AreCompared relation old new from piece.numbers.first) c.in-Some.ensures.items so_far) c.requires.range holds one);
  alone = λ relation old new from so_far all alone.
      let unnamed = c.are_one.ensures.unnamed c.if-are_one.true in
      subst (All (NamedAreAloneIn c.args.architecture)) (sym c.in_ok-push_joined.ensures.added)
      (joined_alone c.args.architecture relation old new c.pop.new.self.items from c.in-Some.last c.args.piece
      (subst (AreCompared relation old new from c.args.piece.numbers.first) c.in-Some.ensures.items so_far) unnamed.0 unnamed.1
      (subst (All (NamedAreAloneIn c.args.architecture)) c.in-Some.ensures.items all) alone);
  decided = λ all shows.
      subst (All AreDecided) (sym c.in_ok-push_joined.ensures.added)
      (joined_decided c.pop.new.self.items c.in-Some.last c.args.piece (subst (All AreDecided) c.in-Some.ensures.items all));
}

pub returns : goal.returns
returns c = record {
  compared = λ relation old new from so_far holds.
      let piece = c.args.piece in
      subst (AreCompared relation old new from (piece.numbers.last + 1))
      (sym (c.in_ok-push_both.ensures.added ∙ ap (λ xs. xs ++ piece ∷ []) (sym c.in-Some.ensures.items)))
      (one_more relation old new c.args.pieces.now.items from piece so_far c.requires.range holds);
  alone = λ relation old new from so_far all alone.
      subst (All (NamedAreAloneIn c.args.architecture))
      (sym (c.in_ok-push_both.ensures.added ∙ ap (λ xs. xs ++ c.args.piece ∷ []) (sym c.in-Some.ensures.items)))
      (All-push (NamedAreAloneIn c.args.architecture) c.args.pieces.now.items c.args.piece all alone);
  decided = λ all shows.
      subst (All AreDecided)
      (sym (c.in_ok-push_both.ensures.added ∙ ap (λ xs. xs ++ c.args.piece ∷ []) (sym c.in-Some.ensures.items)))
      (All-push AreDecided c.args.pieces.now.items c.args.piece all shows);
}
