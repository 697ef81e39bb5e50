use Rattle.std.proofs.Common.{◌≡◌, ◌<◌, ◌==◌, ◌∙◌, sym, length, arith, ap, refl, ◌∷◌, rules}
use Rattle.std.proofs.lemmas.Bool.{eqb-false}
use Rattle.std.specs.List.{before_first}
use Rattle.sk_text.specs.Lines.{words_of}
use Rattle.sk_text.proofs.Cuts.{words_take}
use Rattle.sk_text.proofs.lines.WordsIterator.next.Goals as goal

-- the piece is the first word of the rest, and only spaces were passed before
taken : (c : goal.Then-not-is_empty) → words_of c.args.self.now.0.now ≡ c.cut.result.0.now ∷ words_of c.cut.result.1.now
taken c =
    let some : 0 < length c.cut.result.0.now = let no = eqb-false _ _ (sym c.if-not-is_empty.ensures) in omega (arith, no) in
    let front : 0 < length (before_first (λ b. b == 32) c.loop-word.self.0.now) = rw (← c.cut.ensures.front) some in
    sym c.loop-word.invariant ∙ words_take c.loop-word.self.0.now front ∙ sym (rw (c.cut.ensures.front, c.cut.ensures.back) refl)

pub returns-then-not-is_empty-clause-steps : goal.returns-then-not-is_empty-clause-steps
returns-then-not-is_empty-clause-steps c = taken c

pub returns-then-not-is_empty-clause-goes : goal.returns-then-not-is_empty-clause-goes
returns-then-not-is_empty-clause-goes c =
    let fewer = ap length (taken c) in search (rules, fewer)
