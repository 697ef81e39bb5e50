use Rattle.std.proofs.Common.{◌≡◌, ◌<◌, ◌∙◌, ℕ, false, get_or, length, sym, arith}
use Rattle.std.proofs.lemmas.List.Sums.{position_or_len_is}
use Rattle.sk_ask.specs.OtherNames.{is_among}
use Rattle.sk_ask.proofs.other_names.place_of.Goals as goal

pub returns-then-is_among-clause-first : goal.returns-then-is_among-clause-first
returns-then-is_among-clause-first c =
    sym (position_or_len_is (is_among c.args.bytes.now) c.args.text.now c.loop-at.at 0 (omega arith) c.loop-at.invariant (λ _. sym c.is_among.ensures.among ∙ c.if-is_among.true))

pub returns-clause-first : goal.returns-clause-first
returns-clause-first c =
    let none : (k : ℕ) → k < length c.args.text.now → is_among c.args.bytes.now (get_or c.args.text.now k 0) ≡ false = λ k h. c.loop-at.invariant k (omega arith) in
    sym (position_or_len_is (is_among c.args.bytes.now) c.args.text.now (length c.args.text.now) 0 (omega arith) none (λ lt. absurd (omega arith)))
