use Rattle.std.proofs.Common.{◌≡◌, ◌==◌, ◌<◌, ℕ, false, get_or, length, sym, arith}
use Rattle.std.proofs.lemmas.List.Sums.{position_or_len_is}
use Rattle.std.proofs.lemmas.Bool.{eq-eqb}
use Rattle.sk_text.proofs.lines.place_of.Goals as goal

pub returns-then-b-byte-clause-first : goal.returns-then-b-byte-clause-first
returns-then-b-byte-clause-first c =
    sym (position_or_len_is (λ b. b == c.args.byte) c.args.text.now c.loop-at.at 0 (omega arith) c.loop-at.invariant (λ _. eq-eqb _ _ c.if-b-byte.true))

pub returns-clause-first : goal.returns-clause-first
returns-clause-first c =
    let none : (k : ℕ) → k < length c.args.text.now → (get_or c.args.text.now k 0 == c.args.byte) ≡ false = λ k h. c.loop-at.invariant k (omega arith) in
    sym (position_or_len_is (λ b. b == c.args.byte) c.args.text.now (length c.args.text.now) 0 (omega arith) none (λ lt. absurd (omega arith)))
