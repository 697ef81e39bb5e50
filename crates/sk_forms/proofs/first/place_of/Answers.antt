use Rattle.std.proofs.Common.{◌≡◌, ◌<◌, ◌∙◌, ℕ, false, get_or, length, sym, arith}
use Rattle.std.proofs.lemmas.List.Sums.{position_or_len_is}
use Rattle.sk_forms.specs.declared.token.Token.TheVariants.{Decimal}
use Rattle.sk_forms.specs.Tokens.{is_sign}
use Rattle.sk_forms.proofs.first.place_of.Goals as goal

pub returns-then-is_sign-clause-first : goal.returns-then-is_sign-clause-first
returns-then-is_sign-clause-first c =
    sym (position_or_len_is (is_sign c.args.sign) c.args.tokens.now c.loop-at.at (Decimal 0) (omega arith) c.loop-at.invariant (λ _. sym c.is_sign.ensures.sign ∙ c.if-is_sign.true))

pub returns-clause-first : goal.returns-clause-first
returns-clause-first c =
    let none : (k : ℕ) → k < length c.args.tokens.now → is_sign c.args.sign (get_or c.args.tokens.now k (Decimal 0)) ≡ false = λ k h. c.loop-at.invariant k (omega arith) in
    sym (position_or_len_is (is_sign c.args.sign) c.args.tokens.now (length c.args.tokens.now) (Decimal 0) (omega arith) none (λ lt. absurd (omega arith)))
