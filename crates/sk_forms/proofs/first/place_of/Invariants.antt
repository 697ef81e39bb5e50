use Rattle.std.proofs.Common.{◌≡◌, ◌<◌, ℕ, false, get_or}
use Rattle.sk_forms.specs.declared.token.Token.TheVariants.{Decimal}
use Rattle.sk_forms.specs.Tokens.{is_sign}
use Rattle.sk_forms.proofs.first.place_of.Given as goal

-- no such sign stands before
abbrev pub invariant-loop-at : goal.invariant-loop-at
invariant-loop-at l = (k : ℕ) → k < l.at → is_sign l.sign (get_or l.tokens k (Decimal 0)) ≡ false
