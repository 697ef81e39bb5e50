use Rattle.std.proofs.Common.{◌<◌, ◌≤◌, ◌+◌, ◌*◌, ◌∙◌, ℕ, ap, subst, sym, arith}
use Rattle.std.proofs.lemmas.List.{drop_all}
use Rattle.std.specs.Char.{digit_value}
use Rattle.sk_text.proofs.Reading.{turn_large, up_to-within}
use Rattle.sk_replay.proofs.digits.digits_up_to.Goals as goal

-- the digit is one, and takes the value above `most`
pub returns-in_err-value-clause-value : goal.returns-in_err-value-clause-value
returns-in_err-value-clause-value c =
    let small = subst (λ (x : ℕ). digit_value x < c.args.radix) c.from.ensures c.in_ok-digit.ensures.value.0 in
    let value = c.in_ok-digit.ensures.value.1 ∙ ap digit_value c.from.ensures in
    let above : c.args.most < c.loop-byte.value * c.args.radix + c.in_ok-digit.digit = let no = c.in_err-value.ensures.next in omega (arith, no) in
    let large = subst (λ (d : ℕ). c.args.most < c.loop-byte.value * c.args.radix + d) value above in
    let one : 1 ≤ c.args.radix = omega arith in
    c.from_residual-in_err-value.ensures ∙ sym (turn_large _ _ _ _ _ _ c.loop-byte-test.true one small large c.loop-byte.invariant.so_far)

-- no digit is left
pub returns-clause-value : goal.returns-clause-value
returns-clause-value c =
    let none = drop_all c.loop-byte.byte-index c.args.digits.now c.loop-byte-test.false in
    sym (up_to-within _ _ c.loop-byte.invariant.within) ∙ (rw none at c.loop-byte.invariant.so_far)
