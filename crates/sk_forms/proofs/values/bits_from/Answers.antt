use Rattle.std.proofs.Common.{◌≡◌, ◌+◌, ◌-◌, ◌∙◌, ℕ, ap, arith, suc, sym, length}
use Rattle.sk_forms.specs.Values.{bits_from}
use Rattle.sk_forms.proofs.Joining.{bits_turn}
use Rattle.sk_forms.proofs.values.bits_from.Goals as goal

pub loop-turn-preserved : goal.loop-turn-preserved
loop-turn-preserved c =
    let left : length c.args.tokens.now - c.loop-turn._turn ≡ suc (length c.args.tokens.now - (c.loop-turn._turn + 1)) = omega arith in
    sym (ap (λ (n : ℕ). bits_from n c.loop-turn.bits c.loop-turn.rest.now) left
    ∙ bits_turn _ c.loop-turn.bits c.in_ok-more.more c.loop-turn.rest.now c.in-Some.next.now c.in_ok-more.after.now
    (sym c.in-Some.ensures.behind) (sym c.in_ok-more.ensures.sum))
    ∙ c.loop-turn.invariant
