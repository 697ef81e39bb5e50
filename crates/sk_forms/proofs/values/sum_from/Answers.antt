use Rattle.std.proofs.Common.{◌≡◌, ◌+◌, ◌-◌, ◌∙◌, ℕ, ap, arith, suc, sym, length}
use Rattle.sk_forms.specs.Values.{sum_from}
use Rattle.sk_forms.proofs.Joining.{small_sum, sum_turn}
use Rattle.sk_forms.proofs.values.sum_from.Goals as goal

pub loop-turn-preserved : goal.loop-turn-preserved
loop-turn-preserved c =
    let left : length c.args.tokens.now - c.loop-turn._turn ≡ suc (length c.args.tokens.now - (c.loop-turn._turn + 1)) = omega arith in
    sym (ap (λ (n : ℕ). sum_from n c.loop-turn.sum c.loop-turn.rest.now) left
    ∙ sum_turn _ c.loop-turn.sum c.in_ok-sum.sum c.in_ok-more.more c.loop-turn.rest.now c.in-Some.next.now c.in_ok-more.after.now
    (sym c.in-Some.ensures.behind) (sym c.in_ok-more.ensures.operand) (small_sum _ _ c.in_ok-sum.ensures.0 c.in_ok-sum.ensures.1))
    ∙ c.loop-turn.invariant
