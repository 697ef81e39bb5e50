use Rattle.std.proofs.Common.{◌≡◌, ◌∙◌, ◌-◌, ◌+◌, ℕ, Bool, suc, arith, ap, sym}
use Rattle.sk_table.proofs.Common.{NUMBERS, first_unused}
use Rattle.sk_table.proofs.Freely.{free_here, free_later, free_last}
use Rattle.sk_table.proofs.numbering.first_free.Goals as goal

pub loop-tried-init : goal.loop-tried-init
loop-tried-init g c = ap (first_unused (g.N.Numbers.used c.args.numbers.now) NUMBERS) c.next_number-number.ensures

pub returns-then-not-is_used : goal.returns-then-not-is_used
returns-then-not-is_used g c =
    sym (free_here _ (NUMBERS - c.loop-tried._tried) c.loop-tried.number (sym c.is_used.ensures ∙ c.if-not-is_used.true))
    ∙ c.loop-tried.invariant

pub loop-tried-preserved : goal.loop-tried-preserved
loop-tried-preserved g c =
    let used : ℕ → Bool = g.N.Numbers.used c.args.numbers.now in
    let one : NUMBERS - c.loop-tried._tried ≡ suc (NUMBERS - (c.loop-tried._tried + 1)) = omega arith in
    ap (first_unused used (NUMBERS - (c.loop-tried._tried + 1))) c.next_number-number-in-loop-tried.ensures
    ∙ sym (free_later used (NUMBERS - c.loop-tried._tried) _ c.loop-tried.number one (sym c.is_used.ensures ∙ c.if-not-is_used.false))
    ∙ c.loop-tried.invariant

pub returns : goal.returns
returns g c =
    let used : ℕ → Bool = g.N.Numbers.used c.args.numbers.now in
    let none_left : NUMBERS - c.loop-tried._tried ≡ 0 = omega arith in
    sym (ap (λ (more : ℕ). first_unused used more c.loop-tried.number) none_left ∙ free_last used c.loop-tried.number)
    ∙ c.loop-tried.invariant
