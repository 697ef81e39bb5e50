use Rattle.std.proofs.Common.{◌%◌, arith}
use Rattle.sk_profile.proofs.Least.{Starts, Ends, starts_after, starts_at, ends_same, ends_other, odd_least, odd_none, odd_over, even_least, even_wrong, even_none, even_over, if_some, if_none, none_always}
use Rattle.sk_profile.proofs.common.+least_masked.Goals.{then-bits-bit, else-bits-bit, then-upper-half, else-upper-half}
use Rattle.sk_profile.proofs.common.+least_masked.Goals as goal

pub returns-in_err-upper-clause-none : goal.returns-in_err-upper-clause-none
returns-in_err-upper-clause-none t c =
    let starts : Starts c.args.from (c.args.bits % 2) c.if-bits-bit.start = elim c.if-bits-bit.branch [
      | then-bits-bit w ↦ starts_after c.args.from (c.args.bits % 2) _ w.if-bits-bit.true w.start-is
      | else-bits-bit w ↦ starts_at c.args.from (c.args.bits % 2) _ (omega (arith, w.if-bits-bit.false)) (omega arith) w.start-is
    ] in
    none_always _ (odd_none c.args.index c.args.mask c.args.bits c.args.from c.if-bits-bit.start c.if-mask-eq1.true starts c.in_err-upper.ensures.none)

pub returns-in_err-upper-2-clause-none : goal.returns-in_err-upper-2-clause-none
returns-in_err-upper-2-clause-none t c = none_always _ (even_none c.args.index c.args.mask c.args.bits c.args.from c.in_err-upper-2.ensures.none)

pub returns-in_ok-upper-clause-least : goal.returns-in_ok-upper-clause-least
returns-in_ok-upper-clause-least t c =
    let starts : Starts c.args.from (c.args.bits % 2) c.if-bits-bit.start = elim c.if-bits-bit.branch [
      | then-bits-bit w ↦ starts_after c.args.from (c.args.bits % 2) _ w.if-bits-bit.true w.start-is
      | else-bits-bit w ↦ starts_at c.args.from (c.args.bits % 2) _ (omega (arith, w.if-bits-bit.false)) (omega arith) w.start-is
    ] in
    if_some _
    (λ number is. odd_least c.args.index c.args.mask c.args.bits c.args.from c.if-bits-bit.start c.in_ok-upper.upper number c.if-mask-eq1.true starts c.in_ok-upper.ensures.least is)
    c.doubled.ensures.doubled

pub returns-in_ok-upper-clause-none : goal.returns-in_ok-upper-clause-none
returns-in_ok-upper-clause-none t c =
    let starts : Starts c.args.from (c.args.bits % 2) c.if-bits-bit.start = elim c.if-bits-bit.branch [
      | then-bits-bit w ↦ starts_after c.args.from (c.args.bits % 2) _ w.if-bits-bit.true w.start-is
      | else-bits-bit w ↦ starts_at c.args.from (c.args.bits % 2) _ (omega (arith, w.if-bits-bit.false)) (omega arith) w.start-is
    ] in
    if_none _
    (λ over. odd_over c.args.index c.args.mask c.args.bits c.args.from c.if-bits-bit.start c.in_ok-upper.upper c.if-mask-eq1.true starts c.in_ok-upper.ensures.least over)
    c.doubled.ensures.none

pub returns-then-bits-eq1-clause-none : goal.returns-then-bits-eq1-clause-none
returns-then-bits-eq1-clause-none t c =
    even_wrong c.args.index c.args.mask c.args.bits c.args.from (omega (arith, c.if-mask-eq1.false)) c.if-bits-eq1.true

pub returns-after-upper-half-clause-least : goal.returns-after-upper-half-clause-least
returns-after-upper-half-clause-least t c =
    let ends : Ends c.args.from c.in_ok-upper-2.upper c.if-upper-half.doubled = elim c.if-upper-half.branch [
      | then-upper-half w ↦ ends_same c.args.from c.in_ok-upper-2.upper _ w.if-upper-half.true w.doubled-is
      | else-upper-half w ↦ ends_other c.args.from c.in_ok-upper-2.upper _ w.if-upper-half.false w.doubled-is
    ] in
    if_some _
    (λ number is. even_least c.args.index c.args.mask c.args.bits c.args.from c.in_ok-upper-2.upper c.if-upper-half.doubled number (omega (arith, c.if-mask-eq1.false)) (omega (arith, c.if-bits-eq1.false))
    c.in_ok-upper-2.ensures.least ends is)
    c.doubled-else-bits-eq1.ensures.doubled

pub returns-after-upper-half-clause-none : goal.returns-after-upper-half-clause-none
returns-after-upper-half-clause-none t c =
    let ends : Ends c.args.from c.in_ok-upper-2.upper c.if-upper-half.doubled = elim c.if-upper-half.branch [
      | then-upper-half w ↦ ends_same c.args.from c.in_ok-upper-2.upper _ w.if-upper-half.true w.doubled-is
      | else-upper-half w ↦ ends_other c.args.from c.in_ok-upper-2.upper _ w.if-upper-half.false w.doubled-is
    ] in
    if_none _
    (λ over. even_over c.args.index c.args.mask c.args.bits c.args.from c.in_ok-upper-2.upper c.if-upper-half.doubled c.in_ok-upper-2.ensures.least ends over)
    c.doubled-else-bits-eq1.ensures.none
