use Rattle.std.proofs.Common.{◌-◌, refl, arith}
use Rattle.sk_terms.specs.Terms.{register_of}
use Rattle.sk_terms.proofs.Multiples.{upper_takes}
use Rattle.sk_terms.proofs.blocks.lifted.Goals as goal

pub returns-clause-holds : goal.returns-clause-holds
returns-clause-holds c = λ call.
    let power = c.in_ok-step.ensures.bit in
    upper_takes c.args.term (register_of c.args.term.register call) c.args.mask (c.args.mask - c.args.term.mask) power.0 c.in_ok-step.step c.in_ok-first.first _ power.1
    (omega (arith, c.if-mask-term.false)) (omega (arith, c.if-term-more-ne0.false)) c.in_ok-step.ensures.lowest (omega (arith, c.if-step-more.false))
    c.in_ok-first.ensures.multiple c.in_ok-first.ensures.next.0 c.in_ok-first.ensures.next.1 refl
