use Rattle.bitflags.proofs.OnLiterals.{bitflags_on_literals}
use Rattle.sk_kernel.proofs.Options.{options_found}
use Rattle.sk_kernel.proofs.waiting.wait_options.Goals as goal

pub returns : goal.returns
unfolding bitflags_on_literals
returns c =
    let known = c.from_bits.ensures.known tt in
    options_found c.args.bits c.from_bits.result (c.from_bits.ensures.value tt) known.0 known.1
