use Rattle.std.proofs.Common.{◌∙◌, ◌-◌, ◌^◌, ap, arith, bit_and}
use Rattle.std.proofs.lemmas.Nat.{and_le_r}
use Rattle.bitflags.proofs.OnLiterals.{bitflags_on_literals}
use Rattle.sk_world.proofs.SignalSets.{kept_bits}
use Rattle.sk_world.proofs.signal_set.SigSet.from_bits_truncate.Goals as goal

pub invariant_of-result : goal.invariant_of-result
unfolding bitflags_on_literals
invariant_of-result c = omega (arith, c.from_bits_truncate.ensures tt, and_le_r)

pub returns : goal.returns
unfolding bitflags_on_literals
returns c =
    kept_bits c.args.bits c.from_bits_truncate.result.0
    (c.from_bits_truncate.ensures tt ∙ ap (λ x. bit_and (bit_and c.args.bits x) (2 ^ 31 - 1)) c.from.ensures)
