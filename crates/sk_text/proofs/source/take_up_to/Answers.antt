use Rattle.std.proofs.Common.{◌≤◌, ◌+◌, length, take, arith}
use Rattle.std.proofs.lemmas.Grind.{common_steps}
use Rattle.sk_text.proofs.Taking.{ConsumesUpTo-piece}
use Rattle.sk_text.proofs.source.take_up_to.Goals as goal

-- the last piece was read, and memory for it was refused
pub returns-in_err-extend_from_slice-clause-limit :
    goal.returns-in_err-extend_from_slice-clause-limit
returns-in_err-extend_from_slice-clause-limit g c =
    let fits : length c.loop-buffer.bytes.items + length (take c.in-Ok.count c.read.new.buffer) ≤ c.args.most =
    grind (arith, common_steps, c.in-Ok.ensures.bound, c.loop-buffer.bytes.ok, c.min-wanted.ensures, c.read.auto.buffer) in
    ConsumesUpTo-piece _ _ _ _ _ _ c.loop-buffer.invariant.taken c.in-Ok.ensures.bytes.0 fits
