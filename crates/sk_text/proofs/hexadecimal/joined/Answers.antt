use Rattle.sk_text.proofs.Cuts.{joined_turn}
use Rattle.sk_text.proofs.hexadecimal.joined.Goals as goal

pub loop-rest-preserved : goal.loop-rest-preserved
loop-rest-preserved c =
    joined_turn _ _ c.cut.result.0.now c.loop-rest.rest.now c.cut.result.1.now _ c.loop-rest.invariant c.in_ok-extend_from_slice.ensures.items c.cut.ensures.front c.cut.ensures.back
