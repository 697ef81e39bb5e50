use Rattle.sk_profile.proofs.Emitting.{index_inside}
use Rattle.sk_profile.proofs.pieces.push_piece.Goals as goal

pub push_joined-requires-clause-index : goal.push_joined-requires-clause-index
push_joined-requires-clause-index c = index_inside c.args.arm.now _ _ _ c.in-Some.ensures.asks c.requires.arm
