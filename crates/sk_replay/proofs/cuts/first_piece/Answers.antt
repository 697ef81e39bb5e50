use Rattle.sk_replay.proofs.Given.{left_behind, none_left}
use Rattle.sk_replay.proofs.cuts.first_piece.Goals as goal

pub returns-in-Some : goal.returns-in-Some
returns-in-Some c = record { piece = left_behind c.args.byte c.args.text.now _ _ c.in-Some.ensures.parts }

pub returns-in-None : goal.returns-in-None
returns-in-None c = record { piece = none_left c.args.byte c.args.text.now c.in-None.ensures.parts }
