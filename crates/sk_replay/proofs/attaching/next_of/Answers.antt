use Rattle.std.proofs.Common.{arith}
use Rattle.sk_text.specs.Lines.{lines_of}
use Rattle.sk_replay.proofs.NextLines.{no_room}
use Rattle.sk_replay.proofs.attaching.next_of.Goals as goal

pub returns : goal.returns
returns c = record {
  next = no_room c.args.process c.loop-room.room (lines_of c.loop-room.lines.0.now) _ (omega (arith, c.loop-room-test.false)) c.loop-room.invariant;
}
