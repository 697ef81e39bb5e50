use Rattle.std.proofs.Common.{◌≡◌, length}
use Rattle.sk_text.proofs.Sending.{Sent}
use Rattle.sk_text.proofs.sink.send.Given as goal

abbrev pub invariant-loop-rest : goal.invariant-loop-rest
invariant-loop-rest g l = record {
  sent : Sent (g.W.Sink.contents l.fn.writer) (g.W.Sink.contents l.writer) l.text l.rest;
  count : g.W.Sink.failed l.writer ≡ g.W.Sink.failed l.fn.writer;
}

abbrev pub decreases-loop-rest : goal.decreases-loop-rest
decreases-loop-rest g l = length l.rest
