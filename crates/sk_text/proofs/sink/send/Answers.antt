use Rattle.std.proofs.Common.{◌∙◌}
use Rattle.sk_text.proofs.Sending.{Sent-more}
use Rattle.sk_text.proofs.sink.send.Goals as goal

pub loop-rest-preserved : goal.loop-rest-preserved
loop-rest-preserved g c =
    let more = Sent-more _ _ _ _ _ c.in-Ok.count c.loop-rest.invariant.sent c.in-Ok.ensures.bytes in
    record {
      sent = rw c.split_at.ensures.back more;
      count = c.in-Ok.ensures.counted ∙ c.loop-rest.invariant.count;
    }
