use Rattle.std.proofs.Common.{◌≡◌, IfOk, List, map, ◌∙◌, ap, subst}
use Rattle.sk_text.specs.Lines.{lines_of}
use Rattle.sk_replay.specs.declared.call.Call.{Call}
use Rattle.sk_replay.specs.Replaying.{calls_of}
use Rattle.sk_replay.proofs.SeenShown.{tallied_once}
use Rattle.sk_replay.proofs.seen.calls_of.Goals as goal

pub returns : goal.returns
returns c = record {
  calls =
      subst (λ (l : List Call). IfOk c.called.result (λ calls. calls.items ≡ l))
      (ap (map (λ entry. entry.0)) c.in_ok-tally.ensures.calls ∙ tallied_once (calls_of c.args.architecture (lines_of c.args.log.now)))
      c.called.ensures.calls;
}
