use Rattle.std.proofs.Common.{[], None, ap, sym, ◌∙◌}
use Rattle.std.proofs.lemmas.Iterator.Adapters.{YieldsList-from_vec}
use Rattle.std.proofs.lemmas.Iterator.Consumers.{YieldsList-end}
use Rattle.std.proofs.lemmas.List.{append-nil, map-id}
use Rattle.sk_policy_text.specs.Expecting.{closed}
use Rattle.sk_policy_text.proofs.expecting.closed.Goals as goal

-- the loop has seen all sentences
pub returns : goal.returns
returns c =
    let gives = c.into_iter-stated-iterator.ensures.into_iter_gives in
    let all = YieldsList-from_vec c.args.text.items gives.0 (gives.1 ∙ c.args.text.ok.0) in
    let seen = YieldsList-end all c.loop-stated.yielded c.loop-stated.stated-iterator c.loop-stated.yielded_by
    c.next.result c.next.new.self c.in-None.is c.next.ensures.steps in
    record {
      closed = c.in_ok-push_else.ensures.added ∙ sym (c.loop-stated.invariant [])
          ∙ ap (closed None) (append-nil c.loop-stated.yielded ∙ sym (map-id c.loop-stated.yielded) ∙ seen.0);
    }
