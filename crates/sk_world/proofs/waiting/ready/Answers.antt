use Rattle.std.proofs.Common.{◌∙◌, ◌<◌, sym}
use Rattle.std.proofs.lemmas.Bool.{false≢true}
use Rattle.sk_world.proofs.Polling.{told_of, goes_on, nobody, unmatched_by, unready_by, unready_up_to}
use Rattle.sk_world.proofs.waiting.ready.Goals as goal

pub loop-child-preserved-in_default-status_of : goal.loop-child-preserved-in_default-status_of
loop-child-preserved-in_default-status_of g c =
    let w = g.S.ProcStore.contents c.args.store.now in
    record {
      unready = unready_up_to w c.args.caller c.args.request.now c.loop-child.after c.in-Some.child c.loop-child.invariant.unready c.in-Some.ensures.next.2 (sym c.status_of.ensures ∙ c.in_default-status_of.is);
      matched = λ _. (c.in-Some.child, sym c.is_match.ensures ∙ c.if-is_match.true);
      unmatched = λ h. absurd (false≢true (sym h));
    }

pub returns-in-Some-status_of : goal.returns-in-Some-status_of
returns-in-Some-status_of g c =
    let w = g.S.ProcStore.contents c.args.store.now in
    let next = c.in-Some.ensures.next in
    record {
      answer = told_of w c.args.caller c.args.request.now c.in-Some.child c.in-Some-status_of.status (sym c.in-Some-status_of.ensures) (sym c.is_match.ensures ∙ c.if-is_match.true)
          (unready_by w c.args.caller c.args.request.now c.loop-child.after (λ q. q < c.in-Some.child) c.loop-child.invariant.unready next.2);
    }

pub returns-then-is_matched : goal.returns-then-is_matched
returns-then-is_matched g c =
    let w = g.S.ProcStore.contents c.args.store.now in
    record {
      answer = goes_on w c.args.caller c.args.request.now
          (λ q. unready_by w c.args.caller c.args.request.now c.loop-child.after (λ q. Unit {0}) c.loop-child.invariant.unready (λ q lt h. c.in_default.ensures.next q lt) q tt)
          (c.loop-child.invariant.matched c.if-is_matched.true);
    }

pub returns-else-is_matched : goal.returns-else-is_matched
returns-else-is_matched g c =
    let w = g.S.ProcStore.contents c.args.store.now in
    record { answer = nobody w c.args.caller c.args.request.now (unmatched_by w c.args.caller c.args.request.now c.loop-child.after (c.loop-child.invariant.unmatched c.if-is_matched.false) c.in_default.ensures.next) }
