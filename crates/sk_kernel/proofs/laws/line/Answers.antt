use Rattle.std.proofs.Common.{◌≡◌, ◌∙◌, ◌-◌, ℕ, arith, reverse, [], ap, subst, take}
use Rattle.sk_kernel.proofs.Common.{Event, Call, Lineage, calls_added, lineage_before, with_calls, lineage_of, history_of}
use Rattle.sk_kernel.proofs.Backwards.{lineage_back}
use Rattle.sk_kernel.proofs.laws.line.Goals as goal
use lib.ListN.{get_or}

pub loop-left-preserved : goal.loop-left-preserved
loop-left-preserved c =
    let before = c.loop-left.invariant in
    let back : ℕ = c.loop-left.left - 1 in
    let answer = c.index-answers-left.result in
    let lineage : Lineage = lineage_of (history_of c.args.events.now c.args.answers.now) c.args.pid in
    let known = subst (λ n. with_calls (reverse c.loop-left.calls.items) (lineage_of (history_of (take n c.args.events.now) (take n c.args.answers.now)) c.loop-left.root) ≡ lineage)
    (omega (arith, c.loop-left-test.true)) before.lineage in
    let none : Event = Call 0 0 (record { nr = 0; args = [] }) in
    let event : Event = get_or c.args.events.now back none in
    record {
      within = omega (arith, before.within);
      lineage = (λ i. with_calls (reverse ((rw c.in_ok-add.was at c.add.ensures) i)) (lineage_of (history_of (take back c.args.events.now) (take back c.args.answers.now)) ((c.lineage_before-root.ensures ∙ ap (λ a. lineage_before c.loop-left.root (event, a)) c.index-answers-left.is) i)))
          ∙ lineage_back c.args.events.now c.args.answers.now back none answer c.loop-left.root c.loop-left.calls.items c.call_added.result lineage
          (omega (arith, before.within, c.loop-left-test.true)) (omega (arith, before.within, c.loop-left-test.true, c.requires.answered))
          (c.call_added.ensures ∙ ap (λ a. calls_added c.loop-left.root (event, a)) c.index-answers-left.is) known;
    }
