use Rattle.std.proofs.Common.{◌≡◌, ◌∙◌, arith, sym}
use Rattle.sk_replay.proofs.SeenShown.{all_listed, hidden_there, no_calls, passed_over, shown_there}
use Rattle.sk_replay.proofs.seen.seen_numbers.Goals as goal

pub loop-call-init : goal.loop-call-init
loop-call-init c = no_calls c.args.nr c.args.argument c.args.mask c.new-numbers.result.keys c.new-numbers.ensures.empty

pub loop-call-preserved-then-call-nr : goal.loop-call-preserved-then-call-nr
loop-call-preserved-then-call-nr c = passed_over _ _ _ _ _ _ _ c.loop-call-test.true c.if-call-nr.true c.loop-call.invariant

pub returns-in_default : goal.returns-in_default
returns-in_default c = record { seen = sym (hidden_there c.args.calls.now c.loop-call.call-index c.args.nr c.args.argument c.args.mask c.loop-call.numbers.keys _ c.loop-call-test.true c.if-call-nr.false (sym c.shown_value.ensures.value ∙ c.in_default.is)) }

pub loop-call-preserved : goal.loop-call-preserved
loop-call-preserved c =
    shown_there c.args.calls.now c.loop-call.call-index c.args.nr c.args.argument c.args.mask c.loop-call.numbers.keys _ c.loop-call-test.true c.in-Told.number c.insert.new.self.keys c.if-call-nr.false
    (sym c.shown_value.ensures.value ∙ c.in-Told.is) c.in_ok-insert.ensures.keys c.loop-call.invariant

pub returns : goal.returns
returns c = record {
  seen =
      all_listed c.args.calls.now c.loop-call.call-index c.args.nr c.args.argument c.args.mask c.loop-call.numbers.keys c.in_ok-listed.field-0.items (omega (arith, c.loop-call-test.false))
      c.in_ok-listed.ensures.listed c.loop-call.invariant;
}
