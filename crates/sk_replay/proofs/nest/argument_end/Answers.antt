use Rattle.std.proofs.Common.{◌≡◌, ◌∙◌, arith, sym}
use Rattle.sk_replay.proofs.Ends.{one_more}
use Rattle.sk_replay.proofs.nest.argument_end.Goals as goal

pub loop-at-preserved : goal.loop-at-preserved
loop-at-preserved c =
    let angles = c.behind-nest.ensures.most_angles in
    let brackets = c.behind-nest.ensures.most_brackets in
    let more = c.loop-at.invariant.angles in
    let others = c.loop-at.invariant.brackets in
    record {
      so_far = rw c.behind-nest.ensures.behind (one_more c.loop-at.nest c.args.text.now c.loop-at.at _ _ (omega arith) c.loop-at-test.true (sym c.ends_argument.ensures.ends ∙ c.if-ends_argument.false) c.loop-at.invariant.so_far);
      angles = omega (arith, angles, more);
      brackets = omega (arith, brackets, others);
    }
