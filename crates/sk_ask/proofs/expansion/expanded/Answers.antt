use Rattle.std.proofs.Common.{◌≡◌, length, arith}
use Rattle.sk_ask.proofs.Standing.{goes_on, later, all_stand}
use Rattle.sk_ask.proofs.expansion.expanded.Goals.{in-Some+in_default-split_first, in_default}
use Rattle.sk_ask.proofs.expansion.expanded.Goals as goal

pub loop-name-preserved : goal.loop-name-preserved
loop-name-preserved c =
    let context = c.args.context.now in
    let names = c.in-Some.ensures.cases in
    let files = c.in-Some-split_first.ensures.cases in
    let stands = rw (c.as_str.ensures.value, c.deref.ensures.value) at c.in_ok-standing.ensures.stands in
    let pushed = c.in_ok-push.ensures.items in
    let told = rw c.deref-in-Some.ensures.value at c.in_ok-extend_from_slice.ensures.items in
    let so_far = c.loop-name.invariant.so_far in
    record {
      so_far = goes_on _ _ _ c.args.manner context _ _ _ _ _ _ _ _ _ _ _ _ _ _ names.0 files.0 pushed told stands so_far;
      first = λ why it. later _ _ c.args.manner context _ _ _ _ _ _ _ _ _ _ why names.0 files.0 stands c.loop-name.invariant.first it;
      even = omega arith;
      each = grind arith;
    }

pub returns-clause-stand : goal.returns-clause-stand
returns-clause-stand c =
    let ends : length c.loop-name.rest.now ≡ 0 = elim c.match-split_first.branch [
      | in-Some+in_default-split_first w ↦ omega (arith, w.in_default-split_first.ensures.cases, c.loop-name.invariant.even)
      | in_default w ↦ w.in_default.ensures.cases
    ] in
    let rest = c.loop-name.rest.now in
    let left = c.loop-name.left.now in
    all_stand _ _ c.args.manner c.args.context.now rest left _ _ _ _ ends c.loop-name.invariant.even c.loop-name.invariant.so_far
