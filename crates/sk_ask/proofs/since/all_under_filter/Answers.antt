use Rattle.std.proofs.Common.{◌≡◌, ◌∙◌, length, sym}
use Rattle.sk_ask.proofs.Judged.{all_are_judged}
use Rattle.sk_ask.proofs.since.all_under_filter.Goals.{in-Some+in_default-split_first, in_default}
use Rattle.sk_ask.proofs.since.all_under_filter.Goals as goal

pub returns-clause-judged : goal.returns-clause-judged
returns-clause-judged c =
    let none : length c.loop-name.left.now ≡ 0 = elim c.match-split_first.branch [
      | in-Some+in_default-split_first w ↦ w.in_default-split_first.ensures.cases
      | in_default w ↦ sym c.loop-name.invariant.each ∙ w.in_default.ensures.cases
    ] in
    all_are_judged _ c.args.architecture c.loop-name.left.now _ _ none c.loop-name.invariant.so_far
