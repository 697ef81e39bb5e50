use Rattle.std.proofs.Common.{◌≡◌, ◌⊎◌, length, inl, inr}
use Rattle.sk_ask.specs.Said.{said_of}
use Rattle.sk_ask.proofs.Said.{all_are_said}
use Rattle.sk_ask.proofs.remark.entries_of.Goals.{in-Some+in_default-split_first, in_default}
use Rattle.sk_ask.proofs.remark.entries_of.Goals as goal

pub returns : goal.returns
returns c =
    let ends : (length c.loop-name.rest.now ≡ 0) ⊎ (length c.loop-name.left.now ≡ 0) = elim c.match-split_first.branch [
      | in-Some+in_default-split_first w ↦ inr w.in_default-split_first.ensures.cases
      | in_default w ↦ inl w.in_default.ensures.cases
    ] in
    record { said = all_are_said _ _ said_of c.args.context.now c.loop-name.rest.now c.loop-name.left.now c.loop-name.said.items _ ends c.loop-name.invariant }
