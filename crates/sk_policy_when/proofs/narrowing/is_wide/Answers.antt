use Rattle.std.proofs.Common.{◌∙◌, sym}
use Rattle.sk_policy_when.specs.Narrowing.{conditions_on, unshown_arguments}
use Rattle.sk_policy_when.proofs.NarrowingRows.{narrow_is, wide_is}
use Rattle.sk_policy_when.proofs.narrowing.is_wide.Goals as goal

pub returns-then-is_empty : goal.returns-then-is_empty
returns-then-is_empty c = record {
  wide =
      wide_is (conditions_on c.args.calls.now c.args.nr) c.in_ok-choices.choices (unshown_arguments c.args.calls.now c.args.nr) c.in_ok-choices.ensures.choices c.has_unshown.result
      (sym c.is_empty.ensures ∙ c.if-is_empty.true) c.has_unshown.ensures.has;
}

pub returns : goal.returns
returns c = record {
  wide =
      narrow_is (conditions_on c.args.calls.now c.args.nr) c.in_ok-choices.choices (unshown_arguments c.args.calls.now c.args.nr) c.in_ok-choices.ensures.choices
      (sym c.is_empty.ensures ∙ c.if-is_empty.false);
}
