use Rattle.std.proofs.Common.{◌∙◌, sym}
use Rattle.sk_policy_when.specs.Narrowing.{conditions_for}
use Rattle.sk_policy_when.proofs.NarrowingRows.{empty_is, narrowed_is, plain_is, some_is}
use Rattle.sk_policy_when.proofs.narrowing.allowed_row.Goals as goal

pub returns-then-is_empty : goal.returns-then-is_empty
returns-then-is_empty c = record {
  row =
      plain_is c.plain_row.result c.args.nr (conditions_for c.args.narrowed.now c.args.calls.now c.args.nr) c.in_ok-choices.choices.items c.in_ok-choices.ensures.choices
      (empty_is c.in_ok-choices.choices (sym c.is_empty.ensures ∙ c.if-is_empty.true)) c.plain_row.ensures.row;
}

pub returns : goal.returns
returns c = record {
  row =
      narrowed_is c.narrowed_row.result c.args.nr (conditions_for c.args.narrowed.now c.args.calls.now c.args.nr) c.in_ok-choices.choices.items c.in_ok-choices.ensures.choices
      (some_is c.in_ok-choices.choices (sym c.is_empty.ensures ∙ c.if-is_empty.false)) c.narrowed_row.ensures.row;
}
