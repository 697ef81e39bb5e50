use Rattle.std.proofs.Common.{◌+◌, List, subst, sym, take}
use Rattle.sk_when.specs.declared.row.ConditionalRow.{ConditionalRow}
use Rattle.sk_policy_when.specs.Narrowing.{AreAllowedRows, allowed_rows}
use Rattle.sk_policy_when.proofs.NarrowingRows.{row_added}
use Rattle.sk_policy_when.proofs.narrowing.allowed_rows.Goals as goal

pub loop-number-preserved : goal.loop-number-preserved
loop-number-preserved c =
    subst (λ (rows : List ConditionalRow). AreAllowedRows (allowed_rows (take (c.loop-number.number-index + 1) c.args.numbers.now) c.args.narrowed.now c.args.calls.now) rows) (sym c.in_ok-push.ensures.items)
    (row_added c.args.numbers.now c.args.narrowed.now c.args.calls.now c.loop-number.number-index _ c.loop-number.rows.items c.in_ok-allowed_row.field-0 c.loop-number-test.true c.loop-number.invariant c.in_ok-allowed_row.ensures.row)
