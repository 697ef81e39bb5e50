use Rattle.std.proofs.Common.{◌∙◌, ◌+◌, arith, ap, sym, subst, Some, take}
use Rattle.sk_table.proofs.Common.{IsNext, is_sought_pid}
use Rattle.sk_table.proofs.Seeking.{row_taken, row_passed}
use Rattle.sk_table.proofs.scan.least_after.Goals.{then-row-after+then-accepts, else-row-after, else-row-after-via-then-row-after+else-accepts, else-row-after-via-else-row-after}
use Rattle.sk_table.proofs.scan.least_after.Goals as goal

pub loop-row-preserved : goal.loop-row-preserved
loop-row-preserved c =
    let rows = c.args.rows.now in
    let after = c.args.after in
    let i = c.loop-row.row-index in
    let row = c.row-item.result in
    let next = IsNext (is_sought_pid c.args.sought (take (i + 1) rows)) after in
    let taken = row_taken c.args.sought rows after i row c.requires c.loop-row-test.true c.row-item.is in
    let passed = row_passed c.args.sought rows after i row c.requires c.loop-row-test.true c.row-item.is in
    elim c.if-row-after.branch [
      | then-row-after+then-accepts w ↦ subst next (sym (w.least-is ∙ ap Some w.lesser.ensures)) (taken w.if-row-after.true (sym w.accepts.ensures ∙ w.if-accepts.true) c.loop-row.least c.loop-row.invariant)
      | else-row-after w ↦ elim w.else-row-after.branch [
        | else-row-after-via-then-row-after+else-accepts w' ↦ subst next (sym w.least-is) (passed (λ l. sym w'.accepts.ensures ∙ w'.if-accepts.false) c.loop-row.least c.loop-row.invariant)
        | else-row-after-via-else-row-after w' ↦ subst next (sym w.least-is) (passed (λ l. absurd (omega arith)) c.loop-row.least c.loop-row.invariant)
      ]
    ]
