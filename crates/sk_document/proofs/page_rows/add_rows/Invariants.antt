use Rattle.std.proofs.Common.{◌≡◌, ◌++◌, take, flat_map}
use Rattle.sk_document.specs.PageRows.{row_of_group}
use Rattle.sk_document.proofs.page_rows.add_rows.Given as goal

abbrev pub invariant-loop-told : goal.invariant-loop-told
invariant-loop-told l = l.to ≡ l.initial.to ++ flat_map (row_of_group l.names l.group) (take l.told-index l.rows)
