use Rattle.std.proofs.Common.{◌≡◌, ◌++◌, take, flat_map}
use Rattle.sk_document.specs.PageLint.{part_of_concern}
use Rattle.sk_document.proofs.page_lint.add_parts.Given as goal

abbrev pub invariant-loop-part : goal.invariant-loop-part
invariant-loop-part g l = l.to ≡ l.initial.to ++ flat_map (part_of_concern l.naming (g.R.Remarks.remark l.remarks) l.concern l.numbers) (take l.part-index l.parts)
