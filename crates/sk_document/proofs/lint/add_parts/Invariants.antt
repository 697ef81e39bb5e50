use Rattle.std.proofs.Common.{◌≡◌, ◌++◌, take, flat_map}
use Rattle.sk_document.specs.LintDocument.{lint_part}
use Rattle.sk_document.proofs.lint.add_parts.Given as goal

abbrev pub invariant-loop-part : goal.invariant-loop-part
invariant-loop-part g l = l.to ≡ l.initial.to ++ flat_map (lint_part l.naming (g.R.Remarks.remark l.remarks) l.numbers) (take l.part-index l.parts)
