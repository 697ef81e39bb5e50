use Rattle.std.proofs.Common.{◌≡◌, ◌++◌, string_bytes, flat_map, take}
use Rattle.sk_when.specs.LintText.{concern_text}
use Rattle.sk_when.proofs.lint_lines.push_parts.Given as goal

abbrev pub invariant-loop-part : goal.invariant-loop-part
invariant-loop-part g l =
    string_bytes l.text ≡ string_bytes l.initial.text ++ flat_map (concern_text l.naming (g.R.Remarks.remark l.remarks) l.concern l.numbers) (take l.part-index l.parts)
