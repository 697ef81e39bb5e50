use Rattle.std.proofs.Common.{◌≡◌, vec_len}
use Rattle.sk_text.specs.Lines.{lines_of}
use Rattle.sk_forms.specs.Tables.{table_rows}
use Rattle.sk_forms.proofs.Tabling.{before}
use Rattle.sk_forms.proofs.table.table_rows.Given as goal

-- the rows so far, and those of the lines that are left, are all
abbrev pub invariant-loop-line : goal.invariant-loop-line
invariant-loop-line l = before l.insns.items (table_rows (vec_len l.insns) (lines_of l.line-iterator.0.now)) ≡ table_rows 0 (lines_of l.text)
