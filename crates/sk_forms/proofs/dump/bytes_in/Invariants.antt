use Rattle.std.proofs.Common.{◌≡◌, []}
use Rattle.sk_text.specs.Lines.{lines_of}
use Rattle.sk_forms.specs.Dumps.{bytes_behind}
use Rattle.sk_forms.proofs.dump.bytes_in.Given as goal

-- the bytes so far, and those of the lines that are left, are all
abbrev pub invariant-loop-line : goal.invariant-loop-line
invariant-loop-line l = bytes_behind l.bytes.items (lines_of l.line-iterator.0.now) ≡ bytes_behind [] (lines_of l.text)
