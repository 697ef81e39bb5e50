use Rattle.std.proofs.Common.{◌≡◌, ◌++◌, codes, flat_map}
use Rattle.sk_text.specs.Lines.{lines_of}
use Rattle.sk_ask.specs.Complaints.{of_word}
use Rattle.sk_ask.specs.Lints.{note_text}
use Rattle.sk_ask.proofs.lint.note_text.Given as goal

-- the lines that are there, and those of the notes that are left, are those of all notes
abbrev pub invariant-loop-line : goal.invariant-loop-line
invariant-loop-line l = l.text.items ++ flat_map (of_word (codes "lint: ")) (lines_of l.line-iterator.0.now) ≡ note_text l.notes
