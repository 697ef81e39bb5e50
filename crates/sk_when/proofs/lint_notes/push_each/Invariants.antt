use Rattle.std.proofs.Common.{◌≡◌, ◌++◌, string_bytes, flat_map, take}
use Rattle.sk_when.specs.LintNotes.{argument_notes}
use Rattle.sk_when.proofs.lint_notes.push_each.Given as goal

abbrev pub invariant-loop-i : goal.invariant-loop-i
invariant-loop-i l = string_bytes l.text ≡ string_bytes l.initial.text ++ flat_map (argument_notes l.nr l.tree) (take l.i-index l.places)
