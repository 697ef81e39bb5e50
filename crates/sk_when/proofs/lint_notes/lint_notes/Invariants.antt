use Rattle.std.proofs.Common.{◌≡◌, ◌^◌, false, string_bytes, take}
use Rattle.sk_conditions.specs.Steps.{NeverPart}
use Rattle.sk_when.specs.LintNotes.{AreNotes}
use Rattle.sk_when.proofs.lint_notes.lint_notes.Given as goal

-- the notes that are there are those of the numbers before this one
abbrev pub invariant-loop-nr : goal.invariant-loop-nr
invariant-loop-nr l = record {
  notes : AreNotes l.chain l.budgets.is_spent (take l.nr-index l.numbers) (string_bytes l.text);
  spent : l.budgets.is_spent ≡ false → l.initial.budgets.is_spent ≡ false;
  one_way : NeverPart 0 (2 ^ 32) l.chain → l.initial.budgets.is_spent ≡ false → l.budgets.is_spent ≡ false;
}
