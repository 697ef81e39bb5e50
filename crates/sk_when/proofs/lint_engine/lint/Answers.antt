use Rattle.std.proofs.Common.{List, ℕ, string_bytes, ap, sym, subst, ◌∙◌}
use Rattle.std.specs.List.{Contains, filter}
use Rattle.sk_arguments.specs.Reading.{narrow_numbers}
use Rattle.sk_when.specs.Lint.{is_asked, lint_finding}
use Rattle.sk_when.specs.LintNotes.{AreNotes}
use Rattle.sk_when.proofs.Linting.{asked_is_narrow, contains_filtered}
use Rattle.sk_when.proofs.lint_engine.lint.Goals as goal

pub returns-clause-linted : goal.returns-clause-linted
returns-clause-linted c =
    let programs = c.args.chain.now in
    let pieces = c.in_ok-pieces.pieces.items in
    let table = c.in_ok-numbers.ensures.all in
    let numbers = c.in_ok-pieces.ensures.numbers ∙ ap (filter (is_asked programs)) (c.deref.ensures.value ∙ table) in
    record {
      linted = record {
        numbers = numbers;
        each = λ nr asked.
            let has = subst (λ (its : List ℕ). Contains its nr) table ((c.in_ok-numbers.ensures.each nr).1 (asked_is_narrow programs nr asked)) in
            subst (λ (its : List ℕ). Contains its nr) (sym numbers) (contains_filtered (is_asked programs) narrow_numbers nr has asked);
        holds = c.in_ok-pieces.ensures.holds;
      };
      decided = λ all none. c.in_ok-pieces.ensures.decided all (c.lint_notes.ensures.spent none);
      stands = c.lint_finding-finding.ensures.finding ∙ ap lint_finding c.deref-2.ensures.value;
      noted = subst (λ (its : List ℕ). AreNotes programs c.lint_notes.new.budgets.is_spent its (string_bytes c.in_ok-notes.notes)) (c.deref-3.ensures.value ∙ table) c.in_ok-notes.ensures.notes;
    }
