use Rattle.std.proofs.Common.{◌≡◌, take}
use Rattle.sk_insn.specs.declared.record.Record.{Record}
use Rattle.sk_terms.specs.Lines.{meets_choices}
use Rattle.sk_terms.proofs.clause.with_other_term.Given as goal

abbrev pub invariant-loop-choice : goal.invariant-loop-choice
invariant-loop-choice l = (call : Record) → meets_choices l.copy.items call ≡ meets_choices (take l.choice-index l.choices) call
