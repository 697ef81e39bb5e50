use Rattle.std.proofs.Common.{◌≡◌, ◌&&◌}
use Rattle.sk_insn.specs.declared.record.Record.{Record}
use Rattle.sk_terms.specs.Lines.{meets_choices}
use Rattle.sk_terms.proofs.forms.settled.Given as goal

abbrev pub invariant-loop-choice : goal.invariant-loop-choice
invariant-loop-choice l =
    (call : Record) → (meets_choices l.settled.items call && meets_choices l.choice-iterator.rest.items call) ≡ meets_choices l.initial.choice-iterator.rest.items call
