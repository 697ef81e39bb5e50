use Rattle.std.proofs.Common.{◌≡◌, ◌&&◌, take}
use Rattle.sk_insn.specs.declared.record.Record.{Record}
use Rattle.sk_terms.specs.Lines.{meets_choices}
use Rattle.sk_terms.proofs.Kept.{holds_none}
use Rattle.sk_terms.proofs.forms.add_others.Given as goal

abbrev pub invariant-loop-term : goal.invariant-loop-term
invariant-loop-term l =
    (call : Record) → meets_choices l.choices.items call ≡ (meets_choices l.initial.choices.items call && holds_none (take l.term-index l.terms) call)
