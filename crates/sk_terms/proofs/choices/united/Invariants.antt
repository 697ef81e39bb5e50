use Rattle.std.proofs.Common.{◌≡◌, ◌||◌, take}
use Rattle.sk_insn.specs.declared.record.Record.{Record}
use Rattle.sk_terms.specs.Lines.{holds_choice, holds_one}
use Rattle.sk_terms.proofs.choices.united.Given as goal

abbrev pub invariant-loop-term : goal.invariant-loop-term
invariant-loop-term l = (call : Record) → holds_choice l.both call ≡ (holds_choice l.initial.both call || holds_one (take l.term-index l.other) call)
