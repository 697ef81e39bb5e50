use Rattle.std.proofs.Common.{◌≡◌, take}
use Rattle.sk_insn.specs.declared.record.Record.{Record}
use Rattle.sk_terms.specs.Lines.{holds_choice}
use Rattle.sk_terms.proofs.Kept.{holds_none}
use Rattle.sk_terms.proofs.forms.left_out.Given as goal

abbrev pub invariant-loop-term : goal.invariant-loop-term
invariant-loop-term l = (call : Record) → holds_choice l.left call ≡ holds_none (take l.term-index l.terms) call
