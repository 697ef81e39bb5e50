use Rattle.std.proofs.Common.{◌≡◌, take}
use Rattle.sk_insn.specs.declared.record.Record.{Record}
use Rattle.sk_terms.specs.Lines.{holds_one}
use Rattle.sk_terms.proofs.choices.on_bits.Given as goal

abbrev pub invariant-loop-term : goal.invariant-loop-term
invariant-loop-term l = (call : Record) → holds_one l.terms.items call ≡ holds_one (take l.term-index l.ranges) call
