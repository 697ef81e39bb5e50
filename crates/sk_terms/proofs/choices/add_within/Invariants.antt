use Rattle.std.proofs.Common.{◌≡◌, ◌&&◌, ◌||◌, take}
use Rattle.sk_insn.specs.declared.record.Record.{Record}
use Rattle.sk_terms.specs.Lines.{holds_one}
use Rattle.sk_terms.specs.Terms.{holds_term}
use Rattle.sk_terms.proofs.choices.add_within.Given as goal

abbrev pub invariant-loop-other : goal.invariant-loop-other
invariant-loop-other l =
    (call : Record) → holds_one l.terms.items call ≡ (holds_one l.initial.terms.items call || (holds_term l.term call && holds_one (take l.other-index l.others) call))
