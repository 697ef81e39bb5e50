use Rattle.std.proofs.Common.{◌≡◌, drop}
use Rattle.sk_terms.specs.Known.{fixed_by}
use Rattle.sk_terms.proofs.known.fixed_by.Given as goal

abbrev pub invariant-loop-choice : goal.invariant-loop-choice
invariant-loop-choice l = fixed_by (drop l.choice-index l.choices) l.i ≡ fixed_by l.choices l.i
