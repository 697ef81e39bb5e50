use Rattle.std.proofs.Common.{◌≡◌, ◌++◌, take, flat_map}
use Rattle.sk_document.specs.Terms.{choice}
use Rattle.sk_document.proofs.terms.add_choices.Given as goal

abbrev pub invariant-loop-choice : goal.invariant-loop-choice
invariant-loop-choice l = l.to ≡ l.initial.to ++ flat_map choice (take l.choice-index l.choices)
