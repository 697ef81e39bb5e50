use Rattle.std.proofs.Common.{◌≡◌, ◌++◌, take, flat_map}
use Rattle.sk_document.specs.Terms.{term}
use Rattle.sk_document.proofs.terms.add_terms.Given as goal

abbrev pub invariant-loop-term : goal.invariant-loop-term
invariant-loop-term l = l.to ≡ l.initial.to ++ flat_map term (take l.term-index l.terms)
