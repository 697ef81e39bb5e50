use Rattle.std.proofs.Common.{◌≡◌, ◌++◌, take, codes, flat_map, string_bytes}
use Rattle.sk_terms.specs.Text.{other_text}
use Rattle.sk_terms.proofs.text.push_other_terms.Given as goal

abbrev pub invariant-loop-term : goal.invariant-loop-term
invariant-loop-term l = string_bytes l.text ≡ string_bytes l.initial.text ++ flat_map (λ term. codes " || " ++ other_text l.known term) (take l.term-index l.terms)
