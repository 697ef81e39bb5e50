use Rattle.std.proofs.Common.{◌≡◌, ◌++◌, take, codes, flat_map, string_bytes}
use Rattle.sk_terms.specs.Text.{choice_text}
use Rattle.sk_terms.proofs.text.push_other_choices.Given as goal

abbrev pub invariant-loop-choice : goal.invariant-loop-choice
invariant-loop-choice l = string_bytes l.text ≡ string_bytes l.initial.text ++ flat_map (λ choice. codes " && " ++ choice_text l.known choice.terms.items) (take l.choice-index l.choices)
