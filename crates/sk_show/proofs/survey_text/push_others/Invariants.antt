use Rattle.std.proofs.Common.{◌≡◌, ◌++◌, take, codes, flat_map, string_bytes}
use Rattle.sk_filter.specs.VerdictText.{verdict_text}
use Rattle.sk_show.proofs.survey_text.push_others.Given as goal

abbrev pub invariant-loop-value : goal.invariant-loop-value
invariant-loop-value l = string_bytes l.text ≡ string_bytes l.initial.text ++ flat_map (λ other. codes " | " ++ verdict_text other) (take l.value-index l.values)
