use Rattle.std.proofs.Common.{◌≡◌, ◌++◌, take, codes, flat_map, string_bytes}
use Rattle.sk_terms.specs.Text.{part_text}
use Rattle.sk_terms.proofs.text.push_other_parts.Given as goal

abbrev pub invariant-loop-part : goal.invariant-loop-part
invariant-loop-part l = string_bytes l.text ≡ string_bytes l.initial.text ++ flat_map (λ part. codes "|" ++ part_text part) (take l.part-index l.parts)
