use Rattle.std.proofs.Common.{◌≡◌, ◌++◌, string_bytes, flat_map, take}
use Rattle.sk_when.specs.DiffText.{kind_text}
use Rattle.sk_when.proofs.diff_text.push_parts.Given as goal

abbrev pub invariant-loop-part : goal.invariant-loop-part
invariant-loop-part l = string_bytes l.text ≡ string_bytes l.initial.text ++ flat_map (kind_text l.relation l.names l.kind l.numbers) (take l.part-index l.parts)
