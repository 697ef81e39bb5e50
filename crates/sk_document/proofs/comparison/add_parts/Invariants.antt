use Rattle.std.proofs.Common.{◌≡◌, ◌++◌, take, flat_map}
use Rattle.sk_document.specs.ComparisonDocument.{comparison_part}
use Rattle.sk_document.proofs.comparison.add_parts.Given as goal

abbrev pub invariant-loop-part : goal.invariant-loop-part
invariant-loop-part l = l.to ≡ l.initial.to ++ flat_map (comparison_part l.relation l.names l.numbers) (take l.part-index l.parts)
