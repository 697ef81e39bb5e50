use Rattle.std.proofs.Common.{◌≡◌, ◌++◌, take, flat_map}
use Rattle.sk_document.specs.PageChanges.{change_of_kind}
use Rattle.sk_document.proofs.page_changes.add_parts.Given as goal

abbrev pub invariant-loop-part : goal.invariant-loop-part
invariant-loop-part l = l.to ≡ l.initial.to ++ flat_map (change_of_kind l.names l.kind l.numbers) (take l.part-index l.parts)
