use Rattle.std.proofs.Common.{◌≡◌, ◌++◌, take, flat_map, map}
use Rattle.sk_document.specs.PageParts.{column}
use Rattle.sk_document.proofs.page_parts.add_columns.Given as goal

abbrev pub invariant-loop-heading : goal.invariant-loop-heading
invariant-loop-heading l = l.to ≡ l.initial.to ++ flat_map column (map (λ name. name.now) (take l.heading-index l.columns))
