use Rattle.std.proofs.Common.{◌≡◌, ◌++◌, take, flat_map}
use Rattle.sk_document.specs.WhenDocument.{when_line}
use Rattle.sk_document.proofs.when.add_each.Given as goal

abbrev pub invariant-loop-line : goal.invariant-loop-line
invariant-loop-line l = l.to ≡ l.initial.to ++ flat_map (when_line l.constants) (take l.line-index l.lines)
