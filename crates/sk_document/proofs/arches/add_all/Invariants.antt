use Rattle.std.proofs.Common.{◌≡◌, ◌++◌, take, flat_map}
use Rattle.sk_document.specs.ArchesDocument.{answered}
use Rattle.sk_document.proofs.arches.add_all.Given as goal

abbrev pub invariant-loop-it : goal.invariant-loop-it
invariant-loop-it l = l.to ≡ l.initial.to ++ flat_map answered (take l.it-index l.all)
