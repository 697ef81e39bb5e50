use Rattle.std.proofs.Common.{◌≡◌, ◌++◌, take, flat_map}
use Rattle.sk_document.specs.PageArches.{answered_row}
use Rattle.sk_document.proofs.page_arches.add_all.Given as goal

abbrev pub invariant-loop-it : goal.invariant-loop-it
invariant-loop-it l = l.to ≡ l.initial.to ++ flat_map answered_row (take l.it-index l.all)
