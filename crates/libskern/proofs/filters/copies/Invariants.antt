use Rattle.std.proofs.Common.{◌≡◌, map, take}
use Rattle.libskern.specs.Shapes.{images_of}
use Rattle.libskern.proofs.filters.copies.Given as goal

abbrev pub invariant-loop-filter : goal.invariant-loop-filter
invariant-loop-filter l = map (λ image. image.items) l.images.items ≡ images_of (take l.filter-index l.filters)
