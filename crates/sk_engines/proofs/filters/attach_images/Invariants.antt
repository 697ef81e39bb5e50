use Rattle.std.proofs.Common.{◌≡◌, [], map, drop}
use Rattle.sk_engines.specs.Filters.{chained}
use Rattle.sk_engines.proofs.filters.attach_images.Given as goal

abbrev pub invariant-loop-number : goal.invariant-loop-number
invariant-loop-number l =
    chained l.number l.filters (drop l.number (map (λ image. image.items) l.images)) ≡ chained 0 [] (map (λ image. image.items) l.images)
