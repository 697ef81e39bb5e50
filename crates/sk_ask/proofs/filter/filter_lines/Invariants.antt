use Rattle.std.proofs.Common.{◌≡◌, map, take}
use Rattle.sk_ask.specs.FilterText.{filter_lines}
use Rattle.sk_ask.proofs.filter.filter_lines.Given as goal

abbrev pub invariant-loop-image : goal.invariant-loop-image
invariant-loop-image l = l.text.items ≡ filter_lines (map (λ image. image.items) (take l.image-index l.images))
