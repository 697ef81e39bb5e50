use Rattle.std.proofs.Common.{◌≡◌, ◌++◌, length, map, string_bytes}
use Rattle.sk_ask.specs.Checks.{valid_lines}
use Rattle.sk_ask.proofs.check.valid_lines.Given as goal

-- the lines so far, and those of the filters that are left, are all
abbrev pub invariant-loop-place : goal.invariant-loop-place
invariant-loop-place l =
    string_bytes l.text ++ valid_lines (map string_bytes l.names) l.places (map (λ image. image.items) l.images)
    ≡ valid_lines (map string_bytes l.names) l.found.places.items (map (λ image. image.items) l.found.images.items)

abbrev pub decreases-loop-place : goal.decreases-loop-place
decreases-loop-place l = length l.places
