-- A file of which at most one byte more than so many was taken, and no more than these came, was taken whole.
use Rattle.std.proofs.Common.{◌≡◌, ℕ, ◌+◌, ◌≤◌, ◌<◌, List, length, take, min, arith, ◌∙◌, ap}
use Rattle.std.proofs.lemmas.List.{length-take, take_all}
use Rattle.sk_ask.specs.Shelves.{Held, holds, lacks, fails, unknown, IsContent, MayBeTooLong}
use Rattle.sk_ask.specs.Taking.{IsTaken}

whole_of : (most : ℕ) (whole bytes : List ℕ) → bytes ≡ take (most + 1) whole → length bytes ≤ most → bytes ≡ whole
whole_of most whole bytes e short =
    let size : length bytes ≡ min (most + 1) (length whole) = ap length e ∙ length-take (most + 1) whole in
    let fits : length whole ≤ most + 1 = omega arith in
    e ∙ take_all (most + 1) whole fits

fits : (most : ℕ) (whole bytes : List ℕ) → bytes ≡ take (most + 1) whole → length bytes ≤ most → length whole ≤ most
fits most whole bytes e short =
    let size : length bytes ≡ min (most + 1) (length whole) = ap length e ∙ length-take (most + 1) whole in
    omega arith

pub is_content : (most : ℕ) (held : Held) (bytes : List ℕ) → IsTaken (most + 1) held bytes → length bytes ≤ most → IsContent most held bytes
is_content most (holds whole) bytes first short = (whole_of most whole bytes first short, fits most whole bytes first short)
is_content most unknown bytes first short = short
is_content most (lacks why) bytes first short = first
is_content most fails bytes first short = first

longer_of : (most : ℕ) (whole bytes : List ℕ) → bytes ≡ take (most + 1) whole → most < length bytes → most < length whole
longer_of most whole bytes e long =
    let size : length bytes ≡ min (most + 1) (length whole) = ap length e ∙ length-take (most + 1) whole in
    omega arith

pub is_longer : (most : ℕ) (held : Held) (bytes : List ℕ) → IsTaken (most + 1) held bytes → most < length bytes → MayBeTooLong most held
is_longer most (holds whole) bytes first long = longer_of most whole bytes first long
is_longer most unknown bytes first long = tt
is_longer most (lacks why) bytes first long = first
is_longer most fails bytes first long = first
