-- Names in runs: those that follow each other in a text and begin with the same two letters.
use Rattle.std.specs.Prelude.{ℕ, ◌+◌, ◌^◌, ◌==◌, ◌&&◌, nat_lt, nat_le, Bool, true, List, [], ◌∷◌, flat_map, get_or, length}
use Rattle.std.specs.List.{list_all, slice_range}
use Rattle.sk_arguments.specs.Reading.{names_in}

-- the place of the first name, and from which byte of the text to which they stand
abbrev pub Run : Type 0
Run = ℕ × ℕ × ℕ

abbrev pub names_of : List ℕ → Run → List (List ℕ)
names_of text (first, start, end) = names_in (slice_range text start end)

-- the names of all runs in their order
unfoldable pub names_of_all : List ℕ → List Run → List (List ℕ)
names_of_all text runs = flat_map (names_of text) runs

abbrev pub begins_alike : List ℕ → List ℕ → Bool
begins_alike name other =
    nat_lt 1 (length name) && nat_lt 1 (length other) && get_or name 0 0 == get_or other 0 0 && get_or name 1 0 == get_or other 1 0

-- the names of each run begin as its text does, and their places are those behind the runs before it
unfoldable pub follow : List ℕ → ℕ → List Run → Bool
follow text place [] = true
follow text place ((first, start, end) ∷ runs) =
    nat_le start end && nat_le end (length text)
    && first == place
    && nat_le (place + length (names_of text (first, start, end))) (2 ^ 32)
    && list_all (begins_alike (slice_range text start end)) (names_of text (first, start, end))
    && follow text (place + length (names_of text (first, start, end))) runs
