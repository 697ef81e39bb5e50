-- The names of the calls of Linux on x86-64.
use Rattle.std.specs.Prelude.{ℕ, zero, suc, ◌+◌, ◌-◌, nat_lt, is_some, if◌then◌else◌, List, [], ◌∷◌, length, map, position, Option, slice_get}
use Rattle.std.specs.Option.{option_map, option_or}
use Rattle.std.specs.Str.{bytes_eq}
use Rattle.sk_names.specs.declared.x86_64.names.TheConstants.{EARLY, LATE}

-- the name of a number, if it is a call's: those below 424 and those from there on have a table each
unfoldable pub name_of : ℕ → Option (List ℕ)
name_of nr =
    if nat_lt nr 424 then slice_get (map (λ name. name.now) EARLY) nr else slice_get (map (λ name. name.now) LATE) (nr - 424)

-- no number from here on has a name
abbrev pub names_end : ℕ
names_end = 424 + length LATE

-- those with a name among so many numbers from one on
unfoldable pub named_from : ℕ → ℕ → List ℕ
named_from zero nr = []
named_from (suc count) nr = if is_some (name_of nr) then nr ∷ named_from count (nr + 1) else named_from count (nr + 1)

-- the number of the first of all names, in rising order of their numbers, that is this one
unfoldable pub number_named : List ℕ → Option ℕ
number_named wanted =
    option_or (position (λ name. bytes_eq name wanted) (map (λ name. name.now) EARLY))
    (option_map (λ place. 424 + place) (position (λ name. bytes_eq name wanted) (map (λ name. name.now) LATE)))
