-- Capabilities by their names: capabilities(7).
use Rattle.std.specs.Prelude.{ℕ, ◌||◌, Bool, if◌then◌else◌, List, take, drop, map, codes, position, Option, Some}
use Rattle.std.specs.Borrow.{Bor}
use Rattle.std.specs.Char.{to_ascii_lowercase}
use Rattle.std.specs.Option.{option_map}
use Rattle.std.specs.Str.{bytes_eq}
use Rattle.sk_profile_json.specs.declared.capabilities.TheConstants.{ALL, DOCKER}

abbrev pub names_of : List (Bor (List ℕ)) → List (List ℕ)
names_of names = map (λ name. name.now) names

abbrev pub all_names : List (List ℕ)
all_names = map (λ name. name.now) ALL

abbrev pub docker_names : List (List ℕ)
docker_names = map (λ name. name.now) DOCKER

-- the same letters, in either case
abbrev pub is_same : List ℕ → List ℕ → Bool
is_same one other = bytes_eq (map to_ascii_lowercase one) (map to_ascii_lowercase other)

-- a name with or without its `CAP_`
abbrev pub is_named : List ℕ → List ℕ → Bool
is_named word name = is_same word name || is_same word (drop 4 name)

-- the one with this name
abbrev pub one_of : Option ℕ → Option (List (List ℕ))
one_of place = option_map (λ place. take 1 (drop place all_names)) place

-- what a word stands for: docker's, all of Linux's, or one
unfoldable pub capability : List ℕ → Option (List (List ℕ))
capability word =
    if bytes_eq word (codes "docker") then Some docker_names
    else if bytes_eq word (codes "all") then Some all_names
    else one_of (position (is_named word) all_names)
