-- Labels and the places that they mark.
use Rattle.std.specs.Prelude.{ℕ, List, Option}
use Rattle.std.specs.Map.{lookup}
use Rattle.std.specs.Str.{bytes_eq}

-- each label with its place, in the order of the text
abbrev pub Labels : Type 0
Labels = List (List ℕ × ℕ)

-- the place of a label, if it is given
abbrev pub label_place : Labels → List ℕ → Option ℕ
label_place labels name = lookup (bytes_eq name) labels
