-- How a survey's numbers, names and verdicts are written.
use Rattle.std.specs.Prelude.{ℕ, ◌==◌, ◌++◌, if◌then◌else◌, List, [], ◌∷◌, codes, flat_map, Option, Some, None}
use Rattle.std.specs.Fmt.{decimal}
use Rattle.std.specs.Option.{unwrap_or}
use Rattle.sk_names.specs.declared.architecture.Architecture.{Architecture}
use Rattle.sk_names.specs.Names.{name_on}
use Rattle.sk_filter.specs.VerdictText.{verdict_text}

-- a number, or a range of them
abbrev pub numbers_text : ℕ → ℕ → List ℕ
numbers_text first last = if first == last then decimal first else decimal first ++ (codes "-" ++ decimal last)

-- the name that a single number has on an architecture
abbrev pub name_text : Architecture → ℕ → ℕ → List ℕ
name_text architecture first last =
    if first == last then unwrap_or (name_on architecture first) (codes "-") else codes "-"

-- the values in their order, with a bar between two
abbrev pub values_text : List ℕ → List ℕ
values_text [] = []
values_text (value ∷ values) = verdict_text value ++ flat_map (λ other. codes " | " ++ verdict_text other) values

abbrev pub answers_text : Option (List ℕ) → List ℕ
answers_text None = codes "any"
answers_text (Some values) = values_text values
