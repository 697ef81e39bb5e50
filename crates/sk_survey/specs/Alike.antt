-- Whether two chains answer the same to calls by their numbers.
use Rattle.std.specs.Prelude.{ℕ, ◌≡◌, bit_or, Bool, true, false, List, Option, Some, None, slice_get}
use Rattle.std.specs.List.{All}
use Rattle.std.specs.Option.{option_eq}
use Rattle.std.specs.Str.{bytes_eq}
use Rattle.sk_names.specs.declared.architecture.Architecture.{Architecture}
use Rattle.sk_names.specs.declared.architecture.Architecture.TheVariants as architecture
use Rattle.sk_names.specs.Names.{name_on, number_on}
use Rattle.sk_insn.specs.declared.insn.Insn.{Insn}
use Rattle.sk_survey.specs.Answers.{ChainAnswersAmong, AreRising}
use Rattle.sk_survey.specs.Ends.{OnlyVerdicts}

-- this is what a survey tells of one number
abbrev pub Tells : List (List Insn) → ℕ → Option (List ℕ) → Type 0
Tells programs nr values = ChainAnswersAmong programs nr nr values × AreRising values × OnlyVerdicts programs nr nr values

-- a survey tells the same of the number by the one and of that by the other, or not
abbrev pub IsAlike : List (List Insn) → List (List Insn) → ℕ → ℕ → Bool → Type 0
IsAlike programs others nr other is =
    (values more : Option (List ℕ)) × Tells programs nr values × Tells others other more × (is ≡ option_eq bytes_eq values more)

-- so it is for all of these numbers, or not for one of them
abbrev pub AreAlike : List (List Insn) → List (List Insn) → ℕ → List ℕ → Bool → Type 0
AreAlike programs others bits numbers true = All (λ nr. IsAlike programs others nr (bit_or nr bits) true) numbers
AreAlike programs others bits numbers false =
    (place : ℕ) × (nr : ℕ) × (slice_get numbers place ≡ Some nr) × IsAlike programs others nr (bit_or nr bits) false

-- the number of x86-64's call of this name, if there is one
abbrev pub native_number : Option (List ℕ) → Option ℕ
native_number (Some name) = number_on architecture.X86_64 name
native_number None = None

-- the number on x86-64 of the call that has this number on another architecture: the two have one name
abbrev pub namesake : Architecture → ℕ → Option ℕ
namesake by nr = native_number (name_on by nr)

-- a survey tells the same of a call and of its namesake, or not; without a namesake there is nothing to compare
abbrev pub IsAsNamesake : List (List Insn) → List (List Insn) → Option ℕ → ℕ → Bool → Type 0
IsAsNamesake programs others (Some nr) other is = IsAlike programs others nr other is
IsAsNamesake programs others None other is = is ≡ true

-- so it is for all calls with these numbers, or not for one of them
abbrev pub AreAsNamesakes : List (List Insn) → List (List Insn) → Architecture → List ℕ → Bool → Type 0
AreAsNamesakes programs others by numbers true = All (λ nr. IsAsNamesake programs others (namesake by nr) nr true) numbers
AreAsNamesakes programs others by numbers false =
    (place : ℕ) × (nr : ℕ) × (slice_get numbers place ≡ Some nr) × IsAsNamesake programs others (namesake by nr) nr false
