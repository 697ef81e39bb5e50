-- Constants: the names that headers of Linux and of the C library have for numbers, by the argument that takes them.
use Rattle.std.specs.Prelude.{ℕ, ◌+◌, ◌^◌, ◌==◌, ◌&&◌, ◌%◌, nat_le, if◌then◌else◌, Bool, true, false, List, [], length, Option, find, position, slice_get}
use Rattle.std.specs.List.{slice_range}
use Rattle.std.specs.Option.{option_and_then, option_map_or}
use Rattle.std.specs.Str.{bytes_eq}
use Rattle.sk_arguments.specs.declared.constants.Set.{Set}
use Rattle.sk_arguments.specs.declared.forms.Form.{Form}
use Rattle.sk_arguments.specs.declared.forms.Form.TheVariants as form
use Rattle.sk_arguments.specs.declared.forms.When.{When}
use Rattle.sk_arguments.specs.declared.forms.When.TheVariants as when
use Rattle.sk_arguments.specs.declared.tables.constants.TheConstants.{NUMBERS, NAMES}
use Rattle.sk_arguments.specs.declared.tables.forms.TheConstants.{ROWS}
use Rattle.sk_arguments.specs.Reading.{names_in}

-- ---- the table

unfoldable pub all_numbers : List ℕ
all_numbers = NUMBERS.now

unfoldable pub all_names : List (List ℕ)
all_names = names_in NAMES.now

-- the numbers at some places, if all of these are there
abbrev pub part : List ℕ → ℕ → ℕ → List ℕ
part numbers first end = if nat_le first end && nat_le end (length numbers) then slice_range numbers first end else []

abbrev pub numbers_of : Set → List ℕ
numbers_of set = part all_numbers set.first set.end

-- the name of a number of a set
unfoldable pub name_in : Set → ℕ → Option (List ℕ)
name_in set wanted = option_and_then (λ place. slice_get all_names (set.first + place)) (position (λ number. number == wanted) (numbers_of set))

-- the number of the first name that is this one
unfoldable pub number_of_constant : List ℕ → Option ℕ
number_of_constant wanted = option_and_then (slice_get all_numbers) (position (λ name. bytes_eq name wanted) all_names)

-- ---- forms

-- what is known of an argument
abbrev pub number_at : List (Option ℕ) → ℕ → Option ℕ
number_at known place = option_and_then (λ number. number) (slice_get known place)

-- whether a form is there, where so much is known of all arguments; of one that decides, Linux reads the lower half
unfoldable pub holds : When → List (Option ℕ) → Bool
holds when.Always known = true
holds (when.Is place wanted) known = option_map_or (λ number. number % 2 ^ 32 == wanted) (number_at known place) false

-- a call, the place of an argument, where it has a form, and the form
abbrev pub Row : Type 0
Row = ℕ × ℕ × When × Form

-- the first row of an argument that holds
abbrev pub row_of : ℕ → ℕ → List (Option ℕ) → Option Row
row_of nr i known = find (λ row. row.0 == nr && row.1 == i && holds row.2 known) ROWS.now

unfoldable pub form_of : ℕ → ℕ → List (Option ℕ) → Form
form_of nr i known = option_map_or (λ row. row.3) (row_of nr i known) form.Plain
