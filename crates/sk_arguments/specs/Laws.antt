-- What holds of the table of constants.
use Rattle.std.specs.Prelude.{◌≡◌, ℕ, ◌==◌, ◌&&◌, ◌||◌, nat_le, not, Bool, true, false, List, [], ◌∷◌, length, Option, Some, None, slice_get, IsTrue}
use Rattle.std.specs.Int.Bits.{bit_and}
use Rattle.std.specs.Int.Count.{ones_in}
use Rattle.std.specs.List.{list_all, list_any}
use Rattle.sk_arguments.specs.declared.forms.Field.{Field}
use Rattle.sk_arguments.specs.declared.forms.Form.{Form}
use Rattle.sk_arguments.specs.declared.forms.Form.TheVariants as form
use Rattle.sk_arguments.specs.declared.constants.Set.{Set}
use Rattle.sk_arguments.specs.declared.tables.forms.TheConstants.{ROWS}
use Rattle.sk_arguments.specs.Constants.{all_names, all_numbers, number_of_constant, numbers_of}

-- a constant at any place is read as the number there
abbrev pub ReadsBack : Type 0
ReadsBack =
    (place number : ℕ) (name : List ℕ) → slice_get all_numbers place ≡ Some number → slice_get all_names place ≡ Some name
    → number_of_constant name ≡ Some number

-- ---- names are identifiers of C

-- a letter or an underscore, or a digit
abbrev pub is_letter : ℕ → Bool
is_letter byte = (nat_le 65 byte && nat_le byte 90) || (nat_le 97 byte && nat_le byte 122) || byte == 95

abbrev pub is_word : ℕ → Bool
is_word byte = is_letter byte || (nat_le 48 byte && nat_le byte 57)

abbrev pub is_identifier : List ℕ → Bool
is_identifier [] = false
is_identifier (byte ∷ bytes) = is_letter byte && list_all is_word bytes

-- ---- sets

-- no number stands there twice
abbrev pub is_distinct : List ℕ → Bool
is_distinct [] = true
is_distinct (number ∷ numbers) = not (list_any (λ other. other == number) numbers) && is_distinct numbers

abbrev pub is_set : Set → Bool
is_set set = not (length (numbers_of set) == 0) && is_distinct (numbers_of set)

-- those with more bits stand first, so that a number is taken for as few of them as can be
abbrev pub is_falling : List ℕ → Bool
is_falling [] = true
is_falling (number ∷ []) = true
is_falling (number ∷ other ∷ numbers) = nat_le (ones_in 64 other) (ones_in 64 number) && is_falling (other ∷ numbers)

-- bits are apart from the field, and its numbers within it
abbrev pub is_field : Set → Option Field → Bool
is_field set None = true
is_field set (Some field) =
    is_set field.values
    && list_all (λ number. bit_and number field.mask == 0) (numbers_of set)
    && list_all (λ number. bit_and number field.mask == number) (numbers_of field.values)

abbrev pub is_form : Form → Bool
is_form form.Plain = true
is_form (form.One set) = is_set set
is_form (form.Bits set field) = is_set set && is_falling (numbers_of set) && is_field set field

abbrev pub FormsAreSound : Type 0
FormsAreSound = IsTrue (list_all (λ row. is_form row.3) ROWS.now)
