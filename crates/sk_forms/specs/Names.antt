-- Names in filters written for C: macros of linux/filter.h, fields of `struct seccomp_data`, and constants of Linux's headers.
use Rattle.std.specs.Prelude.{ℕ, Bool, true, false, if◌then◌else◌, List, codes, position, slice_get, ◌==◌, ◌||◌, [], ◌∷◌, Option, Some, None}
use Rattle.std.specs.Option.{option_and_then, option_or}
use Rattle.std.specs.List.{slice_split}
use Rattle.std.specs.Str.{bytes_eq}
use Rattle.sk_forms.specs.declared.names.Name.{Name}
use Rattle.sk_forms.specs.declared.names.Name.TheVariants as name
use Rattle.sk_forms.specs.declared.names.Word.{Word}
use Rattle.sk_forms.specs.declared.names.Word.TheVariants as word
use Rattle.sk_forms.specs.declared.names.TheConstants.{NAMES, NUMBERS}

unfoldable pub macro_named : List ℕ → Option Word
macro_named text =
    if bytes_eq text (codes "BPF_STMT") then Some word.Statement
    else if bytes_eq text (codes "BPF_JUMP") then Some word.Jump
    else if bytes_eq text (codes "offsetof") then Some word.Offset
    else None

-- the fields of `struct seccomp_data` of linux/seccomp.h, with their places
unfoldable pub field_named : List ℕ → Option ℕ
field_named text =
    if bytes_eq text (codes "nr") then Some 0
    else if bytes_eq text (codes "arch") then Some 4
    else if bytes_eq text (codes "instruction_pointer") then Some 8
    else if bytes_eq text (codes "args") then Some 16
    else None

unfoldable pub word_named : List ℕ → Option Word
word_named text =
    if bytes_eq text (codes "struct") then Some word.Struct
    else if bytes_eq text (codes "seccomp_data") then Some word.Data
    else if bytes_eq text (codes "len") then Some word.Length
    else if bytes_eq text (codes "filter") then Some word.Filter
    else None

-- the names in a text, which stand with a space (32) between each two
abbrev pub names_in : List ℕ → List (List ℕ)
names_in text = slice_split (λ byte. byte == 32) text

unfoldable pub all_names : List (List ℕ)
all_names = names_in NAMES.now

unfoldable pub all_numbers : List ℕ
all_numbers = NUMBERS.now

-- the number of the first name that is this one
unfoldable pub constant_named : List ℕ → Option ℕ
constant_named text = option_and_then (slice_get all_numbers) (position (λ name. bytes_eq name text) all_names)

-- the first byte of each of the names is `A`, `B`, `S`, `X` or `_`
unfoldable pub may_be_constant : List ℕ → Bool
may_be_constant [] = false
may_be_constant (first ∷ rest) = first == 65 || first == 66 || first == 83 || first == 88 || first == 95

-- the first of these that there is
abbrev pub name_from : Option Word → Option ℕ → Option ℕ → Name
name_from (Some word) place number = name.Word word
name_from None (Some place) number = name.Field place
name_from None None (Some n) = name.Constant n
name_from None None None = name.Other

unfoldable pub name_of : List ℕ → Name
name_of text = name_from (option_or (macro_named text) (word_named text)) (field_named text) (constant_named text)

-- whether two words are one
abbrev pub same_word : Word → Word → Bool
same_word word.Statement word.Statement = true
same_word word.Jump word.Jump = true
same_word word.Offset word.Offset = true
same_word word.Struct word.Struct = true
same_word word.Data word.Data = true
same_word word.Length word.Length = true
same_word word.Filter word.Filter = true
same_word one another = false
