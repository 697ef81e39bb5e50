-- What Linux reads of each argument of a call of x86-64: the types in its SYSCALL_DEFINEs, to which it casts the registers.
use Rattle.std.specs.Prelude.{ℕ, zero, suc, ◌+◌, ◌*◌, ◌-◌, ◌^◌, ◌==◌, nat_lt, Bool, true, false, not, if◌then◌else◌, List, [], ◌∷◌, ◌++◌, flat_map, codes, Option, Some, None, slice_get}
use Rattle.std.specs.List.{list_any, range_with_len, slice_split}
use Rattle.std.specs.Option.{option_and_then}
use Rattle.std.specs.Str.{bytes_eq}
use Rattle.sk_arguments.specs.declared.kinds.Kind.{Kind}
use Rattle.sk_arguments.specs.declared.kinds.Kind.TheVariants as kind
use Rattle.sk_arguments.specs.declared.tables.calls.TheConstants.{KINDS, DECIDERS, NAMES}

-- ---- the tables, which have six columns for each call

-- the place of an argument; the numbers of x32 are those of x86-64 with bit 30
abbrev pub place_of : ℕ → ℕ → Option ℕ
place_of nr i = if nat_lt i 6 then Some (6 * (if nat_lt nr (2 ^ 30) then nr else nr - 2 ^ 30) + i) else None

abbrev pub letter : List ℕ → ℕ → ℕ → Option ℕ
letter text nr i = option_and_then (slice_get text) (place_of nr i)

-- ---- kinds

-- the kind by its letter: - m i u p, and l for Long
unfoldable pub kind_by : Option ℕ → Kind
kind_by None = kind.Long
kind_by (Some letter) =
    if letter == 45 then kind.Absent
    else if letter == 109 then kind.Mode
    else if letter == 105 then kind.Int
    else if letter == 117 then kind.Unsigned
    else if letter == 112 then kind.Pointer
    else kind.Long

-- of what the table does not know each argument is Long
unfoldable pub kind_of : ℕ → ℕ → Kind
kind_of nr i = kind_by (letter KINDS.now nr i)

abbrev pub reads_upper : Kind → Bool
reads_upper kind.Long = true
reads_upper kind.Pointer = true
reads_upper other = false

abbrev pub reads_lower : Kind → Bool
reads_lower kind.Absent = false
reads_lower other = true

-- ---- words of a call's record

-- the places in struct seccomp_data of the halves of an argument that Linux does not read: the lower at 16 + 8 i, the upper at 20 + 8 i
unfoldable pub unread_at : ℕ → ℕ → List ℕ
unread_at nr i =
    (if reads_lower (kind_of nr i) then [] else (16 + 8 * i) ∷ [])
    ++ (if reads_upper (kind_of nr i) then [] else (20 + 8 * i) ∷ [])

unfoldable pub unread_places : ℕ → List ℕ
unread_places nr = flat_map (unread_at nr) (range_with_len 0 6)

-- ---- numbers with an upper half that Linux does not read

unfoldable pub is_narrow : ℕ → Bool
is_narrow nr = list_any (λ i. not (reads_upper (kind_of nr i))) (range_with_len 0 6)

-- those among so many numbers from one on
unfoldable pub narrow_from : ℕ → ℕ → List ℕ
narrow_from zero nr = []
narrow_from (suc count) nr = if is_narrow nr then nr ∷ narrow_from count (nr + 1) else narrow_from count (nr + 1)

-- those of x86-64, which are below 512, and those of x32
abbrev pub narrow_numbers : List ℕ
narrow_numbers = narrow_from 512 0 ++ narrow_from 512 (2 ^ 30)

-- ---- which argument decides of another one, and names

abbrev pub decider_by : ℕ → Option ℕ
decider_by letter =
    if letter == 48 then Some 0
    else if letter == 49 then Some 1
    else if letter == 50 then Some 2
    else if letter == 51 then Some 3
    else if letter == 52 then Some 4
    else None

unfoldable pub decided_by : ℕ → ℕ → Option ℕ
decided_by nr i = option_and_then decider_by (letter DECIDERS.now nr i)

-- the names in a text, which stand with a space (32) between each two
abbrev pub names_in : List ℕ → List (List ℕ)
names_in text = slice_split (λ byte. byte == 32) text

-- a name of the table, where - stands for none
abbrev pub name_at : List ℕ → Option (List ℕ)
name_at name = if bytes_eq name (codes "-") then None else Some name

unfoldable pub argument_name : ℕ → ℕ → Option (List ℕ)
argument_name nr i = option_and_then name_at (option_and_then (slice_get (names_in NAMES.now)) (place_of nr i))
