-- Numbers by the constants of Linux's headers, and masks as expressions of C: a constant without bit 31 is an int but in two headers,
-- so that its complement has 64 bits beside an argument (C17 6.3.1.8), and one with bit 31 is unsigned.
use Rattle.std.specs.Prelude.{ℕ, ◌≡◌, ◌<◌, ◌-◌, ◌^◌, ◌==◌, ◌&&◌, ◌||◌, not, nat_lt, Bool, true, false, if◌then◌else◌, List, [], ◌∷◌, ◌++◌, length, map, Option, Some, None, is_some, bit_and, bit_or, bit_xor}
use Rattle.std.specs.Int.Count.{ones_in}
use Rattle.std.specs.List.{list_all}
use Rattle.std.specs.Option.{option_map_or}
use Rattle.sk_arguments.specs.Constants.{form_of, name_in, numbers_of}
use Rattle.sk_arguments.specs.declared.constants.Set.{Set}
use Rattle.sk_arguments.specs.declared.forms.Field.{Field}
use Rattle.sk_arguments.specs.declared.forms.Form.{Form}
use Rattle.sk_arguments.specs.declared.forms.Form.TheVariants as form
use Rattle.sk_terms.specs.declared.constants.Part.{Part}
use Rattle.sk_terms.specs.declared.constants.Part.TheVariants.{Constant, Number}

-- ---- the parts of a number

abbrev pub value : Part → ℕ
value (Constant set n) = n
value (Number n) = n

abbrev pub is_constant : Part → Bool
is_constant (Constant set n) = true
is_constant (Number n) = false

-- the bits of all parts
abbrev pub bits_of : List Part → ℕ
bits_of [] = 0
bits_of (part ∷ parts) = bit_or (value part) (bits_of parts)

-- all of these bits are among others
abbrev pub lies_in : ℕ → ℕ → Bool
lies_in bits others = bit_and bits others == bits

-- all bits of an argument, or those of its lower half: what Linux reads of one that is a number
abbrev pub is_whole : ℕ → Bool
is_whole mask = mask == 0xffffffffffffffff || mask == 0xffffffff

-- the constant of a number, where a set has it
abbrev pub named : Set → ℕ → Part
named set n = if is_some (name_in set n) then Constant set n else Number n

-- of some numbers, those whose bits are all in what is left; each takes its bits
abbrev pub taken : List ℕ → ℕ → List ℕ
taken [] rest = []
taken (c ∷ numbers) rest =
    let is_there = nat_lt 0 c && lies_in c rest in
    (if is_there then c ∷ [] else []) ++ taken numbers (if is_there then bit_xor rest c else rest)

-- the bits of a number that a field has
abbrev pub field_bits : Option Field → ℕ → ℕ
field_bits field n = option_map_or (λ it. bit_and n it.mask) field 0

-- the constant of a field, where the mask has all of the field; 0 is one where it has nothing else
abbrev pub field_part : Option Field → ℕ → ℕ → List Part
field_part None mask n = []
field_part (Some it) mask n =
    let bits = bit_and n it.mask in
    if lies_in it.mask mask && (nat_lt 0 bits || mask == it.mask) && is_some (name_in it.values bits) then Constant it.values bits ∷ [] else []

-- the constants of a number beside a mask
abbrev pub constants_of : Set → Option Field → ℕ → ℕ → List Part
constants_of set field mask n =
    field_part field mask n ++ map (named set) (taken (numbers_of set) (bit_xor n (field_bits field n)))

-- constants, and what is left of the number, unless this has more bits than there are constants
abbrev pub with_rest : ℕ → List Part → List Part
with_rest n constants =
    let rest = bit_xor n (bits_of constants) in
    if length constants == 0 || nat_lt (length constants) (ones_in 64 rest) then Number n ∷ []
    else if rest == 0 then constants else constants ++ (Number rest ∷ [])

-- the parts of a number beside a mask: of no form, or where the mask cuts it, the number alone
abbrev pub parts_of : Form → ℕ → ℕ → List Part
parts_of form.Plain mask n = Number n ∷ []
parts_of (form.One set) mask n = if is_whole mask then named set n ∷ [] else Number n ∷ []
parts_of (form.Bits set field) mask n = if lies_in n mask then with_rest n (constants_of set field mask n) else Number n ∷ []

-- parts are the number
abbrev pub PartsReadBack : Type 0
PartsReadBack = (it : Form) (mask n : ℕ) → bits_of (parts_of it mask n) ≡ n

-- ---- masks

-- a mask as C has it
pub data Mask : Type 0 where
  -- `A|B`
  some_of : List Part → Mask
  -- `~(A|B)`
  all_but : List Part → Mask
  -- `0xffffffff & ~(A|B)`
  lower_but : List Part → Mask

-- `~` in C, beside an argument
abbrev pub complement : ℕ → ℕ
complement n = if nat_lt n (2 ^ 31) then 2 ^ 64 - 1 - n else 2 ^ 32 - 1 - n

abbrev pub mask_value : Mask → ℕ
mask_value (some_of parts) = bits_of parts
mask_value (all_but parts) = complement (bits_of parts)
mask_value (lower_but parts) = bit_and 0xffffffff (complement (bits_of parts))

abbrev pub are_constants : List Part → Bool
are_constants parts = list_all is_constant parts

-- what headers alone have as unsigned constants without bit 31: the flags of memfd_create(2), and the mask of statx(2)
abbrev pub has_bits_of : Set → Form → Bool
has_bits_of set form.Plain = false
has_bits_of set (form.One other) = false
has_bits_of set (form.Bits other field) = set.first == other.first && set.end == other.end

abbrev pub is_unsigned : Form → Bool
is_unsigned form.Plain = false
is_unsigned (form.One set) = false
is_unsigned (form.Bits set field) =
    let nothing = None ∷ None ∷ None ∷ None ∷ None ∷ None ∷ [] in
    has_bits_of set (form_of 319 1 nothing) || has_bits_of set (form_of 332 3 nothing)

-- the bits are constants without bit 31
abbrev pub can_be_left_out : Form → ℕ → Bool
can_be_left_out it bits = nat_lt bits (2 ^ 31) && are_constants (parts_of it bits bits)

-- how a mask is written: a half as a number, others by the constants that they have, or else by those that they lack
abbrev pub mask_of : Form → ℕ → Mask
mask_of it mask =
    if mask == 0xffffffff || mask == 0xffffffff00000000 then some_of (Number mask ∷ [])
    else if are_constants (parts_of it mask mask) then some_of (parts_of it mask mask)
    else if not (is_unsigned it) && can_be_left_out it (2 ^ 64 - 1 - mask) then all_but (parts_of it (2 ^ 64 - 1 - mask) (2 ^ 64 - 1 - mask))
    else if nat_lt mask (2 ^ 32) && can_be_left_out it (2 ^ 32 - 1 - mask) then lower_but (parts_of it (2 ^ 32 - 1 - mask) (2 ^ 32 - 1 - mask))
    else some_of (parts_of it mask mask)

-- what is written is the mask
abbrev pub MasksReadBack : Type 0
MasksReadBack = (it : Form) (mask : ℕ) → mask < 2 ^ 64 → mask_value (mask_of it mask) ≡ mask
