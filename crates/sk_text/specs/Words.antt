-- Names, and lists of exactly so many words.
use Rattle.std.specs.Prelude.{ℕ, ◌==◌, ◌&&◌, ◌||◌, nat_le, nat_lt, Bool, false, List, [], ◌∷◌, length, Option, Some, None}
use Rattle.std.specs.List.{list_all}

-- a to z
unfoldable pub is_letter : ℕ → Bool
is_letter byte = nat_le 97 byte && nat_le byte 122

-- a letter, a decimal digit, `_` (95) or `-` (45)
unfoldable pub is_name_byte : ℕ → Bool
is_name_byte byte = is_letter byte || (nat_le 48 byte && nat_le byte 57) || byte == 95 || byte == 45

-- a name has 1 to 32 such bytes, a letter first
unfoldable pub is_name : List ℕ → Bool
is_name [] = false
is_name (first ∷ rest) = is_letter first && nat_lt (length rest) 32 && list_all is_name_byte rest

-- no word
abbrev pub none_of : List (List ℕ) → Option (Unit {0})
none_of [] = Some tt
none_of (word ∷ words) = None

-- the only word
abbrev pub one_of : List (List ℕ) → Option (List ℕ)
one_of (a ∷ []) = Some a
one_of words = None

-- the only two
abbrev pub two_of : List (List ℕ) → Option (List ℕ × List ℕ)
two_of (a ∷ (b ∷ [])) = Some (a, b)
two_of words = None

-- the only three
abbrev pub three_of : List (List ℕ) → Option (List ℕ × List ℕ × List ℕ)
three_of (a ∷ (b ∷ (c ∷ []))) = Some (a, b, c)
three_of words = None

-- the only four
abbrev pub four_of : List (List ℕ) → Option (List ℕ × List ℕ × List ℕ × List ℕ)
four_of (a ∷ (b ∷ (c ∷ (d ∷ [])))) = Some (a, b, c, d)
four_of words = None
