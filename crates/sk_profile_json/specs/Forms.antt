-- Which files are profiles is decided by their bytes alone.
use Rattle.std.specs.Prelude.{ℕ, ◌+◌, ◌==◌, ◌&&◌, ◌||◌, not, Bool, false, List, [], drop, find, position, Option, Some, None}
use Rattle.std.specs.List.{list_any}

-- a blank of JSON: a space, a tab, a line feed or a carriage return (RFC 8259, section 2)
abbrev pub is_blank : ℕ → Bool
is_blank byte = byte == 32 || (byte == 9 || (byte == 10 || byte == 13))

-- the first byte that is none
abbrev pub first_of : List ℕ → Option ℕ
first_of bytes = find (λ byte. not (is_blank byte)) bytes

-- what stands behind it
abbrev pub behind_place : List ℕ → Option ℕ → List ℕ
behind_place bytes None = []
behind_place bytes (Some place) = drop (place + 1) bytes

abbrev pub behind_first : List ℕ → List ℕ
behind_first bytes = behind_place bytes (position (λ byte. not (is_blank byte)) bytes)

abbrev pub is_byte : ℕ → Option ℕ → Bool
is_byte byte None = false
is_byte byte (Some other) = other == byte

-- an object of JSON begins with `{` (123)
abbrev pub begins_object : List ℕ → Bool
begins_object bytes = is_byte 123 (first_of bytes)

-- and one with a key with `{` and `"` (34): section 4
abbrev pub begins_with_key : List ℕ → Bool
begins_with_key bytes = begins_object bytes && is_byte 34 (first_of (behind_first bytes))

-- a list of such objects begins with `[` (91) before the first. C and strace have `[` and `{` before a number or the name of a field
abbrev pub begins_list : List ℕ → Bool
begins_list bytes = is_byte 91 (first_of bytes) && begins_with_key (behind_first bytes)

-- a raw filter has a NUL byte, since the upper byte of each code of seccomp(2) is 0; a text has none
abbrev pub is_profile : List ℕ → Bool
is_profile bytes = not (list_any (λ byte. byte == 0) bytes) && (begins_object bytes || begins_list bytes)
