-- Values as headers and strace write them: numbers, constants and places of fields, joined by `+` and `|` of C (6.5.6 and 6.5.12 of the standard).
use Rattle.std.specs.Prelude.{ℕ, zero, suc, ◌+◌, ◌*◌, ◌==◌, bit_and, bit_or, if◌then◌else◌, List, length, Option, Some, None}
use Rattle.std.specs.Option.{option_or}
use Rattle.sk_forms.specs.declared.names.Word.TheVariants as word
use Rattle.sk_forms.specs.declared.token.Token.{Token}
use Rattle.sk_forms.specs.Grammar.{◌>>=◌, behind, behind_word, field_at, number_at, small}

-- ---- places

-- the place of args is that of its first element; an index in brackets (91, 93) is one of six elements of eight bytes
unfoldable pub element : ℕ → List Token → Option (ℕ × List Token)
element place tokens = elim (behind 91 tokens) [
  | None ↦ Some (place, tokens)
  | Some inside ↦ do
    index ← number_at 5 inside
    rest ← behind 93 index.1
    Some (place + 8 * index.0, rest)
]

-- only args, at 16, has elements
unfoldable pub place_at : List Token → Option (ℕ × List Token)
place_at tokens = do
  field ← field_at tokens
  if field.0 == 16 then element field.0 field.1 else Some field

-- `offsetof(struct seccomp_data, field)`: brackets are 40 and 41, and a comma is 44
unfoldable pub offset : List Token → Option (ℕ × List Token)
offset tokens = do
  called ← behind_word word.Offset tokens
  inside ← behind 40 called
  kind ← behind_word word.Struct inside
  of ← behind_word word.Data kind
  field ← behind 44 of
  place ← place_at field
  rest ← behind 41 place.1
  Some (place.0, rest)

unfoldable pub plain : List Token → Option (ℕ × List Token)
plain tokens = option_or (number_at 4294967295 tokens) (offset tokens)

-- a number, or what `&` (38) leaves of it
unfoldable pub masked : ℕ → List Token → Option (ℕ × List Token)
masked number tokens = elim (behind 38 tokens) [
  | None ↦ Some (number, tokens)
  | Some next ↦ do
    mask ← plain next
    Some (bit_and number mask.0, mask.1)
]

-- the same in brackets
unfoldable pub bracketed : List Token → Option (ℕ × List Token)
bracketed tokens = do
  inside ← behind 40 tokens
  first ← plain inside
  both ← masked first.0 first.1
  rest ← behind 41 both.1
  Some (both.0, rest)

unfoldable pub operand : List Token → Option (ℕ × List Token)
operand tokens = option_or (plain tokens) (bracketed tokens)

-- ---- what is joined

-- a number and so many operands at most, each behind `+` (43); a sum is below 2 ^ 32
abbrev pub sum_from : ℕ → ℕ → List Token → Option (ℕ × List Token)
sum_from zero sum tokens = Some (sum, tokens)
sum_from (suc n) sum tokens = elim (behind 43 tokens) [
  | None ↦ Some (sum, tokens)
  | Some next ↦ do
    more ← operand next
    together ← small 4294967295 (Some (sum + more.0))
    sum_from n together more.1
]

unfoldable pub sum_at : List Token → Option (ℕ × List Token)
sum_at tokens = do
  first ← operand tokens
  sum_from (length first.1) first.0 first.1

-- bits and so many sums at most, each behind `|` (124)
abbrev pub bits_from : ℕ → ℕ → List Token → Option (ℕ × List Token)
bits_from zero bits tokens = Some (bits, tokens)
bits_from (suc n) bits tokens = elim (behind 124 tokens) [
  | None ↦ Some (bits, tokens)
  | Some next ↦ do
    more ← sum_at next
    bits_from n (bit_or bits more.0) more.1
]

unfoldable pub bits_at : List Token → Option (ℕ × List Token)
bits_at tokens = do
  first ← sum_at tokens
  bits_from (length first.1) first.0 first.1

-- a value that is at most so large
unfoldable pub value_at : ℕ → List Token → Option (ℕ × List Token)
value_at most tokens = do
  bits ← bits_at tokens
  value ← small most (Some bits.0)
  Some (value, bits.1)
