-- Strings of C with the bytes of an image (6.4.5 of the standard). Each byte is written as `\x20`, with two hexadecimal digits (6.4.4.4).
use Rattle.std.specs.Prelude.{ℕ, zero, suc, ◌==◌, ◌&&◌, ◌||◌, ◌/◌, ◌%◌, not, Bool, if◌then◌else◌, List, [], ◌∷◌, length, filter, take, drop, slice_index, Option, Some, None}
use Rattle.sk_text.specs.Numbers.{number_of, up_to}
use Rattle.sk_forms.specs.Words.{is_blank}
use Rattle.sk_forms.specs.Grammar.{◌>>=◌}
use Rattle.sk_forms.specs.Dumps.{whole_image}

-- quotes (34), blanks and line ends (10) part the bytes of strings
unfoldable pub parts_strings : ℕ → Bool
parts_strings byte = byte == 34 || byte == 10 || is_blank byte

abbrev pub without_quotes : List ℕ → List ℕ
without_quotes text = filter (λ byte. not (parts_strings byte)) text

-- the byte that `\` (92), `x` (120) and two digits are; 48 and 120 mark them as hexadecimal
unfoldable pub escape : List ℕ → Option ℕ
escape four =
    if slice_index four 0 == 92 && slice_index four 1 == 120
    then up_to 255 (number_of (48 ∷ 120 ∷ slice_index four 2 ∷ slice_index four 3 ∷ []))
    else None

-- so many bytes
abbrev pub escapes : ℕ → List ℕ → Option (List ℕ)
escapes zero text = Some []
escapes (suc n) text = do
  first ← escape (take 4 text)
  others ← escapes n (drop 4 text)
  Some (first ∷ others)

unfoldable pub escaped : List ℕ → Option (List ℕ)
escaped text = if length text % 4 == 0 then escapes (length text / 4) text else None

unfoldable pub strings : List ℕ → Option (List ℕ)
strings text = escaped (without_quotes text) >>= λ bytes. whole_image bytes
