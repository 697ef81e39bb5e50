-- What a line `filter HEX` says; one whose first word begins with `;` (59) or `#` (35) says nothing.
use Rattle.std.specs.Prelude.{ℕ, ◌==◌, ◌||◌, if◌then◌else◌, List, [], ◌∷◌, codes, slice_index, Option, Some, None, Result, Ok, Err}
use Rattle.std.specs.Str.{bytes_eq}
use Rattle.sk_text.specs.Hexadecimal.{hex_bytes}
use Rattle.sk_ask.specs.declared.fault.LineFault.{LineFault}
use Rattle.sk_ask.specs.declared.fault.LineFault.TheVariants.{UnknownWord, NotHexadecimal}

abbrev pub filter_says : Option (List ℕ) → Result (Option (List ℕ)) LineFault
filter_says None = Err NotHexadecimal
filter_says (Some image) = Ok (Some image)

-- the words of a line say an image, nothing, or what can't be understood
abbrev pub says : List (List ℕ) → Result (Option (List ℕ)) LineFault
says [] = Ok None
says (word ∷ words) =
    if slice_index word 0 == 59 || slice_index word 0 == 35 then Ok None
    else if bytes_eq word (codes "filter") then filter_says (hex_bytes words)
    else Err UnknownWord
