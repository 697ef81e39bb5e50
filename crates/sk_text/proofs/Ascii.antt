-- The digits are ASCII.
use Rattle.std.proofs.Common.{◌≡◌, ℕ, List, [], ◌∷◌, true, refl}
use Rattle.std.proofs.lemmas.Bool.{and_parts, ltb-true}
use Rattle.std.proofs.lemmas.Str.Ascii.{IsAscii-nil, IsAscii-cons}
use Rattle.std.specs.Prelude.{nat_lt}
use Rattle.std.specs.List.{list_all}
use Rattle.std.specs.Str.{IsAscii}
use Rattle.hex.specs.Hex.{lower_digits, encode_lower}
use Rattle.hex.proofs.HexLemmas.{IsAscii-encode_with}

each_below : (bytes : List ℕ) → list_all (λ b. nat_lt b 128) bytes ≡ true → IsAscii bytes
each_below [] h = IsAscii-nil
each_below (b ∷ bytes) h =
    let parts = and_parts (nat_lt b 128) (list_all (λ x. nat_lt x 128) bytes) h in
    IsAscii-cons b bytes (ltb-true b 128 parts.0) (each_below bytes parts.1)

pub IsAscii-encode_lower : (bytes : List ℕ) → IsAscii (encode_lower bytes)
IsAscii-encode_lower bytes = IsAscii-encode_with lower_digits bytes (each_below lower_digits refl)
