-- The bytes of an image in base64 (RFC 4648), as crun takes it in an annotation.
use Rattle.std.specs.Prelude.{ℕ, ◌==◌, ◌||◌, not, Bool, if◌then◌else◌, List, filter, Option, None}
use Rattle.std.specs.List.{list_all}
use Rattle.std.specs.Result.{result_ok}
use Rattle.base64.specs.Engines.{standard}
use Rattle.base64.specs.GeneralPurpose.{decode_of}
use Rattle.sk_text.specs.Numbers.{is_digit_in}
use Rattle.sk_forms.specs.Grammar.{◌>>=◌}
use Rattle.sk_forms.specs.Dumps.{whole_image}

-- a line ends with 10, and 13 may stand before it
abbrev pub ends_line : ℕ → Bool
ends_line byte = byte == 10 || byte == 13

abbrev pub without_ends : List ℕ → List ℕ
without_ends text = filter (λ byte. not (ends_line byte)) text

-- what these letters stand for; those that are all hexadecimal digits are no base64 here
unfoldable pub letters : List ℕ → Option (List ℕ)
letters text = if list_all (is_digit_in 16) text then None else (result_ok (decode_of standard text) >>= λ bytes. whole_image bytes)

unfoldable pub base64 : List ℕ → Option (List ℕ)
base64 text = letters (without_ends text)
