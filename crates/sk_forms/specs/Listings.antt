-- The image of the filter that a text in one of the published forms writes.
use Rattle.std.specs.Prelude.{ℕ, List, Option, Some, None}
use Rattle.std.specs.Option.{option_or, option_map}
use Rattle.sk_insn.specs.declared.insn.Insn.{Insn}
use Rattle.sk_insn.specs.Instructions.{image_of}
use Rattle.sk_forms.specs.Tokens.{tokens_in}
use Rattle.sk_forms.specs.Arrays.{array, in_one_line}
use Rattle.sk_forms.specs.Base64.{base64}
use Rattle.sk_forms.specs.ByteArrays.{byte_array}
use Rattle.sk_forms.specs.Decimals.{decimals}
use Rattle.sk_forms.specs.Dumps.{dump, whole_image}
use Rattle.sk_forms.specs.Strings.{strings}
use Rattle.sk_forms.specs.Tables.{table}

-- the instructions that a text writes
unfoldable pub instructions_written : List ℕ → Option (List Insn)
instructions_written text = option_or (decimals (tokens_in text)) (option_or (array (in_one_line (tokens_in text))) (table text))

-- these bytes, or those that the text has in another form
abbrev pub array_or_others : Option (List ℕ) → List ℕ → Option (List ℕ)
array_or_others (Some bytes) text = whole_image bytes
array_or_others None text = option_or (dump text) (option_or (strings text) (base64 text))

-- the image whose bytes it writes
unfoldable pub bytes_written : List ℕ → Option (List ℕ)
bytes_written text = array_or_others (byte_array (in_one_line (tokens_in text))) text

unfoldable pub listing_of : List ℕ → Option (List ℕ)
listing_of bytes = option_or (option_map image_of (instructions_written bytes)) (bytes_written bytes)
