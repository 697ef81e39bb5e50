-- Filters as lines `filter HEX`.
use Rattle.std.specs.Prelude.{ℕ, ◌++◌, List, codes, flat_map}
use Rattle.hex.specs.Hex.{encode_lower}

abbrev pub filter_line : List ℕ → List ℕ
filter_line image = codes "filter " ++ encode_lower image ++ codes "\n"

abbrev pub filter_lines : List (List ℕ) → List ℕ
filter_lines images = flat_map filter_line images
