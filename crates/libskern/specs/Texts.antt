-- The texts of the numbers of include/skern.h.
use Rattle.std.specs.Prelude.{ℕ, List, map, codes, slice_get}
use Rattle.std.specs.Option.{unwrap_or}
use Rattle.libskern.specs.declared.reason.TheConstants.{TEXTS}

-- the text of a number
abbrev pub text_of : ℕ → List ℕ
text_of number = unwrap_or (slice_get (map (λ text. text.now) TEXTS) number) (codes "no such number")
