-- What the bits of a wait4(2)'s options ask for.
use Rattle.std.specs.Prelude.{◌≡◌, ℕ, true, false, List, [], ◌∷◌, map}
use Rattle.sk_world.specs.Waits.{options_of, is_no_hang, is_untraced, is_continued}

-- the eight sets of options
abbrev pub all_options : List ℕ
all_options = 0 ∷ 1 ∷ 2 ∷ 3 ∷ 8 ∷ 9 ∷ 10 ∷ 11 ∷ []

-- which of them ask not to wait, for stopped children and for continued ones
pub record AsksWithItsBits : Type 0 where
  pub no_hang : map (λ bits. is_no_hang (options_of bits)) all_options ≡ false ∷ true ∷ false ∷ true ∷ false ∷ true ∷ false ∷ true ∷ []
  pub untraced : map (λ bits. is_untraced (options_of bits)) all_options ≡ false ∷ false ∷ true ∷ true ∷ false ∷ false ∷ true ∷ true ∷ []
  pub continued : map (λ bits. is_continued (options_of bits)) all_options ≡ false ∷ false ∷ false ∷ false ∷ true ∷ true ∷ true ∷ true ∷ []
