-- What tokens begin with, and what stands behind it.
use Rattle.std.specs.Prelude.{ℕ, nat_le, if◌then◌else◌, List, [], ◌∷◌, Option, Some, None}
use Rattle.std.specs.Option.{unwrap_or}
use Rattle.sk_forms.specs.declared.names.Word.{Word}
use Rattle.sk_forms.specs.declared.token.Token.{Token}
use Rattle.sk_forms.specs.Tokens.{is_sign, is_word, number_in, decimal_in, field_in}

infixl 10 ◌>>=◌
abbrev pub ◌>>=◌ : {X Y : Type 0} → Option X → (X → Option Y) → Option Y
None >>= next = None
(Some value) >>= next = next value

-- a sign, which is wanted
unfoldable pub behind : ℕ → List Token → Option (List Token)
behind sign [] = None
behind sign (token ∷ rest) = if is_sign sign token then Some rest else None

-- a sign, which may be missing
unfoldable pub past : ℕ → List Token → List Token
past sign tokens = unwrap_or (behind sign tokens) tokens

-- a word, which is wanted
unfoldable pub behind_word : Word → List Token → Option (List Token)
behind_word word [] = None
behind_word word (token ∷ rest) = if is_word word token then Some rest else None

-- a number that is there, and at most so large
abbrev pub small : ℕ → Option ℕ → Option ℕ
small most None = None
small most (Some n) = if nat_le n most then Some n else None

-- a number that is at most so large
unfoldable pub number_at : ℕ → List Token → Option (ℕ × List Token)
number_at most [] = None
number_at most (token ∷ rest) = do
  n ← small most (number_in token)
  Some (n, rest)

-- one in decimal digits
unfoldable pub decimal_at : ℕ → List Token → Option (ℕ × List Token)
decimal_at most [] = None
decimal_at most (token ∷ rest) = do
  n ← small most (decimal_in token)
  Some (n, rest)

-- a field of `struct seccomp_data`, by its place
unfoldable pub field_at : List Token → Option (ℕ × List Token)
field_at [] = None
field_at (token ∷ rest) = do
  place ← field_in token
  Some (place, rest)
