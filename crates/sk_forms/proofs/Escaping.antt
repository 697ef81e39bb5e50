-- Escapes are read one by one.
use Rattle.std.proofs.Common.{◌≡◌, ap, sym, refl, suc, ℕ, List, [], ◌∷◌, ◌++◌, take, drop, Option, Some, None, append_assoc}
use Rattle.sk_forms.specs.Grammar.{◌>>=◌}
use Rattle.sk_forms.specs.Strings.{escape, escapes}

-- these bytes before those that are read
abbrev pub put_bytes : List ℕ → Option (List ℕ) → Option (List ℕ)
put_bytes front None = None
put_bytes front (Some bytes) = Some (front ++ bytes)

one_more : (front : List ℕ) (byte : ℕ) (o : Option (List ℕ)) → put_bytes front (o >>= λ others. Some (byte ∷ others)) ≡ put_bytes (front ++ byte ∷ []) o
one_more front byte None = refl
one_more front byte (Some others) = ap (λ (l : List ℕ). Some l) (sym (append_assoc front (byte ∷ []) others))

pub escape_read : (n byte : ℕ) (front text : List ℕ) → escape (take 4 text) ≡ Some byte
    → put_bytes front (escapes (suc n) text) ≡ put_bytes (front ++ byte ∷ []) (escapes n (drop 4 text))
escape_read n byte front text h = rw h (one_more front byte (escapes n (drop 4 text)))

pub escape_refused : (n : ℕ) (front text : List ℕ) → escape (take 4 text) ≡ None → put_bytes front (escapes (suc n) text) ≡ None
escape_refused n front text h = rw h refl
