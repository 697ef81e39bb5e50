-- Bytes of an array are read one by one.
use Rattle.std.proofs.Common.{◌≡◌, ◌∙◌, ap, sym, refl, zero, suc, ℕ, List, [], ◌∷◌, ◌++◌, Some, None}
use Rattle.sk_forms.specs.declared.token.Token.{Token}
use Rattle.sk_forms.specs.Grammar.{behind, number_at}
use Rattle.sk_forms.specs.ByteArrays.{bytes_from}

-- no number stands there
pub none_left : (n : ℕ) (bytes : List ℕ) (rest : List Token) → number_at 255 rest ≡ None → bytes_from n bytes rest ≡ (bytes, rest)
none_left zero bytes rest h = refl
none_left (suc n) bytes rest h = rw (h, bytes_from) refl

-- no comma stands behind it
last_left : (n byte : ℕ) (bytes : List ℕ) (rest after : List Token) → number_at 255 rest ≡ Some (byte, after) → behind 44 after ≡ None
    → bytes_from (suc n) bytes rest ≡ (bytes ++ byte ∷ [], after)
last_left n byte bytes rest after h b = rw (h, bytes_from, b) refl

-- more may stand there
one_left : (n byte : ℕ) (bytes : List ℕ) (rest after next : List Token) → number_at 255 rest ≡ Some (byte, after) → behind 44 after ≡ Some next
    → bytes_from (suc n) bytes rest ≡ bytes_from n (bytes ++ byte ∷ []) next
one_left n byte bytes rest after next h b = rw (h, bytes_from, b) refl

-- a turn of the loop that ends there
pub last_turn : (m n byte : ℕ) (bytes more : List ℕ) (rest after : List Token) (whole : List ℕ × List Token) → m ≡ suc n
    → number_at 255 rest ≡ Some (byte, after) → behind 44 after ≡ None → more ≡ bytes ++ byte ∷ [] → bytes_from m bytes rest ≡ whole → (more, after) ≡ whole
last_turn m n byte bytes more rest after whole left h b grown so_far =
    ap (λ (l : List ℕ). (l, after)) grown ∙ sym (ap (λ (k : ℕ). bytes_from k bytes rest) left ∙ last_left n byte bytes rest after h b) ∙ so_far

-- one that goes on
pub one_turn : (m n byte : ℕ) (bytes more : List ℕ) (rest after next : List Token) (whole : List ℕ × List Token) → m ≡ suc n
    → number_at 255 rest ≡ Some (byte, after) → behind 44 after ≡ Some next → more ≡ bytes ++ byte ∷ [] → bytes_from m bytes rest ≡ whole → bytes_from n more next ≡ whole
one_turn m n byte bytes more rest after next whole left h b grown so_far =
    ap (λ (l : List ℕ). bytes_from n l next) grown ∙ sym (ap (λ (k : ℕ). bytes_from k bytes rest) left ∙ one_left n byte bytes rest after next h b) ∙ so_far
