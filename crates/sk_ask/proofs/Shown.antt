-- A text that is shown is UTF-8, since only single bytes of ASCII change.
use Rattle.std.proofs.Common.{◌≡◌, ℕ, zero, suc, ◌<◌, ◌≤◌, ◌==◌, Bool, true, false, cond, ◌&&◌, ◌||◌, nat_lt, List, [], ◌∷◌, ◌++◌, length, get_or, map, IsUtf8, inl, inr, refl, sym, ap, ap₂, ◌∙◌, subst, arith, append-nil, ltb-true}
use Rattle.std.proofs.lemmas.Bool.{and_parts, cases_lt, cases_eq, le-ltb, ne_eqb}
use Rattle.std.proofs.lemmas.List.{map-append}
use Rattle.std.proofs.lemmas.Str.{IsUtf8-append, IsUtf8-nil, IsUtf8-encode, encode_ascii, inside_one}
use lib.Utf8.{scalar, scalars, encode, encodes, low_scalar}
use Rattle.sk_ask.specs.Complaints.{shown, shown_byte}

ascii_alone : (x : ℕ) → x < 128 → IsUtf8 (x ∷ [])
ascii_alone x small = subst IsUtf8 (encode_ascii x small) (IsUtf8-encode x (low_scalar x (omega arith)))

-- those below n are shown as bytes of ASCII
abbrev shown_below : ℕ → Bool
shown_below zero = true
shown_below (suc n) = nat_lt (shown_byte n) 128 && shown_below n

one_below : (n : ℕ) → shown_below n ≡ true → (x : ℕ) → x < n → nat_lt (shown_byte x) 128 ≡ true
one_below zero e x h = absurd (omega arith)
one_below (suc n) e x h =
    let p = and_parts _ _ e in
    elim (cases_eq x n) [ inl same ↦ rw same p.0 | inr other ↦ one_below n p.1 x (omega arith) ]

all_below : shown_below 128 ≡ true
unfolding shown_byte
all_below = refl

high_byte : (x : ℕ) → 128 ≤ x → shown_byte x ≡ x
unfolding shown_byte
high_byte x high = rw (le-ltb x 32 (omega arith), ne_eqb x 127 (λ e. omega arith)) refl

high_bytes : (xs : List ℕ) → ((k : ℕ) → k < length xs → 128 ≤ get_or xs k 0) → shown xs ≡ xs
high_bytes [] h = refl
high_bytes (x ∷ xs) h =
    ap₂ (λ (b : ℕ) (bs : List ℕ). b ∷ bs) (high_byte x (h 0 (omega arith))) (high_bytes xs (λ k below. h (suc k) (omega arith)))

one_char : (c : ℕ) → scalar c ≡ true → IsUtf8 (shown (encode c))
one_char c ok = elim (cases_lt c 128) [
  | inl small ↦ rw (encode_ascii c small) (ascii_alone (shown_byte c) (ltb-true _ _ (one_below 128 all_below c small)))
  | inr big ↦
      let high : (k : ℕ) → k < length (encode c) → 128 ≤ get_or (encode c) k 0 = λ k below. elim (cases_lt (get_or (encode c) k 0) 128) [
        | inl low ↦ absurd (omega (arith, inside_one c [] (encode c) k (sym (append-nil _)) below low))
        | inr h ↦ h
      ] in
      subst IsUtf8 (sym (high_bytes (encode c) high)) (IsUtf8-encode c ok)
]

all_chars : (cs : List ℕ) → scalars cs ≡ true → IsUtf8 (shown (encodes cs))
all_chars [] e = IsUtf8-nil
all_chars (c ∷ cs) e =
    let p = and_parts _ _ e in
    subst IsUtf8 (sym (map-append shown_byte (encode c) (encodes cs))) (IsUtf8-append _ _ (one_char c p.0) (all_chars cs p.1))

pub shown_is_utf8 : (word : List ℕ) → IsUtf8 word → IsUtf8 (shown word)
shown_is_utf8 word u = subst (λ l. IsUtf8 (shown l)) u.1.1 (all_chars u.0 u.1.0)
