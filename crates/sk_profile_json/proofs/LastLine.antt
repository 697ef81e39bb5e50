-- A line feed at the end of a text that was laid out changes no token.
use Rattle.std.proofs.Common.{◌≡◌, ℕ, zero, suc, ◌*◌, Bool, true, false, cond, ◌&&◌, List, [], ◌∷◌, ◌++◌, map, replicate, refl, sym, ap, ap₂, ◌∙◌, append_assoc, append-nil, inl, inr, true≢false, subst}
use Rattle.json.specs.Token.{Token, begin_object, end_object, begin_array, end_array, key, string, number, boolean, null, bad}
use Rattle.json.specs.Word.{ends_word, word}
use Rattle.json.specs.Lex.{Lexeme, token, colon, comma, string_token, lex, between, tokens, punctuate, fresh}
use Rattle.json.specs.Print.{escape, quoted, token_text, begins, ends, separator, IsPrintable, ArePrintable}
use Rattle.json.specs.Layout.{Last, nothing, bracket, name, value, is_value, gap, depth_at, after, step, piece, pretty_from, pretty}
use Rattle.json.specs.Spaced.{IsGap, AreGaps, print_spaced}
use Rattle.json.proofs.Printed.Strings.{content-escape, lex-escape}
use Rattle.json.proofs.Printed.Numbers.{lex-number, in_word-ended}
use Rattle.json.proofs.Printed.Tokens.{tokens-print_spaced}

-- ---- what was laid out is read back

spaces : (n : ℕ) → IsGap (replicate n 32)
spaces zero = tt
spaces (suc n) = (inl refl, spaces n)

gap-is : (last : Last) (opens : Bool) (depth : ℕ) → IsGap (gap last opens depth)
gap-is nothing opens depth = tt
gap-is bracket true depth = (inr refl, spaces (2 * depth))
gap-is bracket false depth = tt
gap-is name opens depth = (inl refl, tt)
gap-is value opens depth = (inr refl, spaces (2 * depth))

abbrev spaced : Last × ℕ → List Token → List (List ℕ × Token)
spaced s [] = []
spaced s (t ∷ ts) = (gap s.0 (begins t) (depth_at s.1 t), t) ∷ spaced (step s t) ts

spaced-gaps : (s : Last × ℕ) (ts : List Token) → AreGaps (spaced s ts)
spaced-gaps s [] = tt
spaced-gaps s (t ∷ ts) = (gap-is s.0 (begins t) (depth_at s.1 t), spaced-gaps (step s t) ts)

spaced-tokens : (s : Last × ℕ) (ts : List Token) → map (λ p. p.1) (spaced s ts) ≡ ts
spaced-tokens s [] = refl
spaced-tokens s (t ∷ ts) = ap (λ us. t ∷ us) (spaced-tokens (step s t) ts)

ends-after : (t : Token) (depth : ℕ) → is_value (after t depth).0 ≡ ends t
ends-after begin_object depth = refl
ends-after end_object depth = refl
ends-after begin_array depth = refl
ends-after end_array depth = refl
ends-after (key s) depth = refl
ends-after (string s) depth = refl
ends-after (number s) depth = refl
ends-after (boolean b) depth = refl
ends-after null depth = refl
ends-after bad depth = refl

spaced-text : (s : Last × ℕ) (ts : List Token) → pretty_from s ts ≡ print_spaced (is_value s.0) (spaced s ts)
unfolding pretty_from print_spaced
spaced-text s [] = refl
spaced-text s (t ∷ ts) =
    ap (λ rest. piece s t ++ rest) (spaced-text (step s t) ts ∙ ap (λ b. print_spaced b (spaced (step s t) ts)) (ends-after t (depth_at s.1 t)))
    ∙ append_assoc (separator (is_value s.0) t) _ _
    ∙ ap (λ rest. separator (is_value s.0) t ++ rest) (append_assoc (gap s.0 (begins t) (depth_at s.1 t)) (token_text t) _)

pub tokens-pretty : (ts : List Token) → ArePrintable ts → tokens (pretty ts) ≡ ts
tokens-pretty ts h =
    let same = spaced-tokens (nothing, 0) ts in
    ap tokens (spaced-text (nothing, 0) ts)
    ∙ tokens-print_spaced (spaced (nothing, 0) ts) (spaced-gaps (nothing, 0) ts) (subst ArePrintable (sym same) h) ∙ same

-- ---- and so it is before what ends a word and is read alike

lex-quoted : (s r : List ℕ) → lex between (quoted s ++ r) ≡ token (string s) ∷ lex between r
unfolding lex
lex-quoted s r =
    ap (λ l. lex between (34 ∷ l)) (append_assoc (escape s) (34 ∷ []) r)
    ∙ ap₂ (λ o l. token (string_token o) ∷ l) (content-escape s r) (lex-escape s r)

lex-gap : (g r : List ℕ) → IsGap g → lex between (g ++ r) ≡ lex between r
unfolding lex
lex-gap [] r h = refl
lex-gap (x ∷ g) r (inl e, h) = rw e (lex-gap g r h)
lex-gap (x ∷ g) r (inr e, h) = rw e (lex-gap g r h)

abbrev lexes : Token → List Lexeme
lexes begin_object = token begin_object ∷ []
lexes end_object = token end_object ∷ []
lexes begin_array = token begin_array ∷ []
lexes end_array = token end_array ∷ []
lexes (key s) = token (string s) ∷ colon ∷ []
lexes (string s) = token (string s) ∷ []
lexes (number s) = token (number s) ∷ []
lexes (boolean b) = token (boolean b) ∷ []
lexes null = token null ∷ []
lexes bad = []

lex-text : (t : Token) (r : List ℕ) → IsPrintable t → (ends t ≡ true → ends_word r ≡ true) → lex between (token_text t ++ r) ≡ lexes t ++ lex between r
unfolding lex word
lex-text begin_object r h ended = refl
lex-text end_object r h ended = refl
lex-text begin_array r h ended = refl
lex-text end_array r h ended = refl
lex-text (key s) r h ended = ap (lex between) (append_assoc (quoted s) (58 ∷ []) r) ∙ lex-quoted s (58 ∷ r)
lex-text (string s) r h ended = lex-quoted s r
lex-text (number s) r h ended = lex-number s r h (ended refl)
lex-text (boolean true) r h ended = ap₂ (λ b l. token (cond b (boolean true) bad) ∷ l) (ended refl) (in_word-ended r (ended refl))
lex-text (boolean false) r h ended = ap₂ (λ b l. token (cond b (boolean false) bad) ∷ l) (ended refl) (in_word-ended r (ended refl))
lex-text null r h ended = ap₂ (λ b l. token (cond b null bad) ∷ l) (ended refl) (in_word-ended r (ended refl))
lex-text bad r h ended = absurd h

lex-separator : (b : Bool) (r : List ℕ) → lex between (cond b (44 ∷ []) [] ++ r) ≡ cond b (comma ∷ []) [] ++ lex between r
unfolding lex
lex-separator true r = refl
lex-separator false r = refl

value-ends : (depth : ℕ) (ts : List Token) (r : List ℕ) → ends_word r ≡ true → ends_word (pretty_from (value, depth) ts ++ r) ≡ true
unfolding pretty_from
value-ends depth [] r e = e
value-ends depth (begin_object ∷ ts) r e = refl
value-ends depth (end_object ∷ ts) r e = refl
value-ends depth (begin_array ∷ ts) r e = refl
value-ends depth (end_array ∷ ts) r e = refl
value-ends depth (key s ∷ ts) r e = refl
value-ends depth (string s ∷ ts) r e = refl
value-ends depth (number s ∷ ts) r e = refl
value-ends depth (boolean b ∷ ts) r e = refl
value-ends depth (null ∷ ts) r e = refl
value-ends depth (bad ∷ ts) r e = refl

ended : (t : Token) (depth : ℕ) (ts : List Token) (r : List ℕ) → ends_word r ≡ true → ends t ≡ true → ends_word (pretty_from (after t depth) ts ++ r) ≡ true
ended begin_object depth ts r e h = absurd (true≢false (sym h))
ended end_object depth ts r e h = value-ends depth ts r e
ended begin_array depth ts r e h = absurd (true≢false (sym h))
ended end_array depth ts r e h = value-ends depth ts r e
ended (key s) depth ts r e h = absurd (true≢false (sym h))
ended (string s) depth ts r e h = value-ends depth ts r e
ended (number s) depth ts r e h = value-ends depth ts r e
ended (boolean b) depth ts r e h = value-ends depth ts r e
ended null depth ts r e h = value-ends depth ts r e
ended bad depth ts r e h = value-ends depth ts r e

lex-piece : (s : Last × ℕ) (t : Token) (r : List ℕ) → IsPrintable t → (ends t ≡ true → ends_word r ≡ true)
    → lex between (piece s t ++ r) ≡ cond (is_value s.0 && begins t) (comma ∷ []) [] ++ (lexes t ++ lex between r)
lex-piece s t r h e =
    let g = gap s.0 (begins t) (depth_at s.1 t) in
    ap (lex between) (append_assoc (separator (is_value s.0) t) _ r ∙ ap (λ l. separator (is_value s.0) t ++ l) (append_assoc g (token_text t) r))
    ∙ lex-separator (is_value s.0 && begins t) _
    ∙ ap (λ l. cond (is_value s.0 && begins t) (comma ∷ []) [] ++ l)
    (lex-gap g _ (gap-is s.0 (begins t) (depth_at s.1 t)) ∙ lex-text t r h e)

alike : (s : Last × ℕ) (ts : List Token) (q r : List ℕ) → ArePrintable ts → ends_word q ≡ true → ends_word r ≡ true → lex between q ≡ lex between r
    → lex between (pretty_from s ts ++ q) ≡ lex between (pretty_from s ts ++ r)
unfolding pretty_from ArePrintable
alike s [] q r h e f same = same
alike s (t ∷ ts) q r h e f same =
    let rest = pretty_from (step s t) ts in
    ap (lex between) (append_assoc (piece s t) rest q) ∙ lex-piece s t (rest ++ q) h.0 (ended t (depth_at s.1 t) ts q e)
    ∙ ap (λ ls. cond (is_value s.0 && begins t) (comma ∷ []) [] ++ (lexes t ++ ls)) (alike (step s t) ts q r h.1 e f same)
    ∙ sym (ap (lex between) (append_assoc (piece s t) rest r) ∙ lex-piece s t (rest ++ r) h.0 (ended t (depth_at s.1 t) ts r f))

pub tokens_line : (ts : List Token) → ArePrintable ts → tokens (pretty ts ++ 10 ∷ []) ≡ ts
unfolding lex
tokens_line ts h =
    ap (punctuate fresh) (alike (nothing, 0) ts (10 ∷ []) [] h refl refl refl) ∙ ap tokens (append-nil (pretty ts)) ∙ tokens-pretty ts h
