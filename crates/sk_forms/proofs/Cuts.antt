-- A text is cut into its words, one after the other.
use Rattle.std.proofs.Common.{◌≡◌, ◌<◌, arith, sym, refl, ℕ, List, [], ◌∷◌, length, take, drop, get_or, true, false, length-take}
use Rattle.std.proofs.Math.Seq.{drop-cons}
use Rattle.sk_forms.specs.Words.{goes_on, begun, is_blank, begins_blank, words_behind}

-- a blank parts words alone
pub blank_parts : (byte : ℕ) (rest : List ℕ) → is_blank byte ≡ true → words_behind [] (byte ∷ rest) ≡ words_behind [] rest
unfolding goes_on begun
blank_parts byte rest t = rw t refl

-- a byte that is no blank begins a word
pub byte_begins : (byte : ℕ) (rest : List ℕ) → is_blank byte ≡ false → words_behind [] (byte ∷ rest) ≡ words_behind (byte ∷ []) rest
unfolding goes_on begun
byte_begins byte rest f = rw f refl

-- a word ends where it doesn't
pub word_ends : (word : List ℕ) (byte : ℕ) (rest : List ℕ) → 0 < length word → goes_on word byte ≡ false
    → words_behind word (byte ∷ rest) ≡ word ∷ words_behind [] (byte ∷ rest)
unfolding goes_on
word_ends [] byte rest some f = absurd (omega arith)
word_ends (first ∷ more) byte rest some f = rw f refl

pub word_begins : (line : List ℕ) → 0 < length line → begins_blank line ≡ false → words_behind (take 1 line) (drop 1 line) ≡ words_behind [] line
word_begins [] some f = absurd (omega arith)
word_begins (byte ∷ rest) some f = sym (byte_begins byte rest f)

pub word_stops : (line : List ℕ) (end : ℕ) → 0 < end → end < length line → goes_on (take end line) (get_or line end 0) ≡ false
    → words_behind (take end line) (drop end line) ≡ take end line ∷ words_behind [] (drop end line)
word_stops line end some within f =
    rw (drop-cons line end 0 within) (word_ends (take end line) (get_or line end 0) _ (let len = length-take end line in omega (arith, len)) f)
