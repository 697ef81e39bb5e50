-- Constants that are read as their numbers: where two names are the same, so are their numbers, by computation on the table.
use Rattle.std.proofs.Common.{◌≡◌, ℕ, zero, suc, ◌+◌, ◌*◌, ◌==◌, ◌&&◌, ◌<◌, List, [], ◌∷◌, get_or, map, length, Bool, true, cond, Option, Some, None, slice_get, position, arith, rules, ap, refl, sym, ◌∙◌}
use Rattle.std.specs.Option.{option_and_then}
use Rattle.std.specs.Str.{bytes_eq}
use Rattle.std.proofs.lemmas.Option.{get_or_from_slice_get, slice_get-get_or, slice_get_within}
use Rattle.sk_names.proofs.Places.{at, is_at, nowhere}
use Rattle.sk_arguments.proofs.Following.{both}
use Rattle.sk_arguments.specs.Constants.{all_names, all_numbers, number_of_constant}

-- ---- names as numbers, which compare at once

abbrev code : List ℕ → ℕ
code [] = 0
code (byte ∷ bytes) = byte + 256 * code bytes

-- the numbers of this code behind it are this number
abbrev same : ℕ → ℕ → List ℕ → List ℕ → Bool
same c n [] numbers = true
same c n (d ∷ codes) [] = true
same c n (d ∷ codes) (m ∷ numbers) = cond (d == c) (m == n) true && same c n codes numbers

abbrev agree : List ℕ → List ℕ → Bool
agree [] numbers = true
agree (c ∷ codes) [] = true
agree (c ∷ codes) (n ∷ numbers) = same c n codes numbers && agree codes numbers

same_here : (c d n m : ℕ) → cond (d == c) (m == n) true ≡ true → d ≡ c → m ≡ n
same_here c d n m h e = search (rules, h, e)

same_at : (c n : ℕ) (codes numbers : List ℕ) (k : ℕ) → same c n codes numbers ≡ true → k < length codes → k < length numbers
    → get_or codes k 0 ≡ c → get_or numbers k 0 ≡ n
same_at c n [] numbers k h less less' e = absurd (omega (arith, less))
same_at c n (d ∷ codes) [] k h less less' e = absurd (omega (arith, less'))
same_at c n (d ∷ codes) (m ∷ numbers) zero h less less' e = same_here c d n m (both (cond (d == c) (m == n) true) (same c n codes numbers) h).0 e
same_at c n (d ∷ codes) (m ∷ numbers) (suc k) h less less' e =
    same_at c n codes numbers k (both (cond (d == c) (m == n) true) (same c n codes numbers) h).1 (omega (arith, less)) (omega (arith, less')) e

agree_at : (codes numbers : List ℕ) (j k : ℕ) → agree codes numbers ≡ true → length codes ≡ length numbers → j < length codes → k < length codes
    → get_or codes j 0 ≡ get_or codes k 0 → get_or numbers j 0 ≡ get_or numbers k 0
agree_at [] numbers j k h long less less' e = absurd (omega (arith, less))
agree_at (c ∷ codes) [] j k h long less less' e = absurd (omega (arith, less, long))
agree_at (c ∷ codes) (n ∷ numbers) zero zero h long less less' e = refl
agree_at (c ∷ codes) (n ∷ numbers) zero (suc k) h long less less' e =
    sym (same_at c n codes numbers k (both (same c n codes numbers) (agree codes numbers) h).0 (omega (arith, less')) (omega (arith, less', long)) (sym e))
agree_at (c ∷ codes) (n ∷ numbers) (suc j) zero h long less less' e =
    same_at c n codes numbers j (both (same c n codes numbers) (agree codes numbers) h).0 (omega (arith, less)) (omega (arith, less, long)) e
agree_at (c ∷ codes) (n ∷ numbers) (suc j) (suc k) h long less less' e =
    agree_at codes numbers j k (both (same c n codes numbers) (agree codes numbers) h).1 (omega (arith, long)) (omega (arith, less)) (omega (arith, less')) e

-- ---- the number of a name

code_at : (names : List (List ℕ)) (k : ℕ) (name : List ℕ) → slice_get names k ≡ Some name → get_or (map code names) k 0 ≡ code name
code_at names k name is = coded names k (slice_get_within names k name is) ∙ ap code (get_or_from_slice_get names k name [] is)
  where
    coded : (names : List (List ℕ)) (k : ℕ) → k < length names → get_or (map code names) k 0 ≡ code (get_or names k [])
    coded [] k less = absurd (omega (arith, less))
    coded (name ∷ names) zero less = refl
    coded (name ∷ names) (suc k) less = coded names k (omega (arith, less))

coded_long : (names : List (List ℕ)) → length (map code names) ≡ length names
coded_long [] = refl
coded_long (name ∷ names) = ap suc (coded_long names)

by_option : {X : Type 0} (o : Option X) (P : Type 0) → (o ≡ None → P) → ((x : X) → o ≡ Some x → P) → P
by_option None P none some = none refl
by_option (Some x) P none some = some x refl

is_read : (names : List (List ℕ)) (numbers : List ℕ) → agree (map code names) numbers ≡ true → length names ≡ length numbers
    → (place number : ℕ) (name : List ℕ) → slice_get numbers place ≡ Some number → slice_get names place ≡ Some name
    → option_and_then (slice_get numbers) (position (λ other. bytes_eq other name) names) ≡ Some number
is_read names numbers all long place number name is named =
    by_option (at names name) (option_and_then (slice_get numbers) (at names name) ≡ Some number)
    (λ none. absurd (nowhere names name none place named))
    (λ k there.
    let first = is_at names name k there in
    let long' : length (map code names) ≡ length numbers = coded_long names ∙ long in
    let low = slice_get_within names place name named in
    let numbered : get_or numbers k 0 ≡ get_or numbers place 0 =
    agree_at (map code names) numbers k place all long' (rw (coded_long names) first.0) (rw (coded_long names) low) (code_at names k name first.1 ∙ sym (code_at names place name named)) in
    ap (option_and_then (slice_get numbers)) there
    ∙ slice_get-get_or numbers k 0 (rw (sym long) first.0)
    ∙ ap Some (numbered ∙ get_or_from_slice_get numbers place number 0 is))

-- ---- the table

pub as_long : length all_names ≡ length all_numbers
unfolding all_names all_numbers
as_long = refl

all_agree : agree (map code all_names) all_numbers ≡ true
unfolding all_names all_numbers
all_agree = refl

pub all_read : (place number : ℕ) (name : List ℕ) → slice_get all_numbers place ≡ Some number → slice_get all_names place ≡ Some name → number_of_constant name ≡ Some number
unfolding number_of_constant
all_read = is_read all_names all_numbers all_agree as_long
