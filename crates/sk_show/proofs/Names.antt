-- The labels of places: words that the assembler takes for labels, another one for each place.
use Rattle.std.proofs.Common.{◌≡◌, ◌≢◌, ◌<◌, ◌≤◌, ◌+◌, ◌-◌, ◌%◌, ◌^◌, ◌∙◌, ap, arith, refl, ℕ, List, [], ◌∷◌, ◌++◌, Bool, true, false, length, take, drop, codes, inl, inr, length-append, Option, Some}
use Rattle.std.proofs.Math.Seq.{take-append_seam, drop-append_seam}
use Rattle.std.proofs.lemmas.Bool.{and_from, cases_Bool, le-leb, lt-leb, lt-ltb}
use Rattle.std.proofs.lemmas.Fmt.{decimal_by_steps, decimal_injective, length-decimal-le}
use Rattle.std.proofs.lemmas.List.Folds.{list_all-append}
use Rattle.std.proofs.lemmas.Slice.Eq.{bytes_eq-Decides}
use Rattle.std.specs.Prelude.{nat_eq}
use Rattle.std.specs.Fmt.{decimal}
use Rattle.std.specs.Cmp.Lexicographic.{pointwise}
use Rattle.std.specs.List.{ends_with, list_all}
use Rattle.std.specs.Str.{bytes_eq}
use Rattle.sk_text.specs.Words.{is_letter, is_name, is_name_byte}
use Rattle.sk_asm.specs.Grammar.{Labelled, destination_of, label_of}
use Rattle.sk_asm.proofs.Words.{IsWord, is_visible}
use Rattle.sk_show.specs.Showing.{label_name}

-- ---- digits

-- what holds of the ten digits holds of all of a number
digits-pass : (test : ℕ → Bool) → ((d : ℕ) → d < 10 → test (48 + d) ≡ true) → (n : ℕ) → n < 2 ^ 64 → list_all test (decimal n) ≡ true
digits-pass test each n h =
    decimal_by_steps (λ m ds. list_all test ds ≡ true)
    (λ m small. and_from (test (48 + m)) true (each m small) refl)
    (λ m ds large so_far.
    list_all-append test ds ((48 + m % 10) ∷ [])
    ∙ and_from (list_all test ds) (list_all test ((48 + m % 10) ∷ [])) so_far
    (and_from (test (48 + m % 10)) true (each (m % 10) (omega arith)) refl))
    n h

name_digit : (d : ℕ) → d < 10 → is_name_byte (48 + d) ≡ true
unfolding is_letter is_name_byte
name_digit d h =
    let letter = lt-leb 97 (48 + d) (omega arith) in
    let low = le-leb 48 (48 + d) (omega arith) in
    let high = le-leb (48 + d) 57 (omega arith) in
    rw (letter, low, high) refl

visible_digit : (d : ℕ) → d < 10 → is_visible (48 + d) ≡ true
visible_digit d h =
    let low = lt-ltb 32 (48 + d) (omega arith) in
    let high = le-leb (48 + d) 126 (omega arith) in
    rw (low, high) refl

-- ---- labels

length-decimal : (place : ℕ) → place < 4096 → length (decimal place) ≤ 4
length-decimal place h = length-decimal-le 4 place (omega arith) (omega arith) (omega arith)

pub label-is_name : (place : ℕ) → place < 4096 → is_name (label_name place) ≡ true
unfolding is_letter is_name_byte is_name
label-is_name place h =
    let few = length-decimal place h in
    let short = lt-ltb (length (116 ∷ decimal place)) 32 (omega arith) in
    let all = digits-pass is_name_byte name_digit place (omega arith) in
    rw (short, all) refl

pub IsWord-label : (place : ℕ) → place < 4096 → IsWord (label_name place)
IsWord-label place h =
    let few = length-decimal place h in
    record { some = omega arith; short = omega arith; visible = digits-pass is_visible visible_digit place (omega arith) }

pub IsWord-label_line : (place : ℕ) → place < 4096 → IsWord (label_name place ++ codes ":")
IsWord-label_line place h =
    let few = length-decimal place h in
    let len = length-append (label_name place) (codes ":") in
    let word = IsWord-label place h in
    record {
      some = omega arith;
      short = omega arith;
      visible = list_all-append is_visible (label_name place) (codes ":") ∙ and_from (list_all is_visible (label_name place)) (list_all is_visible (codes ":")) word.visible refl;
    }

pub label_of-line : (place : ℕ) → place < 4096 → label_of (label_name place ++ codes ":") ≡ Some (label_name place)
unfolding label_of
label_of-line place h =
    let len : length (label_name place ++ codes ":") - 1 ≡ length (label_name place) =
    let all = length-append (label_name place) (codes ":") in omega arith
    in
    let front : take (length (label_name place ++ codes ":") - 1) (label_name place ++ codes ":") ≡ label_name place =
    ap (λ (n : ℕ). take n (label_name place ++ codes ":")) len ∙ take-append_seam (label_name place) (codes ":")
    in
    let back : drop (length (label_name place ++ codes ":") - 1) (label_name place ++ codes ":") ≡ codes ":" =
    ap (λ (n : ℕ). drop n (label_name place ++ codes ":")) len ∙ drop-append_seam (label_name place) (codes ":")
    in
    let ended : ends_with nat_eq (label_name place ++ codes ":") (codes ":") ≡ true = ap (pointwise nat_eq (codes ":")) back in
    let name = label-is_name place h in
    rw (ended, front, name) refl

pub destination_of-label : (number : List ℕ → Option ℕ) (place : ℕ) → place < 4096 → destination_of number (label_name place) ≡ Some (Labelled (label_name place))
unfolding destination_of
destination_of-label number place h = let name = label-is_name place h in rw name refl

-- ---- one label, one place

pub same_label : (place : ℕ) → bytes_eq (label_name place) (label_name place) ≡ true
same_label place = (bytes_eq-Decides (label_name place) (label_name place)).1 refl

pub other_label : (place other : ℕ) → place < 4096 → other < 4096 → place ≢ other → bytes_eq (label_name place) (label_name other) ≡ false
other_label place other near far h = elim (cases_Bool (bytes_eq (label_name place) (label_name other))) [
  | inl t ↦
      let same = (bytes_eq-Decides (label_name place) (label_name other)).0 t in
      let digits : decimal place ≡ decimal other = ap (drop 2) same in
      absurd (h (decimal_injective place other (omega arith) (omega arith) digits))
  | inr f ↦ f
]
