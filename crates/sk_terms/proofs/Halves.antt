-- The words of a record are halves of its registers.
use Rattle.std.proofs.Common.{◌≡◌, ℕ, zero, suc, ◌+◌, ◌-◌, ◌*◌, ◌/◌, ◌%◌, ◌^◌, ◌==◌, ◌<◌, ◌≤◌, ◌≢◌, not, nat_lt, List, [], ◌∷◌, ◌++◌, drop, Some, slice_index_or, sym, subst, ap, ◌∙◌, refl, inl, inr, arith}
use Rattle.std.specs.Prelude.{flat_map}
use Rattle.std.specs.Int.{bytes_low_first}
use Rattle.std.proofs.Math.Seq.{drop-nil}
use Rattle.std.proofs.lemmas.List.{drop-drop}
use Rattle.std.proofs.lemmas.Bool.{cases_Bool, le-leb, eqb-true, eqb-false, ltb-true, ltb-false}
use Rattle.byteorder.specs.Endian.{little_number, little_bytes}
use Rattle.byteorder.specs.Numbers.{little_from-bytes}
use Rattle.sk_insn.specs.declared.record.Record.{Record}
use Rattle.sk_insn.specs.Record.{record_bytes, word_of}
use Rattle.sk_insn.proofs.RecordWords.{word_of_number}
use Rattle.sk_terms.specs.Terms.{half_of, register_at}

low_half : (x : ℕ) (rest : List ℕ) → little_number 4 (little_bytes 8 x ++ rest) ≡ x % 2 ^ 32
low_half x rest = little_from-bytes 4 0 x (bytes_low_first 4 4 x ++ rest) ∙ omega arith

high_half : (x : ℕ) (rest : List ℕ) → little_number 4 (drop 4 (little_bytes 8 x ++ rest)) ≡ x / 2 ^ 32 % 2 ^ 32
high_half x rest = little_from-bytes 4 4 x rest

-- behind as many whole numbers; a number that is not there is 0
low_of : (numbers : List ℕ) (i : ℕ) → little_number 4 (drop (8 * i) (flat_map (little_bytes 8) numbers)) ≡ slice_index_or numbers i 0 % 2 ^ 32
low_of [] i = ap (little_number 4) (drop-nil (8 * i))
low_of (x ∷ numbers) zero = low_half x (flat_map (little_bytes 8) numbers)
low_of (x ∷ numbers) (suc i) =
    let next : 8 * suc i ≡ 8 + 8 * i = omega arith in
    ap (λ k. little_number 4 (drop k (flat_map (little_bytes 8) (x ∷ numbers)))) next
    ∙ ap (little_number 4) (sym (drop-drop (8 * i) 8 (flat_map (little_bytes 8) (x ∷ numbers))))
    ∙ low_of numbers i

high_of : (numbers : List ℕ) (i : ℕ) → little_number 4 (drop (8 * i + 4) (flat_map (little_bytes 8) numbers)) ≡ slice_index_or numbers i 0 / 2 ^ 32 % 2 ^ 32
high_of [] i = ap (little_number 4) (drop-nil (8 * i + 4))
high_of (x ∷ numbers) zero = high_half x (flat_map (little_bytes 8) numbers)
high_of (x ∷ numbers) (suc i) =
    let next : 8 * suc i + 4 ≡ 8 + (8 * i + 4) = omega arith in
    ap (λ k. little_number 4 (drop k (flat_map (little_bytes 8) (x ∷ numbers)))) next
    ∙ ap (little_number 4) (sym (drop-drop (8 * i + 4) 8 (flat_map (little_bytes 8) (x ∷ numbers))))
    ∙ high_of numbers i

word_at : (call : Record) (k word : ℕ) → k + 4 ≤ 64 → little_number 4 (drop k (record_bytes call)) ≡ word → word_of call k ≡ Some word
word_at call k word inside e = let t = le-leb (k + 4) 64 inside in rw (t, e) refl

pub pointer_low : (call : Record) → word_of call 8 ≡ Some (call.ip % 2 ^ 32)
pointer_low call = word_at call 8 (call.ip % 2 ^ 32) (omega arith) (low_half call.ip (flat_map (little_bytes 8) call.args))

pub pointer_high : (call : Record) → word_of call 12 ≡ Some (call.ip / 2 ^ 32 % 2 ^ 32)
pointer_high call = word_at call 12 (call.ip / 2 ^ 32 % 2 ^ 32) (omega arith) (high_half call.ip (flat_map (little_bytes 8) call.args))

pub argument_low : (call : Record) (i k : ℕ) → k ≡ 16 + 8 * i → k < 64 → word_of call k ≡ Some (slice_index_or call.args i 0 % 2 ^ 32)
argument_low call i k e below =
    word_at call k _ (omega (arith, e, below))
    (ap (λ k. little_number 4 (drop k (record_bytes call))) e
    ∙ ap (little_number 4) (sym (drop-drop (8 * i) 16 (record_bytes call)))
    ∙ low_of call.args i)

pub argument_high : (call : Record) (i k : ℕ) → k ≡ 16 + (8 * i + 4) → k < 64 → word_of call k ≡ Some (slice_index_or call.args i 0 / 2 ^ 32 % 2 ^ 32)
argument_high call i k e below =
    word_at call k _ (omega (arith, e, below))
    (ap (λ k. little_number 4 (drop k (record_bytes call))) e
    ∙ ap (little_number 4) (sym (drop-drop (8 * i + 4) 16 (record_bytes call)))
    ∙ high_of call.args i)

-- the word at a place is half of the register there
abbrev IsHalf : Record → ℕ → Type 0
IsHalf call k = word_of call k ≡ Some (half_of (record { register = register_at k; high = not (k % 8 == 0) }) call)

pub half_there : (place : ℕ) → place % 4 ≡ 0 → place < 64 → place ≢ 4 → (call : Record)
    → word_of call place ≡ Some (half_of (record { register = register_at place; high = not (place % 8 == 0) }) call)
half_there place aligned below apart call = elim (cases_Bool (place == 0)) [
  | inl none ↦ subst (IsHalf call) (sym (eqb-true place 0 none)) (word_of_number call)
  | inr some ↦
      let above = eqb-false place 0 some in
      elim (cases_Bool (nat_lt place 16)) [
        | inl early ↦
            let under = ltb-true place 16 early in
            elim (cases_Bool (place % 8 == 0)) [
              | inl even ↦ let r = eqb-true (place % 8) 0 even in let e : place ≡ 8 = omega (arith, aligned, above, under, r) in subst (IsHalf call) (sym e) (pointer_low call)
              | inr odd ↦ let r = eqb-false (place % 8) 0 odd in let e : place ≡ 12 = omega (arith, aligned, above, under, r, apart) in subst (IsHalf call) (sym e) (pointer_high call)
            ]
        | inr late ↦
            let over = ltb-false place 16 late in
            elim (cases_Bool (place % 8 == 0)) [
              | inl even ↦
                  let r = eqb-true (place % 8) 0 even in
                  let e : place ≡ 16 + 8 * (place / 8 - 2) = omega (arith, over, r) in
                  rw (some, late, even) (argument_low call (place / 8 - 2) place e below)
              | inr odd ↦
                  let r = eqb-false (place % 8) 0 odd in
                  let e : place ≡ 16 + (8 * (place / 8 - 2) + 4) = omega (arith, aligned, over, r) in
                  rw (some, late, odd) (argument_high call (place / 8 - 2) place e below)
            ]
      ]
]
