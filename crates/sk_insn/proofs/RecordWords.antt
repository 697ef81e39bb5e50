-- The words of a record's bytes are the halves of its numbers.
use Rattle.std.proofs.Common.{◌≡◌, ℕ, zero, suc, ◌+◌, ◌-◌, ◌*◌, ◌/◌, ◌%◌, ◌^◌, ◌==◌, ◌<◌, ◌≤◌, if◌then◌else◌, List, [], ◌∷◌, ◌++◌, length, drop, Some, slice_index_or, sym, subst, ap, ◌∙◌, refl, inl, inr, arith}
use Rattle.std.specs.Prelude.{flat_map}
use Rattle.std.specs.Int.{bytes_low_first}
use Rattle.std.proofs.lemmas.Bool.{cases_Bool, le-leb, eqb-true, eqb-false}
use Rattle.std.proofs.lemmas.List.{drop-drop}
use Rattle.byteorder.specs.Endian.{little_number, little_bytes}
use Rattle.byteorder.specs.Numbers.{little_from-bytes}
use Rattle.sk_insn.specs.declared.record.Record.{Record}
use Rattle.sk_insn.specs.Record.{architecture, record_bytes, word_of, IsNative}

low_half : (x : ℕ) (rest : List ℕ) → little_number 4 (little_bytes 8 x ++ rest) ≡ x % 2 ^ 32
low_half x rest = little_from-bytes 4 0 x (bytes_low_first 4 4 x ++ rest) ∙ omega arith

high_half : (x : ℕ) (rest : List ℕ) → little_number 4 (drop 4 (little_bytes 8 x ++ rest)) ≡ x / 2 ^ 32 % 2 ^ 32
high_half x rest = little_from-bytes 4 4 x rest

-- behind as many whole numbers
low_of : (numbers : List ℕ) (i : ℕ) → i < length numbers → little_number 4 (drop (8 * i) (flat_map (little_bytes 8) numbers)) ≡ slice_index_or numbers i 0 % 2 ^ 32
low_of [] i h = absurd (omega arith)
low_of (x ∷ numbers) zero h = low_half x (flat_map (little_bytes 8) numbers)
low_of (x ∷ numbers) (suc i) h =
    let next : 8 * suc i ≡ 8 + 8 * i = omega arith in
    ap (λ k. little_number 4 (drop k (flat_map (little_bytes 8) (x ∷ numbers)))) next
    ∙ ap (little_number 4) (sym (drop-drop (8 * i) 8 (flat_map (little_bytes 8) (x ∷ numbers))))
    ∙ low_of numbers i (omega arith)

high_of : (numbers : List ℕ) (i : ℕ) → i < length numbers → little_number 4 (drop (8 * i + 4) (flat_map (little_bytes 8) numbers)) ≡ slice_index_or numbers i 0 / 2 ^ 32 % 2 ^ 32
high_of [] i h = absurd (omega arith)
high_of (x ∷ numbers) zero h = high_half x (flat_map (little_bytes 8) numbers)
high_of (x ∷ numbers) (suc i) h =
    let next : 8 * suc i + 4 ≡ 8 + (8 * i + 4) = omega arith in
    ap (λ k. little_number 4 (drop k (flat_map (little_bytes 8) (x ∷ numbers)))) next
    ∙ ap (little_number 4) (sym (drop-drop (8 * i + 4) 8 (flat_map (little_bytes 8) (x ∷ numbers))))
    ∙ high_of numbers i (omega arith)

word_at : (call : Record) (k word : ℕ) → k + 4 ≤ 64 → little_number 4 (drop k (record_bytes call)) ≡ word → word_of call k ≡ Some word
word_at call k word inside e = let t = le-leb (k + 4) 64 inside in rw (t, e) refl

-- the first word is the number, and the second the architecture
pub word_of_number : (call : Record) → word_of call 0 ≡ Some (call.nr % 2 ^ 32)
word_of_number call =
    ap Some (little_from-bytes 4 0 call.nr (little_bytes 4 call.arch ++ (little_bytes 8 call.ip ++ flat_map (little_bytes 8) call.args)) ∙ omega arith)

pub word_of_architecture : (call : Record) → word_of call 4 ≡ Some (call.arch % 2 ^ 32)
word_of_architecture call =
    ap Some (little_from-bytes 4 0 call.arch (little_bytes 8 call.ip ++ flat_map (little_bytes 8) call.args) ∙ omega arith)

-- a number that fits in its word, and the architecture of a call of x86-64
pub number_there : (call : Record) → call.nr < 2 ^ 32 → word_of call 0 ≡ Some call.nr
number_there call fits = word_of_number call ∙ ap Some (omega (arith, fits))

pub native_there : (call : Record) → IsNative call → word_of call 4 ≡ Some architecture
native_there call native = word_of_architecture call ∙ ap (λ arch. Some (arch % 2 ^ 32)) native

-- the half of a number at such a word
abbrev half : ℕ → ℕ → ℕ
half number k = if k % 8 == 0 then number % 2 ^ 32 else number / 2 ^ 32 % 2 ^ 32

pub word_of_pointer : (call : Record) (k : ℕ) → k % 4 ≡ 0 → 8 ≤ k → k < 16 → word_of call k ≡ Some (half call.ip k)
word_of_pointer call k aligned above below = elim (cases_Bool (k % 8 == 0)) [
  | inl even ↦
      let r = eqb-true (k % 8) 0 even in
      let e : k ≡ 8 = omega (arith, aligned, above, below, r) in
      subst (λ k. word_of call k ≡ Some (half call.ip k)) (sym e) (word_at call 8 (call.ip % 2 ^ 32) (omega arith) (low_half call.ip (flat_map (little_bytes 8) call.args)))
  | inr odd ↦
      let r = eqb-false (k % 8) 0 odd in
      let e : k ≡ 12 = omega (arith, aligned, above, below, r) in
      subst (λ k. word_of call k ≡ Some (half call.ip k)) (sym e) (word_at call 12 (call.ip / 2 ^ 32 % 2 ^ 32) (omega arith) (high_half call.ip (flat_map (little_bytes 8) call.args)))
]

pub word_of_argument : (call : Record) (k : ℕ) → k % 4 ≡ 0 → 16 ≤ k → k < 64 → length call.args ≡ 6 → word_of call k ≡ Some (half (slice_index_or call.args ((k - 16) / 8) 0) k)
word_of_argument call k aligned above below six = elim (cases_Bool (k % 8 == 0)) [
  | inl even ↦
      let r = eqb-true (k % 8) 0 even in
      let i : (k - 16) / 8 < length call.args = omega (arith, above, below, six) in
      let e : k ≡ 16 + 8 * ((k - 16) / 8) = omega (arith, aligned, above, below, r) in
      word_at call k _ (omega (arith, aligned, below))
      (ap (λ k. little_number 4 (drop k (record_bytes call))) e
      ∙ ap (little_number 4) (sym (drop-drop (8 * ((k - 16) / 8)) 16 (record_bytes call)))
      ∙ low_of call.args ((k - 16) / 8) i
      ∙ rw even refl)
  | inr odd ↦
      let r = eqb-false (k % 8) 0 odd in
      let i : (k - 16) / 8 < length call.args = omega (arith, above, below, six) in
      let e : k ≡ 16 + (8 * ((k - 16) / 8) + 4) = omega (arith, aligned, above, below, r) in
      word_at call k _ (omega (arith, aligned, below))
      (ap (λ k. little_number 4 (drop k (record_bytes call))) e
      ∙ ap (little_number 4) (sym (drop-drop (8 * ((k - 16) / 8) + 4) 16 (record_bytes call)))
      ∙ high_of call.args ((k - 16) / 8) i
      ∙ rw odd refl)
]
