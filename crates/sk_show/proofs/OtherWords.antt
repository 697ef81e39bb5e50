-- The words of a call with another number, instruction pointer or argument.
use Rattle.std.proofs.Common.{◌≡◌, ℕ, ◌-◌, ◌/◌, ◌%◌, ◌^◌, ◌==◌, ◌<◌, ◌≤◌, ◌⊎◌, if◌then◌else◌, length, Some, slice_index_or, set, length-set, sym, ap, subst, ◌∙◌, inl, inr, arith}
use Rattle.std.proofs.lemmas.Bool.{cases_eq, cases_lt, eq-eqb, ne_eqb}
use Rattle.std.proofs.lemmas.List.{get_or-set_same, get_or-set_other}
use Rattle.sk_insn.specs.declared.record.Record.{Record}
use Rattle.sk_insn.specs.Record.{word_of}
use Rattle.sk_insn.proofs.RecordWords.{word_of_number, word_of_architecture, word_of_pointer, word_of_argument}
use Rattle.sk_show.specs.Origins.{HasWord, with_half}

-- the half of a number at a word of the record
abbrev half : ℕ → ℕ → ℕ
half number k = if k % 8 == 0 then number % 2 ^ 32 else number / 2 ^ 32 % 2 ^ 32

at_place : (other call : Record) (place word k : ℕ) → k ≡ place → word_of other k ≡ Some word
    → word_of other k ≡ (if k == place then Some word else word_of call k)
at_place other call place word k same is = is ∙ sym (ap (λ b. if b then Some word else word_of call k) (eq-eqb k place same))

elsewhere : (other call : Record) (place word k : ℕ) → (k ≡ place → ⊥) → word_of other k ≡ word_of call k
    → word_of other k ≡ (if k == place then Some word else word_of call k)
elsewhere other call place word k apart is = is ∙ sym (ap (λ b. if b then Some word else word_of call k) (ne_eqb k place apart))

-- the word at a place by what the place is of
by_place : (P : ℕ → Type 0) → P 0 → P 4 → ((k : ℕ) → k % 4 ≡ 0 → 8 ≤ k → k < 16 → P k) → ((k : ℕ) → k % 4 ≡ 0 → 16 ≤ k → k < 64 → P k)
    → (k : ℕ) → k % 4 ≡ 0 → k < 64 → P k
by_place P number architecture pointer argument k aligned inside = elim (cases_eq k 0) [
  | inl zero ↦ subst P (sym zero) number
  | inr some ↦ elim (cases_eq k 4) [
    | inl four ↦ subst P (sym four) architecture
    | inr apart ↦ elim (cases_lt k 16) [
      | inl below ↦ pointer k aligned (omega arith) below
      | inr above ↦ argument k aligned above inside
    ]
  ]
]

pub number_word : (call : Record) (word : ℕ) → word < 2 ^ 32 → length call.args ≡ 6 → HasWord call 0 word (record call { nr = word })
number_word call word fits six =
    let other : Record = record call { nr = word } in
    by_place (λ k. word_of other k ≡ (if k == 0 then Some word else word_of call k))
    (word_of_number other ∙ ap Some (let e : word % 2 ^ 32 ≡ word = omega arith in e))
    (word_of_architecture other ∙ sym (word_of_architecture call))
    (λ k aligned above below. elsewhere other call 0 word k (λ e. omega arith)
    (word_of_pointer other k aligned above below ∙ sym (word_of_pointer call k aligned above below)))
    (λ k aligned above below. elsewhere other call 0 word k (λ e. omega arith)
    (word_of_argument other k aligned above below six ∙ sym (word_of_argument call k aligned above below six)))

-- the halves of a number with another half
half_here : (number place word : ℕ) → word < 2 ^ 32 → place % 4 ≡ 0 → half (with_half number place word) place ≡ word
half_here number place word fits aligned = elim (cases_eq (place % 8) 0) [
  | inl even ↦ rw (eq-eqb (place % 8) 0 even) (omega arith)
  | inr odd ↦ rw (ne_eqb (place % 8) 0 odd) (omega arith)
]

-- the other half, at a word which is odd where this one is even
half_there : (number place k word : ℕ) → word < 2 ^ 32 → number < 2 ^ 64 → place % 4 ≡ 0 → k % 4 ≡ 0 → (k % 8 ≡ place % 8 → ⊥)
    → half (with_half number place word) k ≡ half number k
half_there number place k word fits fits' aligned aligned' apart = elim (cases_eq (place % 8) 0) [
  | inl even ↦ rw (eq-eqb (place % 8) 0 even, ne_eqb (k % 8) 0 (λ e. apart (e ∙ sym even))) (omega arith)
  | inr odd ↦ let e : k % 8 ≡ 0 = omega arith in rw (ne_eqb (place % 8) 0 odd, eq-eqb (k % 8) 0 e) (omega arith)
]

pub pointer_word : (call : Record) (place word : ℕ) → (place ≡ 8) ⊎ (place ≡ 12) → word < 2 ^ 32 → call.ip < 2 ^ 64 → length call.args ≡ 6
    → HasWord call place word (record call { ip = with_half call.ip place word })
pointer_word call place word where_from fits fits' six =
    let other : Record = record call { ip = with_half call.ip place word } in
    let aligned_place : place % 4 ≡ 0 = elim where_from [ inl e ↦ omega arith | inr e ↦ omega arith ] in
    let above_place : 8 ≤ place = elim where_from [ inl e ↦ omega arith | inr e ↦ omega arith ] in
    let below_place : place < 16 = elim where_from [ inl e ↦ omega arith | inr e ↦ omega arith ] in
    by_place (λ k. word_of other k ≡ (if k == place then Some word else word_of call k))
    (elsewhere other call place word 0 (λ e. omega arith) (word_of_number other ∙ sym (word_of_number call)))
    (elsewhere other call place word 4 (λ e. omega arith) (word_of_architecture other ∙ sym (word_of_architecture call)))
    (λ k aligned above below. elim (cases_eq k place) [
      | inl same ↦ at_place other call place word k same
          (word_of_pointer other k aligned above below
          ∙ ap Some (subst (λ n. half (with_half call.ip place word) n ≡ word) (sym same) (half_here call.ip place word fits aligned_place)))
      | inr apart ↦ elsewhere other call place word k apart
          (word_of_pointer other k aligned above below
          ∙ ap Some (half_there call.ip place k word fits fits' aligned_place aligned (λ e. apart (omega arith)))
          ∙ sym (word_of_pointer call k aligned above below))
    ])
    (λ k aligned above below. elsewhere other call place word k (λ e. omega arith)
    (word_of_argument other k aligned above below six ∙ sym (word_of_argument call k aligned above below six)))

pub argument_word : (call : Record) (place word n : ℕ) → place % 4 ≡ 0 → 16 ≤ place → place < 64 → n ≡ (place - 16) / 8 → word < 2 ^ 32
    → slice_index_or call.args n 0 < 2 ^ 64 → length call.args ≡ 6
    → HasWord call place word (record call { args = set call.args n (with_half (slice_index_or call.args n 0) place word) })
argument_word call place word n aligned_place above_place below_place is fits fits' six =
    let args = set call.args n (with_half (slice_index_or call.args n 0) place word) in
    let other : Record = record call { args = args } in
    let six' : length args ≡ 6 = length-set call.args n (with_half (slice_index_or call.args n 0) place word) ∙ six in
    let inside : n < length call.args = omega arith in
    let here : slice_index_or args n 0 ≡ with_half (slice_index_or call.args n 0) place word =
    get_or-set_same call.args n (with_half (slice_index_or call.args n 0) place word) 0 inside in
    by_place (λ k. word_of other k ≡ (if k == place then Some word else word_of call k))
    (elsewhere other call place word 0 (λ e. omega arith) (word_of_number other ∙ sym (word_of_number call)))
    (elsewhere other call place word 4 (λ e. omega arith) (word_of_architecture other ∙ sym (word_of_architecture call)))
    (λ k aligned above below. elsewhere other call place word k (λ e. omega arith)
    (word_of_pointer other k aligned above below ∙ sym (word_of_pointer call k aligned above below)))
    (λ k aligned above below. elim (cases_eq ((k - 16) / 8) n) [
      | inl same ↦ elim (cases_eq k place) [
        | inl same_place ↦ at_place other call place word k same_place
            (word_of_argument other k aligned above below six'
            ∙ ap (λ m. Some (half (slice_index_or args m 0) k)) same
            ∙ ap (λ number. Some (half number k)) here
            ∙ ap Some (subst (λ m. half (with_half (slice_index_or call.args n 0) place word) m ≡ word) (sym same_place) (half_here (slice_index_or call.args n 0) place word fits aligned_place)))
        | inr apart ↦ elsewhere other call place word k apart
            (word_of_argument other k aligned above below six'
            ∙ ap (λ m. Some (half (slice_index_or args m 0) k)) same
            ∙ ap (λ number. Some (half number k)) here
            ∙ ap Some (half_there (slice_index_or call.args n 0) place k word fits fits' aligned_place aligned (λ e. apart (omega arith)))
            ∙ sym (ap (λ m. Some (half (slice_index_or call.args m 0) k)) same)
            ∙ sym (word_of_argument call k aligned above below six))
      ]
      | inr apart ↦ elsewhere other call place word k (λ e. apart (omega arith))
          (word_of_argument other k aligned above below six'
          ∙ ap (λ number. Some (half number k)) (get_or-set_other call.args n ((k - 16) / 8) (with_half (slice_index_or call.args n 0) place word) 0 apart)
          ∙ sym (word_of_argument call k aligned above below six))
    ])
