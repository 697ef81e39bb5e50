-- A chain that looks for the architecture where the number is answers by architectures.
use Rattle.std.proofs.Common.{◌≡◌, ℕ, zero, suc, ◌+◌, ◌-◌, ◌*◌, ◌/◌, ◌%◌, ◌^◌, ◌==◌, ◌≤◌, ◌<◌, nat_le, Bool, true, false, if◌then◌else◌, List, [], ◌∷◌, ◌++◌, map, drop, slice_index_or, Option, Some, None, inl, inr, refl, sym, ap, subst, ◌∙◌, arith}
use Rattle.std.specs.Prelude.{flat_map}
use Rattle.std.specs.Option.{unwrap_or}
use Rattle.std.specs.Int.{byte_at, bytes_low_first}
use Rattle.std.proofs.Math.Nat.{mod-lt}
use Rattle.std.proofs.lemmas.Bool.{cases_Bool, cases_lt, eq-eqb, eqb-true, eqb-false, le-leb, or_parts}
use Rattle.std.proofs.lemmas.List.{get_or-drop}
use Rattle.byteorder.specs.Endian.{little_bytes, little_number}
use Rattle.byteorder.specs.Numbers.{little_from-lt}
use Rattle.sk_insn.specs.declared.insn.Insn.{Insn}
use Rattle.sk_insn.specs.declared.record.Record.{Record}
use Rattle.sk_insn.specs.declared.operation.Operation.{Operation}
use Rattle.sk_insn.specs.declared.operation.Operation.TheVariants.{LoadRecord}
use Rattle.sk_insn.specs.Operations.{operation_of}
use Rattle.sk_insn.specs.Record.{record_bytes, word_of}
use Rattle.sk_insn.proofs.LittleEndian.{IsBytes}
use Rattle.sk_insn.proofs.RecordWords.{number_there, word_of_architecture, word_of_argument, word_of_number, word_of_pointer}
use Rattle.sk_filter.specs.Fits.{TakesConstant}
use Rattle.sk_filter.specs.Valid.{IsValid}
use Rattle.sk_filter.proofs.ValidPrograms.{valid_fits}
use Rattle.sk_filter.specs.Architectures.{loads_architecture}
use Rattle.sk_filter.specs.Meaning.{meaning_of}
use Rattle.sk_filter.specs.Chains.{AllValid}
use Rattle.sk_filter.specs.Verdict.{first_of, meaning_value, values_of}
use Rattle.sk_survey.specs.ByArchitecture.{ChainsByArchitecture, by_architecture, chain_loads, chain_with_number_at, loads_word, program_loads, with_number_at, with_words}
use Rattle.sk_survey.proofs.Meanings.{LoadsAlike, same_meaning, word_loaded}
use Rattle.sk_survey.proofs.Valid.{number_loads}
use Rattle.sk_survey.proofs.Words.{none_loads}

-- ---- a word of a record has 32 bits

bytes_append : (xs ys : List ℕ) → IsBytes xs → IsBytes ys → IsBytes (xs ++ ys)
bytes_append [] ys front back i = back i
bytes_append (x ∷ xs) ys front back zero = front 0
bytes_append (x ∷ xs) ys front back (suc i) = bytes_append xs ys (λ i. front (suc i)) back i

byte_fits : (i n : ℕ) → byte_at i n < 256
byte_fits zero n = mod-lt n (omega arith)
byte_fits (suc i) n = mod-lt (n / 256 ^ suc i) (omega arith)

bytes_little : (from count n : ℕ) → IsBytes (bytes_low_first from count n)
bytes_little from zero n i = omega arith
bytes_little from (suc count) n zero = byte_fits from n
bytes_little from (suc count) n (suc i) = bytes_little (suc from) count n i

bytes_flat : (numbers : List ℕ) → IsBytes (flat_map (little_bytes 8) numbers)
bytes_flat [] i = omega arith
bytes_flat (n ∷ numbers) i = bytes_append (little_bytes 8 n) (flat_map (little_bytes 8) numbers) (bytes_little 0 8 n) (bytes_flat numbers) i

bytes_record : (call : Record) → IsBytes (record_bytes call)
bytes_record call =
    let behind : List ℕ = little_bytes 8 call.ip ++ flat_map (little_bytes 8) call.args in
    bytes_append (little_bytes 4 call.nr) (little_bytes 4 call.arch ++ behind) (bytes_little 0 4 call.nr)
    (bytes_append (little_bytes 4 call.arch) behind (bytes_little 0 4 call.arch)
    (bytes_append (little_bytes 8 call.ip) (flat_map (little_bytes 8) call.args) (bytes_little 0 8 call.ip) (bytes_flat call.args)))

pub word_fits : (call : Record) (k : ℕ) → unwrap_or (word_of call k) 0 < 2 ^ 32
word_fits call k = by_test (nat_le (k + 4) 64) where
  bytes : List ℕ
  bytes = drop k (record_bytes call)

  by_test : (b : Bool) → unwrap_or (if b then Some (little_number 4 bytes) else None) 0 < 2 ^ 32
  by_test true = little_from-lt 0 4 bytes (λ i. rw get_or-drop (bytes_record call (k + i)))
  by_test false = omega arith

-- ---- the words of the call that is made

pub argument_of : (word : ℕ → ℕ) (i : ℕ) → i < 6
    → slice_index_or (map (λ at. word at + 2 ^ 32 * word (at + 4)) (16 ∷ 24 ∷ 32 ∷ 40 ∷ 48 ∷ 56 ∷ [])) i 0 ≡ word (16 + 8 * i) + 2 ^ 32 * word (16 + 8 * i + 4)
argument_of word zero inside = refl
argument_of word (suc zero) inside = refl
argument_of word (suc (suc zero)) inside = refl
argument_of word (suc (suc (suc zero))) inside = refl
argument_of word (suc (suc (suc (suc zero)))) inside = refl
argument_of word (suc (suc (suc (suc (suc zero))))) inside = refl
argument_of word (suc (suc (suc (suc (suc (suc i)))))) inside = absurd (omega (arith, inside))

pub lower : (n a b : ℕ) → n ≡ a + 2 ^ 32 * b → a < 2 ^ 32 → n % 2 ^ 32 ≡ a
lower n a b e fits = omega (arith, e, fits)

pub higher : (n a b : ℕ) → n ≡ a + 2 ^ 32 * b → a < 2 ^ 32 → b < 2 ^ 32 → n / 2 ^ 32 % 2 ^ 32 ≡ b
higher n a b e fits more = omega (arith, e, fits, more)

pointer_with : (nr : ℕ) (word : ℕ → ℕ) → ((at : ℕ) → word at < 2 ^ 32) → (k : ℕ) → k % 4 ≡ 0 → 8 ≤ k → k < 16 → word_of (with_words nr word) k ≡ Some (word k)
pointer_with nr word fits k aligned above below = elim (cases_Bool (k % 8 == 0)) [
  | inl even ↦
      let r = eqb-true (k % 8) 0 even in
      let e : k ≡ 8 = omega (arith, aligned, above, below, r) in
      subst (λ k. word_of (with_words nr word) k ≡ Some (word k)) (sym e)
      (word_of_pointer (with_words nr word) 8 refl (omega arith) (omega arith) ∙ ap Some (lower _ (word 8) (word 12) refl (fits 8)))
  | inr odd ↦
      let r = eqb-false (k % 8) 0 odd in
      let e : k ≡ 12 = omega (arith, aligned, above, below, r) in
      subst (λ k. word_of (with_words nr word) k ≡ Some (word k)) (sym e)
      (word_of_pointer (with_words nr word) 12 refl (omega arith) (omega arith) ∙ ap Some (higher _ (word 8) (word 12) refl (fits 8) (fits 12)))
]

argument_with : (nr : ℕ) (word : ℕ → ℕ) → ((at : ℕ) → word at < 2 ^ 32) → (k : ℕ) → k % 4 ≡ 0 → 16 ≤ k → k < 64 → word_of (with_words nr word) k ≡ Some (word k)
argument_with nr word fits k aligned above below =
    let i = (k - 16) / 8 in
    let inside : i < 6 = omega (arith, above, below) in
    let x = slice_index_or (with_words nr word).args i 0 in
    let value : x ≡ word (16 + 8 * i) + 2 ^ 32 * word (16 + 8 * i + 4) = argument_of word i inside in
    let whole = word_of_argument (with_words nr word) k aligned above below refl in elim (cases_Bool (k % 8 == 0)) [
      | inl even ↦
          let r = eqb-true (k % 8) 0 even in
          let e : 16 + 8 * i ≡ k = omega (arith, aligned, above, r) in
          whole ∙ ap (λ b. Some (if b then x % 2 ^ 32 else x / 2 ^ 32 % 2 ^ 32)) even
          ∙ ap Some (lower x (word (16 + 8 * i)) (word (16 + 8 * i + 4)) value (fits (16 + 8 * i)) ∙ ap word e)
      | inr odd ↦
          let r = eqb-false (k % 8) 0 odd in
          let e : 16 + 8 * i + 4 ≡ k = omega (arith, aligned, above, r) in
          whole ∙ ap (λ b. Some (if b then x % 2 ^ 32 else x / 2 ^ 32 % 2 ^ 32)) odd
          ∙ ap Some (higher x (word (16 + 8 * i)) (word (16 + 8 * i + 4)) value (fits (16 + 8 * i)) (fits (16 + 8 * i + 4)) ∙ ap word e)
    ]

word_with : (nr : ℕ) (word : ℕ → ℕ) → ((at : ℕ) → word at < 2 ^ 32) → (k : ℕ) → k % 4 ≡ 0 → 8 ≤ k → k < 64 → word_of (with_words nr word) k ≡ Some (word k)
word_with nr word fits k aligned above below = elim (cases_lt k 16) [
  | inl pointer ↦ pointer_with nr word fits k aligned above pointer
  | inr argument ↦ argument_with nr word fits k aligned argument below
]

abbrev word_there : ℕ → Record → ℕ → ℕ
word_there place call at = if at == place then call.nr else unwrap_or (word_of call at) 0

all_fit : (place : ℕ) (call : Record) → call.nr < 2 ^ 32 → (at : ℕ) → word_there place call at < 2 ^ 32
all_fit place call fits at = by_test (at == place) where
  by_test : (b : Bool) → (if b then call.nr else unwrap_or (word_of call at) 0) < 2 ^ 32
  by_test true = fits
  by_test false = word_fits call at

-- ---- each load

place_word : (place : ℕ) (call : Record) → call.nr < 2 ^ 32 → place % 4 ≡ 0 → 8 ≤ place → place < 64 → word_of (by_architecture place call) place ≡ Some call.nr
place_word place call fits aligned above below =
    let same = eq-eqb place place refl in
    word_with call.arch (word_there place call) (all_fit place call fits) place aligned above below
    ∙ ap (λ b. Some (if b then call.nr else unwrap_or (word_of call place) 0)) same

pub is_there : (call : Record) (k : ℕ) → k % 4 ≡ 0 → k < 64 → Some (unwrap_or (word_of call k) 0) ≡ word_of call k
is_there call k aligned below = let inside = le-leb (k + 4) 64 (omega (arith, aligned, below)) in rw inside refl

behind_word : (place : ℕ) (call : Record) → call.nr < 2 ^ 32 → (k : ℕ) → k % 4 ≡ 0 → 8 ≤ k → k < 64 → (k == place) ≡ false
    → word_of (by_architecture place call) k ≡ word_of call k
behind_word place call fits k aligned above below apart =
    word_with call.arch (word_there place call) (all_fit place call fits) k aligned above below
    ∙ ap (λ b. Some (if b then call.nr else unwrap_or (word_of call k) 0)) apart
    ∙ is_there call k aligned below

loads_at : (place : ℕ) (o : Option Operation) (insn : Insn) → o ≡ Some LoadRecord → loads_word place o insn ≡ (insn.k == place)
loads_at place o insn e = ap (λ o. loads_word place o insn) e

looks_at : (o : Option Operation) (insn : Insn) → o ≡ Some LoadRecord → loads_architecture o insn ≡ (insn.k == 4)
looks_at o insn e = ap (λ o. loads_architecture o insn) e

loads_alike : (place : ℕ) → place % 4 ≡ 0 → 8 ≤ place → place < 64 → (call : Record) → call.nr < 2 ^ 32 → call.arch < 2 ^ 32 → (insn : Insn)
    → TakesConstant (operation_of insn.code) insn → loads_word place (operation_of insn.code) insn ≡ false
    → LoadsAlike call (by_architecture place call) insn (with_number_at place insn)
loads_alike place aligned above below call nr_fits arch_fits insn takes apart is =
    by_test (loads_architecture (operation_of insn.code) insn) (loads_word 0 (operation_of insn.code) insn) refl refl where
      other : Record
      other = by_architecture place call

      there : (changed : Insn) → operation_of changed.code ≡ Some LoadRecord → word_loaded (operation_of changed.code) changed other ≡ word_of other changed.k
      there changed e = ap (λ o. word_loaded o changed other) e

      can : (insn.k % 4 ≡ 0) × (insn.k < 64)
      can = subst (λ o. TakesConstant o insn) is takes

      by_test : (b c : Bool) → loads_architecture (operation_of insn.code) insn ≡ b → loads_word 0 (operation_of insn.code) insn ≡ c
          → (λ (changed : Insn). word_loaded (operation_of changed.code) changed other)
          (if b then record insn { k = 0 } else if c then record insn { k = place } else insn) ≡ word_of call insn.k
      by_test true c looks first =
          let at : insn.k ≡ 4 = eqb-true insn.k 4 (sym (looks_at (operation_of insn.code) insn is) ∙ looks) in
          there (record insn { k = 0 }) is ∙ word_of_number other ∙ sym (word_of_architecture call) ∙ ap (word_of call) (sym at)
      by_test false true looks first =
          let at : insn.k ≡ 0 = eqb-true insn.k 0 (sym (loads_at 0 (operation_of insn.code) insn is) ∙ first) in
          there (record insn { k = place }) is ∙ place_word place call nr_fits aligned above below
          ∙ sym (number_there call nr_fits) ∙ ap (word_of call) (sym at)
      by_test false false looks first =
          let four = eqb-false insn.k 4 (sym (looks_at (operation_of insn.code) insn is) ∙ looks) in
          let zero_not = eqb-false insn.k 0 (sym (loads_at 0 (operation_of insn.code) insn is) ∙ first) in
          let place_not : (insn.k == place) ≡ false = sym (loads_at place (operation_of insn.code) insn is) ∙ apart in
          let c = can in
          there insn is ∙ behind_word place call nr_fits insn.k c.0 (omega (arith, c.0, four, zero_not)) c.1 place_not

-- ---- filters and chains

one_filter : (place : ℕ) → place % 4 ≡ 0 → 8 ≤ place → place < 64 → (call : Record) → call.nr < 2 ^ 32 → call.arch < 2 ^ 32
    → (insns : List Insn) → IsValid insns → program_loads place insns ≡ false
    → meaning_of (map (with_number_at place) insns) (by_architecture place call) ≡ meaning_of insns call
one_filter place aligned above below call nr_fits arch_fits insns valid none =
    same_meaning (with_number_at place) (number_loads place aligned below) call (by_architecture place call) insns
    (λ at insn here. loads_alike place aligned above below call nr_fits arch_fits insn (valid_fits insns valid at insn here).0
    (none_loads place insns none at insn here))

values_by : (programs : List (List Insn)) → AllValid programs → (place : ℕ) → place % 4 ≡ 0 → 8 ≤ place → place < 64
    → chain_loads place programs ≡ false → (call : Record) → call.nr < 2 ^ 32 → call.arch < 2 ^ 32
    → values_of (chain_with_number_at place programs) (by_architecture place call) ≡ values_of programs call
values_by [] valid place aligned above below none call nr_fits arch_fits = refl
values_by (newest ∷ older) valid place aligned above below none call nr_fits arch_fits =
    let split = or_parts (program_loads place newest) (chain_loads place older) none in
    let one = one_filter place aligned above below call nr_fits arch_fits newest valid.0 split.0 in
    let rest = values_by older valid.1 place aligned above below split.1 call nr_fits arch_fits in
    ap (λ meaning. meaning_value meaning ∷ values_of (chain_with_number_at place older) (by_architecture place call)) one
    ∙ ap (λ values. meaning_value (meaning_of newest call) ∷ values) rest

pub chains_by_architecture : ChainsByArchitecture
chains_by_architecture programs valid place is call nr_fits arch_fits =
    ap first_of (values_by programs valid place is.0.0 is.0.1 is.0.2 is.1 call nr_fits arch_fits)
