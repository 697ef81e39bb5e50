-- Each line of a listing says its instruction.
use Rattle.std.proofs.Common.{◌≡◌, ◌<◌, ◌≤◌, ◌^◌, ◌==◌, ◌&&◌, ◌∙◌, ap, arith, refl, subst, ℕ, List, [], ◌∷◌, length, codes, not, Bool, true, false, Option, Some, None, inl, inr}
use Rattle.std.proofs.lemmas.Bool.{and_parts, cases_Bool, eqb-true, leb-true, not-true}
use Rattle.std.specs.Prelude.{find, is_none, nat_le, slice_index}
use Rattle.std.specs.List.{join_with_byte, list_all}
use Rattle.std.specs.Str.{bytes_eq}
use Rattle.sk_text.specs.Lines.{begins_comment, has_bytes}
use Rattle.sk_insn.specs.Operations.{code_of, name_of, operation_of, operations}
use Rattle.sk_insn.specs.declared.insn.Insn.{Insn}
use Rattle.sk_insn.specs.declared.operation.Operation.{Operation}
use Rattle.sk_insn.proofs.OperationTable.{operation_named-name_of}
use Rattle.sk_asm.specs.Assembly.{SaysLine, StandFor}
use Rattle.sk_asm.specs.Grammar.{Statement, Plain, Jumps, Branches, Further, branching, insn, instruction_said, label_of, raw, returned_value, shape_of, shaped, spoken, statement_of}
use Rattle.sk_asm.specs.declared.shape.Shape.{Shape}
use Rattle.sk_asm.specs.declared.shape.Shape.TheVariants.{Bare, Number, Action, Target, Compare, CompareIndex}
use Rattle.sk_asm.specs.Listing.{distance_word, field_words, unused_are_zero, operands_of, word_digits, words_as, words_for}
use Rattle.sk_asm.specs.RoundTrip.{IsInRange}
use Rattle.sk_asm.proofs.Words.{AreWords, IsWord, is_visible, joined-printable, length-joined, words_of-joined}
use Rattle.sk_asm.proofs.Numerals.{IsWord-decimal, IsWord-distance, IsWord-half_digits, IsWord-word_digits, u8_of-decimal, far-distance, u16_of-digits, near-distance, u32_of-decimal, u32_of-digits}

-- ---- first words

-- a word that begins no comment and gives no label
is_first : List ℕ → Bool
is_first word =
    has_bytes word && (nat_le (length word) 11 && (list_all is_visible word && (not (slice_index word 0 == 59) && is_none (label_of word))))

record IsFirst (word : List ℕ) : Type 0 where
  is_word : IsWord word
  no_comment : (slice_index word 0 == 59) ≡ false
  no_label : label_of word ≡ None

has_bytes-some : (word : List ℕ) → has_bytes word ≡ true → 0 < length word
has_bytes-some [] h = cc
has_bytes-some (byte ∷ word) h = omega arith

is_none-None : {X : Type 0} (option : Option X) → is_none option ≡ true → option ≡ None
is_none-None None h = refl
is_none-None (Some x) h = cc

IsFirst-from : (word : List ℕ) → is_first word ≡ true → IsFirst word
unfolding is_first
IsFirst-from word h =
    let a = and_parts (has_bytes word) (nat_le (length word) 11 && (list_all is_visible word && (not (slice_index word 0 == 59) && is_none (label_of word)))) h in
    let b = and_parts (nat_le (length word) 11) (list_all is_visible word && (not (slice_index word 0 == 59) && is_none (label_of word))) a.1 in
    let c = and_parts (list_all is_visible word) (not (slice_index word 0 == 59) && is_none (label_of word)) b.1 in
    let d = and_parts (not (slice_index word 0 == 59)) (is_none (label_of word)) c.1 in
    record {
      is_word = record { some = has_bytes-some word a.0; short = leb-true (length word) 11 b.0; visible = c.0 };
      no_comment = not-true (slice_index word 0 == 59) d.0;
      no_label = is_none-None (label_of word) d.1;
    }

IsFirst-insn : IsFirst (codes ".insn")
unfolding is_first label_of
IsFirst-insn = IsFirst-from (codes ".insn") refl

-- the name of an operation is such a word, and none for an instruction by its fields
is_name : Operation → Bool
is_name operation = is_first (name_of operation) && not (bytes_eq (name_of operation) (codes ".insn"))

all_names : list_all is_name operations ≡ true
unfolding is_name is_first label_of
all_names = refl

some_is : {X : Type 0} (x y : X) → Some x ≡ Some y → x ≡ y
some_is x y h = cc

-- what is found passed its test, and all tests that all pass
found : (all wanted : Operation → Bool) (rows : List Operation) (operation : Operation) → list_all all rows ≡ true → find wanted rows ≡ Some operation
    → (wanted operation ≡ true) × (all operation ≡ true)
found all wanted [] operation pass h = cc
found all wanted (row ∷ rows) operation pass h =
    let parts = and_parts (all row) (list_all all rows) pass in
    elim (cases_Bool (wanted row)) [
      | inl t ↦
          let same = some_is row operation (rw t at h) in
          (subst (λ o. wanted o ≡ true) same t, subst (λ o. all o ≡ true) same parts.0)
      | inr f ↦ found all wanted rows operation parts.1 (rw f at h)
    ]

record IsNamed (code : ℕ) (operation : Operation) : Type 0 where
  same : code_of operation ≡ code
  name : IsFirst (name_of operation)
  other : bytes_eq (name_of operation) (codes ".insn") ≡ false

operation_of-named : (code : ℕ) (operation : Operation) → operation_of code ≡ Some operation → IsNamed code operation
unfolding operation_of is_name
operation_of-named code operation h =
    let both = found is_name (λ o. code_of o == code) operations operation all_names h in
    let parts = and_parts (is_first (name_of operation)) (not (bytes_eq (name_of operation) (codes ".insn"))) both.1 in
    record {
      same = eqb-true (code_of operation) code both.0;
      name = IsFirst-from (name_of operation) parts.0;
      other = not-true (bytes_eq (name_of operation) (codes ".insn")) parts.1;
    }

-- ---- an instruction

fields-are : (given : Insn) (jt jf k : ℕ) → given.jt ≡ jt → given.jf ≡ jf → given.k ≡ k → given ≡ insn given.code jt jf k
fields-are given jt jf k t f e = ap (λ (x : ℕ). insn given.code x given.jf given.k) t ∙ ap (λ (x : ℕ). insn given.code jt x given.k) f ∙ ap (λ (x : ℕ). insn given.code jt jf x) e

returned_value-digits : (n : ℕ) → n < 2 ^ 32 → returned_value (word_digits n) ≡ Some n
unfolding returned_value
returned_value-digits n h = let read = u32_of-digits n h in rw read refl

module _ (given : Insn) (range : IsInRange given) where
  -- words that are read as a statement of this instruction, wherever it stands
  record Reads (most : ℕ) (words : List (List ℕ)) (reading : Option Statement) : Type 0 where
    are_words : AreWords words
    few : length words ≤ most
    statement : Statement
    read : reading ≡ Some statement
    stand : (at : ℕ) → StandFor [] at (statement ∷ []) (given ∷ [])

  jumps_zero : (given.jt == 0 && given.jf == 0) ≡ true → (given.jt ≡ 0) × (given.jf ≡ 0)
  jumps_zero h =
      let parts = and_parts (given.jt == 0) (given.jf == 0) h in
      (eqb-true given.jt 0 parts.0, eqb-true given.jf 0 parts.1)

  near-jt : given.jt < 2 ^ 32
  near-jt = let small = range.jt in omega arith

  near-jf : given.jf < 2 ^ 32
  near-jf = let small = range.jf in omega arith

  branching-read : {k : ℕ} → branching given.code k (distance_word given.jt) (distance_word given.jf) ≡ Some (Branches given.code k (Further given.jt) (Further given.jf))
  unfolding branching
  branching-read =
      let jt = near-distance given.jt range.jt in
      let jf = near-distance given.jf range.jf in
      rw (jt, jf) refl

  operands-read : (shape : Shape) → unused_are_zero shape given ≡ true → Reads 3 (operands_of shape given) (shaped shape given.code (operands_of shape given))
  unfolding shaped
  operands-read Bare h =
      let parts = and_parts (given.jt == 0 && given.jf == 0) (given.k == 0) h in
      let zero = jumps_zero parts.0 in
      let same = fields-are given 0 0 0 zero.0 zero.1 (eqb-true given.k 0 parts.1) in
      record { are_words = tt; few = omega arith; statement = Plain (insn given.code 0 0 0); read = refl; stand = λ at. (same, tt) }
  operands-read Number h =
      let zero = jumps_zero h in
      let same = fields-are given 0 0 given.k zero.0 zero.1 refl in
      let k = u32_of-decimal given.k range.k in
      record { are_words = (IsWord-decimal given.k range.k, tt); few = omega arith; statement = Plain (insn given.code 0 0 given.k); read = rw k refl; stand = λ at. (same, tt) }
  operands-read Action h =
      let zero = jumps_zero h in
      let same = fields-are given 0 0 given.k zero.0 zero.1 refl in
      let k = returned_value-digits given.k range.k in
      record { are_words = (IsWord-word_digits given.k, tt); few = omega arith; statement = Plain (insn given.code 0 0 given.k); read = rw k refl; stand = λ at. (same, tt) }
  operands-read Target h =
      let zero = jumps_zero h in
      let same = fields-are given 0 0 given.k zero.0 zero.1 refl in
      let k = far-distance given.k range.k in
      record { are_words = (IsWord-distance given.k range.k, tt); few = omega arith; statement = Jumps given.code (Further given.k); read = rw k refl; stand = λ at. ((given.k, refl, same), tt) }
  operands-read Compare h =
      let k = u32_of-decimal given.k range.k in
      record {
        are_words = (IsWord-decimal given.k range.k, (IsWord-distance given.jt near-jt, (IsWord-distance given.jf near-jf, tt)));
        few = omega arith;
        statement = Branches given.code given.k (Further given.jt) (Further given.jf);
        read = rw k branching-read;
        stand = λ at. ((given.jt, (given.jf, refl, refl, refl)), tt);
      }
  operands-read CompareIndex h =
      let same = fields-are given given.jt given.jf 0 refl refl (eqb-true given.k 0 h) in
      record {
        are_words = (IsWord-distance given.jt near-jt, (IsWord-distance given.jf near-jf, tt));
        few = omega arith;
        statement = Branches given.code 0 (Further given.jt) (Further given.jf);
        read = branching-read;
        stand = λ at. ((given.jt, (given.jf, refl, refl, same)), tt);
      }

  raw-read : Reads 5 (field_words given) (spoken (field_words given))
  unfolding spoken instruction_said raw
  raw-read =
      let none = IsFirst-insn.no_label in
      let code = u16_of-digits given.code range.code in
      let jt = u8_of-decimal given.jt range.jt in
      let jf = u8_of-decimal given.jf range.jf in
      let k = u32_of-digits given.k range.k in
      record {
        are_words = (IsFirst-insn.is_word, (IsWord-half_digits given.code, (IsWord-decimal given.jt near-jt, (IsWord-decimal given.jf near-jf, (IsWord-word_digits given.k, tt)))));
        few = omega arith;
        statement = Plain given;
        read = rw (none, code, jt, jf, k) refl;
        stand = λ at. (refl, tt);
      }

  form-read : (operation : Operation) → operation_of given.code ≡ Some operation → unused_are_zero (shape_of operation) given ≡ true
      → Reads 5 (name_of operation ∷ operands_of (shape_of operation) given) (spoken (name_of operation ∷ operands_of (shape_of operation) given))
  unfolding spoken instruction_said
  form-read operation h shaped_so =
      let named = operation_of-named given.code operation h in
      let none = named.name.no_label in
      let other = named.other in
      let again = operation_named-name_of operation in
      let code = named.same in
      let rest = operands-read (shape_of operation) shaped_so in
      record {
        are_words = (named.name.is_word, rest.are_words);
        few = let few = rest.few in omega arith;
        statement = rest.statement;
        read = rw (none, other, again, code) rest.read;
        stand = rest.stand;
      }

  words-read : (operation : Option Operation) → operation_of given.code ≡ operation → Reads 5 (words_as operation given) (spoken (words_as operation given))
  words-read None h = raw-read
  words-read (Some operation) h = elim (cases_Bool (unused_are_zero (shape_of operation) given)) [
    | inl t ↦ rw t (form-read operation h t)
    | inr f ↦ rw f raw-read
  ]

  no_comment : (operation : Option Operation) → operation_of given.code ≡ operation → begins_comment (words_as operation given) ≡ false
  no_comment None h = IsFirst-insn.no_comment
  no_comment (Some operation) h = elim (cases_Bool (unused_are_zero (shape_of operation) given)) [
    | inl t ↦ rw t (operation_of-named given.code operation h).name.no_comment
    | inr f ↦ rw f IsFirst-insn.no_comment
  ]

  -- the line without its end says a statement of the instruction
  pub record LineSays : Type 0 where
    pub statement : Statement
    pub says : SaysLine (join_with_byte 32 (words_for given)) statement
    pub stand : (at : ℕ) → StandFor [] at (statement ∷ []) (given ∷ [])

  pub line-says : LineSays
  unfolding words_for statement_of
  line-says =
      let reads = words-read (operation_of given.code) refl in
      let same = words_of-joined (words_for given) reads.are_words in
      let first = no_comment (operation_of given.code) refl in
      let short = length-joined (words_for given) reads.are_words in
      let few = reads.few in
      record {
        statement = reads.statement;
        says = record {
          short = omega arith;
          printable = joined-printable (words_for given) reads.are_words;
          understood = rw (same, first) reads.read;
        };
        stand = reads.stand;
      }

  -- and it has at most 60 bytes
  pub length-line : length (join_with_byte 32 (words_for given)) ≤ 60
  unfolding words_for
  length-line =
      let reads = words-read (operation_of given.code) refl in
      let short = length-joined (words_for given) reads.are_words in
      let few = reads.few in
      omega arith
