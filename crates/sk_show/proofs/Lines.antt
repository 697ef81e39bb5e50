-- Each line of an instruction says what it is for: a label, nothing, or the instruction.
use Rattle.std.proofs.Common.{◌≡◌, ◌<◌, ◌≤◌, ◌+◌, ◌-◌, ◌^◌, ◌==◌, ◌&&◌, ◌∙◌, ap, arith, refl, sym, ℕ, List, [], ◌∷◌, ◌++◌, false, length, codes, inl, inr, Option, Some, None}
use Rattle.std.proofs.lemmas.Bool.{and_parts, cases_Bool, eqb-true, ltb-true}
use Rattle.std.specs.Prelude.{find, nat_lt, slice_index}
use Rattle.std.specs.Fmt.{decimal}
use Rattle.std.specs.List.{join_with_byte}
use Rattle.std.specs.Str.{bytes_eq}
use Rattle.sk_text.specs.Lines.{begins_comment, is_printable_byte}
use Rattle.sk_insn.specs.Operations.{code_of, name_of, operation_of, operations}
use Rattle.sk_insn.specs.declared.insn.Insn.{Insn}
use Rattle.sk_insn.specs.declared.operation.Comparison.{Comparison}
use Rattle.sk_insn.specs.declared.operation.Comparison.TheVariants.{Equal, Greater, GreaterOrEqual, CommonBits}
use Rattle.sk_insn.specs.declared.operation.Operand.TheVariants.{Constant, IndexRegister}
use Rattle.sk_insn.specs.declared.operation.Operation.{Operation}
use Rattle.sk_insn.specs.declared.operation.Operation.TheVariants.{LoadRecord, LoadConstant, LoadScratch, LoadLength, StoreScratch, Compute, Negate, Jump, Branch, ReturnConstant, ReturnAccumulator, CopyToIndex, CopyToAccumulator}
use Rattle.sk_insn.proofs.OperationTable.{operation_named-name_of}
use Rattle.sk_filter.specs.Paths.{GoesTo, onward}
use Rattle.sk_asm.specs.Assembly.{IsDistance, SaysLine, StandFor}
use Rattle.sk_asm.specs.Grammar.{Destination, Further, Labelled, Statement, Silent, Marks, Plain, Jumps, Branches, branching, destination_of, insn, instruction_said, label_of, shape_of, shaped, spoken, statement_of, u8_of, u32_of}
use Rattle.sk_asm.specs.Labels.{Labels, label_place}
use Rattle.sk_asm.specs.declared.shape.Shape.TheVariants.{Target, Compare, CompareIndex}
use Rattle.sk_asm.specs.Listing.{distance_word, words_for}
use Rattle.sk_asm.specs.RoundTrip.{IsInRange}
use Rattle.sk_asm.proofs.Lines.{length-line, line-says}
use Rattle.sk_asm.proofs.Numerals.{IsWord-decimal, IsWord-distance, far-distance, near-distance, u32_of-decimal}
use Rattle.sk_asm.proofs.Words.{AreWords, IsWord, joined-printable, length-joined, words_of-joined}
use Rattle.sk_names.specs.declared.architecture.Architecture.{Architecture}
use Rattle.sk_show.specs.declared.held.Held.{Held}
use Rattle.sk_show.specs.Notes.{note_text}
use Rattle.sk_show.specs.Showing.{comment_line, insn_line, label_name, shown_words, side_word}
use Rattle.sk_show.proofs.Names.{IsWord-label, IsWord-label_line, destination_of-label, label_of-line}
use Rattle.sk_show.proofs.Notes.{IsShort, IsShort-append, IsShort-decimal, note-short}

-- ---- labels and comments

pub label-says : (place : ℕ) → place < 4096 → SaysLine (label_name place ++ codes ":") (Marks (label_name place))
unfolding statement_of spoken
label-says place h =
    let word = IsWord-label_line place h in
    let same = words_of-joined ((label_name place ++ codes ":") ∷ []) (word, tt) in
    let name = label_of-line place h in
    let short = word.short in
    record {
      short = omega arith;
      printable = joined-printable ((label_name place ++ codes ":") ∷ []) (word, tt);
      understood = rw (same, name) refl;
    }

-- `;` begins the first word of a comment
pub comment-short : (by : Option Architecture) (at : ℕ) (held : Held) (given : Insn) → at < 4096 → IsInRange given → IsShort 79 (comment_line by at held given)
unfolding comment_line is_printable_byte
comment-short by at held given near range =
    IsShort-append 2 77 (codes "; ") (decimal at ++ note_text by held (operation_of given.code) given) (record { short = omega arith; printable = refl })
    (IsShort-append 11 66 (decimal at) (note_text by held (operation_of given.code) given) (IsShort-decimal at (omega arith))
    (note-short by held (operation_of given.code) given range.k))

pub comment-says : (by : Option Architecture) (at : ℕ) (held : Held) (given : Insn) → at < 4096 → IsInRange given → SaysLine (comment_line by at held given) Silent
unfolding comment_line statement_of
comment-says by at held given near range =
    let all = comment-short by at held given near range in
    let short = all.short in
    record { short = omega arith; printable = all.printable; understood = refl }

-- ---- jumps

-- the name of a jump is a word that begins no comment, gives no label, and is that of no other form
record IsJumpName (operation : Operation) : Type 0 where
  word : IsWord (name_of operation)
  no_comment : (slice_index (name_of operation) 0 == 59) ≡ false
  no_label : label_of (name_of operation) ≡ None
  other : bytes_eq (name_of operation) (codes ".insn") ≡ false

IsJumpName-ja : IsJumpName Jump
unfolding label_of
IsJumpName-ja = record { word = record { some = omega arith; short = omega arith; visible = refl }; no_comment = refl; no_label = refl; other = refl }

IsJumpName-constant : (comparison : Comparison) → IsJumpName (Branch comparison Constant)
unfolding label_of
IsJumpName-constant Equal = record { word = record { some = omega arith; short = omega arith; visible = refl }; no_comment = refl; no_label = refl; other = refl }
IsJumpName-constant Greater = record { word = record { some = omega arith; short = omega arith; visible = refl }; no_comment = refl; no_label = refl; other = refl }
IsJumpName-constant GreaterOrEqual = record { word = record { some = omega arith; short = omega arith; visible = refl }; no_comment = refl; no_label = refl; other = refl }
IsJumpName-constant CommonBits = record { word = record { some = omega arith; short = omega arith; visible = refl }; no_comment = refl; no_label = refl; other = refl }

IsJumpName-index : (comparison : Comparison) → IsJumpName (Branch comparison IndexRegister)
unfolding label_of
IsJumpName-index Equal = record { word = record { some = omega arith; short = omega arith; visible = refl }; no_comment = refl; no_label = refl; other = refl }
IsJumpName-index Greater = record { word = record { some = omega arith; short = omega arith; visible = refl }; no_comment = refl; no_label = refl; other = refl }
IsJumpName-index GreaterOrEqual = record { word = record { some = omega arith; short = omega arith; visible = refl }; no_comment = refl; no_label = refl; other = refl }
IsJumpName-index CommonBits = record { word = record { some = omega arith; short = omega arith; visible = refl }; no_comment = refl; no_label = refl; other = refl }

-- what is found by its code has it
found-code : (code : ℕ) (rows : List Operation) (operation : Operation) → find (λ o. code_of o == code) rows ≡ Some operation → code_of operation ≡ code
found-code code [] operation h = cc
found-code code (row ∷ rows) operation h = elim (cases_Bool (code_of row == code)) [
  | inl t ↦
      let e : Some row ≡ Some operation = rw t at h in
      let same : row ≡ operation = cc in
      ap code_of (sym same) ∙ eqb-true (code_of row) code t
  | inr f ↦ found-code code rows operation (rw f at h)
]

code-same : (code : ℕ) (operation : Operation) → operation_of code ≡ Some operation → code_of operation ≡ code
unfolding operation_of
code-same code operation h = found-code code operations operation h

-- the words behind the name of a jump are read in its shape
spoken-shaped : (operation : Operation) (words : List (List ℕ)) → IsJumpName operation → spoken (name_of operation ∷ words) ≡ shaped (shape_of operation) (code_of operation) words
unfolding spoken instruction_said
spoken-shaped operation words name =
    let none = name.no_label in
    let other = name.other in
    let again = operation_named-name_of operation in
    rw (none, other, again) refl

-- a side of a jump from a place among so many, whose distance `number` reads
record Side (number : List ℕ → Option ℕ) (most count at distance : ℕ) : Type 0 where
  is_word : IsWord (side_word count at distance)
  to : Destination
  read : destination_of number (side_word count at distance) ≡ Some to
  stand : (labels : Labels)
      → (at + 1 < at + 1 + distance → at + 1 + distance < count → label_place labels (label_name (at + 1 + distance)) ≡ Some (at + 1 + distance))
      → IsDistance labels at most distance to

side : (number : List ℕ → Option ℕ) (most count at distance : ℕ) → count ≤ 4096 → distance ≤ most → distance < 2 ^ 32
    → destination_of number (distance_word distance) ≡ Some (Further distance) → Side number most count at distance
unfolding side_word
side number most count at distance few near small far = elim (cases_Bool (nat_lt 0 distance && nat_lt (at + 1 + distance) count)) [
  | inl t ↦
      let parts = and_parts (nat_lt 0 distance) (nat_lt (at + 1 + distance) count) t in
      let some = ltb-true 0 distance parts.0 in
      let within = ltb-true (at + 1 + distance) count parts.1 in
      let here : at + 1 + distance < 4096 = omega arith in
      record {
        is_word = rw t (IsWord-label (at + 1 + distance) here);
        to = Labelled (label_name (at + 1 + distance));
        read = rw t (destination_of-label number (at + 1 + distance) here);
        stand = λ labels given. (given (omega arith) within, near);
      }
  | inr f ↦
      record {
        is_word = rw f (IsWord-distance distance small);
        to = Further distance;
        read = rw f far;
        stand = λ labels given. refl;
      }
]

-- ---- lines of instructions

-- where control goes on from a place, further than to the next, the label is given
abbrev pub AreLabelled : ℕ → ℕ → Insn → Labels → Type 0
AreLabelled count at given labels =
    (place : ℕ) → GoesTo place (onward at (operation_of given.code) given) → at + 1 < place → place < count → label_place labels (label_name place) ≡ Some place

-- the line of an instruction says a statement of it
pub record SaidLine (count at : ℕ) (given : Insn) : Type 0 where
  pub statement : Statement
  pub says : SaysLine (insn_line count at given) statement
  pub stand : (labels : Labels) → AreLabelled count at given labels → StandFor labels at (statement ∷ []) (given ∷ [])
  pub short : length (insn_line count at given) ≤ 64

-- spaces before a line change nothing of what it says
indented : (line : List ℕ) (statement : Statement) → length line ≤ 60 → SaysLine line statement → SaysLine (codes "    " ++ line) statement
unfolding is_printable_byte statement_of
indented line statement few says = record { short = omega arith; printable = says.printable; understood = says.understood }

-- what stands for an instruction where no label is given does where some are
with_labels : (labels : Labels) (at : ℕ) (statement : Statement) (given : Insn) → StandFor [] at (statement ∷ []) (given ∷ []) → StandFor labels at (statement ∷ []) (given ∷ [])
with_labels labels at Silent given h = absurd h
with_labels labels at (Marks name) given h = absurd h
with_labels labels at (Plain said) given h = h
with_labels labels at (Jumps code (Further n)) given h = h
with_labels labels at (Jumps code (Labelled name)) given h = let e : None ≡ Some (at + 1 + h.0.0) = h.0.1.0 in cc
with_labels labels at (Branches code k (Further m) (Further n)) given h = h
with_labels labels at (Branches code k (Further m) (Labelled name)) given h = let e : None ≡ Some (at + 1 + h.0.1.0) = h.0.1.2.0 in cc
with_labels labels at (Branches code k (Labelled name) to) given h = let e : None ≡ Some (at + 1 + h.0.0) = h.0.1.1.0 in cc

module _ (count at : ℕ) (given : Insn) (few : count ≤ 4096) (range : IsInRange given) where
  -- words that are read as a statement of the instruction
  record Reads (words : List (List ℕ)) : Type 0 where
    are_words : AreWords words
    few_words : length words ≤ 5
    no_comment : begins_comment words ≡ false
    statement : Statement
    read : spoken words ≡ Some statement
    stand : (labels : Labels) → AreLabelled count at given labels → StandFor labels at (statement ∷ []) (given ∷ [])

  from_words : (words : List (List ℕ)) → shown_words count at given ≡ words → Reads words → SaidLine count at given
  unfolding insn_line statement_of
  from_words words same reads =
      let cut = words_of-joined words reads.are_words in
      let first = reads.no_comment in
      let length_all = length-joined words reads.are_words in
      let most = reads.few_words in
      let line : SaysLine (join_with_byte 32 words) reads.statement = record {
        short = omega arith;
        printable = joined-printable words reads.are_words;
        understood = rw (cut, first) reads.read;
      } in
      record {
        statement = reads.statement;
        says = rw same (indented (join_with_byte 32 words) reads.statement (omega arith) line);
        stand = reads.stand;
        short = rw same (omega arith);
      }

  listed : shown_words count at given ≡ words_for given → SaidLine count at given
  unfolding insn_line
  listed same =
      let line = line-says given range in
      let short = length-line given range in
      record {
        statement = line.statement;
        says = rw same (indented (join_with_byte 32 (words_for given)) line.statement short line.says);
        stand = λ labels h. with_labels labels at line.statement given (line.stand at);
        short = rw same (omega arith);
      }

  near : (distance : ℕ) → distance < 2 ^ 8 → Side u8_of 255 count at distance
  near distance h = side u8_of 255 count at distance few (omega arith) (omega arith) (near-distance distance h)

  jump : operation_of given.code ≡ Some Jump → given.jt ≡ 0 → given.jf ≡ 0 → Reads (name_of Jump ∷ side_word count at given.k ∷ [])
  unfolding shaped
  jump op t f =
      let k = range.k in
      let to = side u32_of (2 ^ 32 - 1) count at given.k few (omega arith) k (far-distance given.k k) in
      let words = side_word count at given.k ∷ [] in
      let code = ap (λ (c : ℕ). shaped Target c words) (code-same given.code Jump op) in
      let read = to.read in
      let same : given ≡ insn given.code 0 0 given.k = ap (λ (x : ℕ). insn given.code x given.jf given.k) t ∙ ap (λ (x : ℕ). insn given.code 0 x given.k) f in
      record {
        are_words = (IsJumpName-ja.word, (to.is_word, tt));
        few_words = omega arith;
        no_comment = refl;
        statement = Jumps given.code to.to;
        read = spoken-shaped Jump words IsJumpName-ja ∙ code ∙ rw read refl;
        stand = λ labels h. ((given.k, to.stand labels (h (at + 1 + given.k) (rw op refl)), same), tt);
      }

  compare : (comparison : Comparison) → operation_of given.code ≡ Some (Branch comparison Constant)
      → Reads (name_of (Branch comparison Constant) ∷ decimal given.k ∷ side_word count at given.jt ∷ side_word count at given.jf ∷ [])
  unfolding shaped branching
  compare comparison op =
      let name = IsJumpName-constant comparison in
      let jt = near given.jt range.jt in
      let jf = near given.jf range.jf in
      let words = decimal given.k ∷ side_word count at given.jt ∷ side_word count at given.jf ∷ [] in
      let code = ap (λ (c : ℕ). shaped Compare c words) (code-same given.code (Branch comparison Constant) op) in
      let number = u32_of-decimal given.k range.k in
      let t = jt.read in
      let f = jf.read in
      record {
        are_words = (name.word, (IsWord-decimal given.k range.k, (jt.is_word, (jf.is_word, tt))));
        few_words = omega arith;
        no_comment = name.no_comment;
        statement = Branches given.code given.k jt.to jf.to;
        read = spoken-shaped (Branch comparison Constant) words name ∙ code ∙ rw (number, t, f) refl;
        stand = λ labels h. (
          (
            given.jt,
            (given.jf, jt.stand labels (h (at + 1 + given.jt) (rw op (inl refl))), jf.stand labels (h (at + 1 + given.jf) (rw op (inr refl))), refl),
          ),
          tt,
        );
      }

  compare_index : (comparison : Comparison) → operation_of given.code ≡ Some (Branch comparison IndexRegister) → given.k ≡ 0
      → Reads (name_of (Branch comparison IndexRegister) ∷ side_word count at given.jt ∷ side_word count at given.jf ∷ [])
  unfolding shaped branching
  compare_index comparison op zero =
      let name = IsJumpName-index comparison in
      let jt = near given.jt range.jt in
      let jf = near given.jf range.jf in
      let words = side_word count at given.jt ∷ side_word count at given.jf ∷ [] in
      let code = ap (λ (c : ℕ). shaped CompareIndex c words) (code-same given.code (Branch comparison IndexRegister) op) in
      let t = jt.read in
      let f = jf.read in
      let same : given ≡ insn given.code given.jt given.jf 0 = ap (λ (x : ℕ). insn given.code given.jt given.jf x) zero in
      record {
        are_words = (name.word, (jt.is_word, (jf.is_word, tt)));
        few_words = omega arith;
        no_comment = name.no_comment;
        statement = Branches given.code 0 jt.to jf.to;
        read = spoken-shaped (Branch comparison IndexRegister) words name ∙ code ∙ rw (t, f) refl;
        stand = λ labels h. (
          (
            given.jt,
            (given.jf, jt.stand labels (h (at + 1 + given.jt) (rw op (inl refl))), jf.stand labels (h (at + 1 + given.jf) (rw op (inr refl))), same),
          ),
          tt,
        );
      }

  said-by : (operation : Option Operation) → operation_of given.code ≡ operation → SaidLine count at given
  unfolding shown_words
  said-by None op = listed (rw op refl)
  said-by (Some Jump) op = elim (cases_Bool (given.jt == 0 && given.jf == 0)) [
    | inl t ↦
        let parts = and_parts (given.jt == 0) (given.jf == 0) t in
        from_words (name_of Jump ∷ side_word count at given.k ∷ []) (rw (op, t) refl) (jump op (eqb-true given.jt 0 parts.0) (eqb-true given.jf 0 parts.1))
    | inr f ↦ listed (rw (op, f) refl)
  ]
  said-by (Some (Branch comparison Constant)) op =
      from_words (name_of (Branch comparison Constant) ∷ decimal given.k ∷ side_word count at given.jt ∷ side_word count at given.jf ∷ []) (rw op refl) (compare comparison op)
  said-by (Some (Branch comparison IndexRegister)) op = elim (cases_Bool (given.k == 0)) [
    | inl t ↦
        from_words (name_of (Branch comparison IndexRegister) ∷ side_word count at given.jt ∷ side_word count at given.jf ∷ [])
        (rw (op, t) refl) (compare_index comparison op (eqb-true given.k 0 t))
    | inr f ↦ listed (rw (op, f) refl)
  ]
  said-by (Some LoadRecord) op = listed (rw op refl)
  said-by (Some (LoadConstant register)) op = listed (rw op refl)
  said-by (Some (LoadScratch register)) op = listed (rw op refl)
  said-by (Some (LoadLength register)) op = listed (rw op refl)
  said-by (Some (StoreScratch register)) op = listed (rw op refl)
  said-by (Some (Compute arithmetic right)) op = listed (rw op refl)
  said-by (Some Negate) op = listed (rw op refl)
  said-by (Some ReturnConstant) op = listed (rw op refl)
  said-by (Some ReturnAccumulator) op = listed (rw op refl)
  said-by (Some CopyToIndex) op = listed (rw op refl)
  said-by (Some CopyToAccumulator) op = listed (rw op refl)

  pub said-line : SaidLine count at given
  said-line = said-by (operation_of given.code) refl
