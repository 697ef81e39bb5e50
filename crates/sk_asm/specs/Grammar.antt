-- What one line of assembler text says. The forms are those of McCanne and Jacobson (1993), one for
-- each permitted operation, with names of their own where one of theirs has several codes.
use Rattle.std.specs.Prelude.{ℕ, ◌+◌, ◌-◌, ◌^◌, ◌==◌, ◌&&◌, nat_eq, if◌then◌else◌, List, [], ◌∷◌, length, take, drop, codes, Option, Some, None}
use Rattle.std.specs.Option.{option_map, option_or}
use Rattle.std.specs.List.{starts_with, ends_with, list_any, before_first, after_first}
use Rattle.std.specs.Str.{bytes_eq}
use Rattle.sk_text.specs.Lines.{words_of, begins_comment}
use Rattle.sk_text.specs.Numbers.{number_of, up_to}
use Rattle.sk_text.specs.Words.{is_name, none_of, one_of, two_of, three_of, four_of}
use Rattle.sk_insn.specs.Operations.{operation_named, code_of}
use Rattle.sk_insn.specs.Actions.{action_named, value_of}
use Rattle.sk_insn.specs.declared.insn.Insn.{Insn}
use Rattle.sk_insn.specs.declared.operation.Operand.TheVariants.{Constant, IndexRegister}
use Rattle.sk_insn.specs.declared.operation.Operation.{Operation}
use Rattle.sk_insn.specs.declared.operation.Operation.TheVariants.{LoadRecord, LoadConstant, LoadScratch, LoadLength, StoreScratch, Compute, Negate, Jump, Branch, ReturnConstant, ReturnAccumulator, CopyToIndex, CopyToAccumulator}
use Rattle.sk_asm.specs.declared.shape.Shape.{Shape}
use Rattle.sk_asm.specs.declared.shape.Shape.TheVariants.{Bare, Number, Action, Target, Compare, CompareIndex}

-- where a jump goes: so many instructions further, or to a label
pub data Destination : Type 0 where
  Further : ℕ → Destination
  Labelled : List ℕ → Destination

-- what a line says: nothing, a label, an instruction, or a jump whose distance is not known yet
pub data Statement : Type 0 where
  Silent : Statement
  Marks : List ℕ → Statement
  Plain : Insn → Statement
  Jumps : ℕ → Destination → Statement
  Branches : ℕ → ℕ → Destination → Destination → Statement

abbrev pub insn : ℕ → ℕ → ℕ → ℕ → Insn
insn code jt jf k = record { code = code; jt = jt; jf = jf; k = k }

-- a step, and then another one, if the first gave a value
infixl 10 ◌>>=◌
abbrev pub ◌>>=◌ : {X Y : Type 0} → Option X → (X → Option Y) → Option Y
None >>= next = None
(Some value) >>= next = next value

-- ---- words

-- a number of 8, 16 or 32 bits
abbrev pub u8_of : List ℕ → Option ℕ
u8_of word = up_to (2 ^ 8 - 1) (number_of word)

abbrev pub u16_of : List ℕ → Option ℕ
u16_of word = up_to (2 ^ 16 - 1) (number_of word)

abbrev pub u32_of : List ℕ → Option ℕ
u32_of word = up_to (2 ^ 32 - 1) (number_of word)

-- a label's name, and a colon behind it
unfoldable pub label_of : List ℕ → Option (List ℕ)
label_of word =
    if ends_with nat_eq word (codes ":") && is_name (take (length word - 1) word)
    then Some (take (length word - 1) word)
    else None

-- `+N`, with a number that `number` reads, or a label's name
unfoldable pub destination_of : (List ℕ → Option ℕ) → List ℕ → Option Destination
destination_of number word =
    if starts_with nat_eq word (codes "+") then option_map Further (number (drop 1 word))
    else if is_name word then Some (Labelled word)
    else None

-- the value of an action, with the data
unfoldable pub action_with : List ℕ → List ℕ → Option ℕ
action_with name number = do
  action ← action_named name
  value ← value_of action
  given ← u16_of number
  Some (value + given)

-- an action's name, alone or with a slash (47) and data
unfoldable pub action_value : List ℕ → Option ℕ
action_value word =
    if list_any (λ byte. byte == 47) word
    then action_with (before_first (λ byte. byte == 47) word) (after_first (λ byte. byte == 47) word)
    else (action_named word >>= λ action. value_of action)

-- what a filter returns: a number or an action
unfoldable pub returned_value : List ℕ → Option ℕ
returned_value word = option_or (u32_of word) (action_value word)

-- ---- lines

-- which words follow the name of an operation: none; K; for `ret` an action too; T; K T F; T F
abbrev pub shape_of : Operation → Shape
shape_of LoadRecord = Number
shape_of (LoadConstant register) = Number
shape_of (LoadScratch register) = Number
shape_of (LoadLength register) = Bare
shape_of (StoreScratch register) = Number
shape_of (Compute arithmetic Constant) = Number
shape_of (Compute arithmetic IndexRegister) = Bare
shape_of Negate = Bare
shape_of Jump = Target
shape_of (Branch comparison Constant) = Compare
shape_of (Branch comparison IndexRegister) = CompareIndex
shape_of ReturnConstant = Action
shape_of ReturnAccumulator = Bare
shape_of CopyToIndex = Bare
shape_of CopyToAccumulator = Bare

-- a conditional jump
unfoldable pub branching : ℕ → ℕ → List ℕ → List ℕ → Option Statement
branching code k first second = do
  jt ← destination_of u8_of first
  jf ← destination_of u8_of second
  Some (Branches code k jt jf)

-- an instruction of a shape and a code; fields that are not used are 0
unfoldable pub shaped : Shape → ℕ → List (List ℕ) → Option Statement
shaped Bare code words = do
  none ← none_of words
  Some (Plain (insn code 0 0 0))
shaped Number code words = do
  word ← one_of words
  k ← u32_of word
  Some (Plain (insn code 0 0 k))
shaped Action code words = do
  word ← one_of words
  k ← returned_value word
  Some (Plain (insn code 0 0 k))
shaped Target code words = do
  word ← one_of words
  to ← destination_of u32_of word
  Some (Jumps code to)
shaped Compare code words = do
  given ← three_of words
  k ← u32_of given.0
  branching code k given.1 given.2
shaped CompareIndex code words = do
  given ← two_of words
  branching code 0 given.0 given.1

-- an instruction by its fields: `.insn C JT JF K`
unfoldable pub raw : List (List ℕ) → Option Statement
raw words = do
  given ← four_of words
  code ← u16_of given.0
  jt ← u8_of given.1
  jf ← u8_of given.2
  k ← u32_of given.3
  Some (Plain (insn code jt jf k))

-- an instruction: its first word, and the others
unfoldable pub instruction_said : List ℕ → List (List ℕ) → Option Statement
instruction_said first words =
    if bytes_eq first (codes ".insn") then raw words
    else (operation_named first >>= λ operation. shaped (shape_of operation) (code_of operation) words)

-- a label stands alone on its line
abbrev pub marked_or : Option (List ℕ) → List ℕ → List (List ℕ) → Option Statement
marked_or None first words = instruction_said first words
marked_or (Some name) first words = none_of words >>= λ none. Some (Marks name)

unfoldable pub spoken : List (List ℕ) → Option Statement
spoken [] = Some Silent
spoken (first ∷ words) = marked_or (label_of first) first words

-- what a line says, if it is understood
unfoldable pub statement_of : List ℕ → Option Statement
statement_of line = if begins_comment (words_of line) then Some Silent else spoken (words_of line)
