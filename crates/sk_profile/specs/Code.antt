-- The instructions of a tree. Those of conditions fall through where all hold, and else pass over so many of the
-- instructions that follow them. So no jump is written before it is known how far it goes.
use Rattle.std.specs.Prelude.{ℕ, ◌+◌, ◌*◌, ◌/◌, ◌^◌, ◌==◌, ◌&&◌, zero, suc, nat_le, Bool, true, false, if◌then◌else◌, List, [], ◌∷◌, ◌++◌, length, map, flat_map}
use Rattle.sk_insn.specs.declared.insn.Insn.{Insn}
use Rattle.sk_insn.specs.declared.operation.Operand.TheVariants.{Constant}
use Rattle.sk_insn.specs.declared.operation.Arithmetic.TheVariants.{And}
use Rattle.sk_insn.specs.declared.operation.Comparison.{Comparison}
use Rattle.sk_insn.specs.declared.operation.Comparison.TheVariants.{Equal, Greater, GreaterOrEqual}
use Rattle.sk_insn.specs.declared.operation.Operation.TheVariants.{LoadRecord, LoadConstant, Compute, Jump, Branch, ReturnConstant}
use Rattle.sk_insn.specs.declared.operation.Register.TheVariants.{Accumulator}
use Rattle.sk_insn.specs.Operations.{code_of}
use Rattle.sk_profile.specs.declared.condition.Condition.{Condition}
use Rattle.sk_profile.specs.declared.condition.Test.{Test}
use Rattle.sk_profile.specs.declared.condition.Test.TheVariants.{Is, IsNot, Below, AtMost, Above, AtLeast, Masked}
use Rattle.sk_profile.specs.Sayings.{low, Arm, Choice, Piece, Single, Joined, Tree, Leaf, Away, Fork}

abbrev pub load : ℕ → Insn
load k = record { code = code_of LoadRecord; jt = 0; jf = 0; k = k }

abbrev pub constant : ℕ → Insn
constant k = record { code = code_of (LoadConstant Accumulator); jt = 0; jf = 0; k = k }

abbrev pub with : ℕ → Insn
with k = record { code = code_of (Compute And Constant); jt = 0; jf = 0; k = k }

abbrev pub branch : Comparison → ℕ → ℕ → ℕ → Insn
branch comparison k jt jf = record { code = code_of (Branch comparison Constant); jt = jt; jf = jf; k = k }

abbrev pub jump : ℕ → Insn
jump k = record { code = code_of Jump; jt = 0; jf = 0; k = k }

abbrev pub answer : ℕ → Insn
answer k = record { code = code_of ReturnConstant; jt = 0; jf = 0; k = k }

-- the halves of a number, and where those of an argument stand
abbrev pub high : ℕ → ℕ
high n = n / 2 ^ 32

abbrev pub low_place : ℕ → ℕ
low_place index = 16 + 8 * index

abbrev pub high_place : ℕ → ℕ
high_place index = 20 + 8 * index

-- what is asked of an upper half for an order: so many are passed over behind the comparison where it is greater than this
-- number, and so many where it is less
abbrev pub order_code : ℕ → ℕ → ℕ → List Insn
order_code n greater less = branch Greater n (3 + greater) 0 ∷ branch Equal n 0 (2 + less) ∷ []

-- behind the load of the upper half, which is compared with this number: up to three more pass over the lower half
abbrev pub high_code : Test → ℕ → ℕ → List Insn
high_code Is n away = branch Equal n 0 (2 + away) ∷ []
high_code IsNot n away = branch Equal n 0 2 ∷ []
high_code Below n away = order_code n away 0
high_code AtMost n away = order_code n away 0
high_code Above n away = order_code n 0 away
high_code AtLeast n away = order_code n 0 away
high_code (Masked mask) n away = with (high mask) ∷ branch Equal n 0 (3 + away) ∷ []

-- behind that of the lower half
abbrev pub low_code : Test → ℕ → ℕ → List Insn
low_code Is n away = branch Equal n 0 away ∷ []
low_code IsNot n away = branch Equal n away 0 ∷ []
low_code Below n away = branch GreaterOrEqual n away 0 ∷ []
low_code AtMost n away = branch Greater n away 0 ∷ []
low_code Above n away = branch Greater n 0 away ∷ []
low_code AtLeast n away = branch GreaterOrEqual n 0 away ∷ []
low_code (Masked mask) n away = with (low mask) ∷ branch Equal n 0 away ∷ []

-- the upper half of an argument, which is 0 where registers have 32 bits
abbrev pub upper_code : Bool → ℕ → Insn
upper_code narrow i = if narrow then constant 0 else load (high_place i)

-- an argument of 32 bits is compared with a number of 32 bits at once
abbrev pub is_short : Bool → ℕ → Bool
is_short narrow n = narrow && high n == 0

-- a comparison of the argument with this index: falls through where it holds, and else passes over so many
abbrev pub test_code : Bool → Test → ℕ → ℕ → ℕ → List Insn
test_code narrow test i n away =
    if is_short narrow n then load (low_place i) ∷ low_code test (low n) away
    else upper_code narrow i ∷ (high_code test (high n) away ++ (load (low_place i) ∷ low_code test (low n) away))

-- all conditions: the same
abbrev pub conditions_code : Bool → List Condition → ℕ → List Insn
conditions_code narrow [] away = []
conditions_code narrow (c ∷ conditions) away =
    test_code narrow c.test c.index c.value (length (conditions_code narrow conditions away) + away) ++ conditions_code narrow conditions away

-- an arm answers where its conditions hold, and else falls through
abbrev pub single_code : Bool → Arm → List Insn
single_code narrow arm = conditions_code narrow arm.conditions 1 ++ (answer arm.value ∷ [])

-- behind the last number stands the answer, which is passed over where A is not its lower half
abbrev pub passed_over : List ℕ → ℕ
passed_over [] = 1
passed_over (number ∷ numbers) = 0

-- the lower halves of numbers: where A is one of them, the others are passed over
abbrev pub lows_code : List ℕ → List Insn
lows_code [] = []
lows_code (number ∷ numbers) = branch Equal (low number) (length numbers) (passed_over numbers) ∷ lows_code numbers

-- the upper half of an argument, which is tested once for numbers that have the same one, and before so many more
abbrev pub half_code : Bool → ℕ → ℕ → ℕ → List Insn
half_code true i n more = []
half_code false i n more = load (high_place i) ∷ branch Equal (high n) 0 (3 + more) ∷ []

abbrev pub choice_code : Bool → Choice → List Insn
choice_code narrow choice =
    half_code narrow choice.index choice.first (length choice.others)
    ++ (load (low_place choice.index) ∷ (lows_code (choice.first ∷ choice.others) ++ (answer choice.value ∷ [])))

abbrev pub piece_code : Bool → Piece → List Insn
piece_code narrow (Single arm) = single_code narrow arm
piece_code narrow (Joined choice) = choice_code narrow choice

abbrev pub saying_code : Bool → List Piece → ℕ → List Insn
saying_code narrow pieces otherwise = flat_map (piece_code narrow) pieces ++ (answer otherwise ∷ [])

-- ---- trees: what is below a fork's number stands first; a value that stands among others behind the tree has no instructions here

abbrev pub place_of : ℕ → List ℕ → ℕ
place_of value [] = 0
place_of value (other ∷ others) = if value == other then 0 else 1 + place_of value others

-- how far behind its place a tree's code begins, with so many instructions before those values
abbrev pub far : List ℕ → Tree → ℕ → ℕ
far values (Away value) behind = behind + place_of value values
far values tree behind = 0

-- a jump over more than 255 instructions is written apart
abbrev pub over_code : ℕ → List Insn
over_code zero = []
over_code (suc n) = jump (suc n) ∷ []

-- passes over so many from this number on, and so many below it
abbrev pub head_code : ℕ → ℕ → ℕ → List Insn
head_code number over under =
    if nat_le over 255 && nat_le under 255 then branch GreaterOrEqual number over under ∷ []
    else branch GreaterOrEqual number 0 1 ∷ jump (length (over_code under) + over) ∷ over_code under

abbrev pub fork_code : ℕ → ℕ → ℕ → List Insn → List Insn → List Insn
fork_code number over under front back = head_code number (length front + over) under ++ (front ++ back)

-- a tree before so many instructions, behind which the values stand
abbrev pub tree_code : List ℕ → Tree → ℕ → List Insn
tree_code values (Leaf narrow pieces otherwise) behind = saying_code narrow pieces otherwise
tree_code values (Away value) behind = []
tree_code values (Fork number below above) behind =
    fork_code number (far values above behind) (far values below (length (tree_code values above behind) + behind))
    (tree_code values below (length (tree_code values above behind) + behind)) (tree_code values above behind)

-- ---- filters

-- the calls for which a filter is shown one number of linux/audit.h
pub record Section : Type 0 where
  pub audit : ℕ
  pub values : List ℕ
  pub tree : Tree

abbrev pub section_code : Section → List Insn
section_code section = load 0 ∷ (tree_code section.values section.tree 0 ++ map answer section.values)

-- passes over so many where A, which holds the architecture, is another one
abbrev pub past_code : ℕ → ℕ → List Insn
past_code audit n = if nat_le n 255 then branch Equal audit 0 n ∷ [] else branch Equal audit 1 0 ∷ jump n ∷ []

abbrev pub guarded_code : Section → List Insn
guarded_code section = past_code section.audit (length (section_code section)) ++ section_code section

-- a filter: what is no call of its sections gets one value
abbrev pub filter_code : ℕ → List Section → List Insn
filter_code bad sections = load 4 ∷ (flat_map guarded_code sections ++ (answer bad ∷ []))
