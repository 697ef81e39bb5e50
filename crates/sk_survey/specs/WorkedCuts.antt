-- Where the tests of filters turn, and how many cuts there may be, worked out by hand.
use Rattle.std.specs.Prelude.{ℕ, suc, ◌≡◌, ◌-◌, ◌*◌, List, [], ◌∷◌, length}
use Rattle.sk_insn.specs.declared.insn.Insn.{Insn}
use Rattle.sk_insn.specs.declared.operation.Register.TheVariants.{Accumulator}
use Rattle.sk_insn.specs.declared.operation.Operand.TheVariants.{Constant}
use Rattle.sk_insn.specs.declared.operation.Arithmetic.TheVariants.{And}
use Rattle.sk_insn.specs.declared.operation.Comparison.TheVariants.{Equal, Greater, GreaterOrEqual, CommonBits}
use Rattle.sk_insn.specs.declared.operation.Operation.TheVariants.{LoadRecord, LoadScratch, StoreScratch, Compute, Branch, ReturnConstant}
use Rattle.sk_filter.specs.Chains.{cost_of}
use Rattle.sk_filter.specs.WorkedMeanings.{does, compares}
use Rattle.sk_survey.specs.WorkedEnds.{asks_an_argument}
use Rattle.sk_survey.specs.Turning.{IsTurn, TestsNumber, Turns, TurnsSeldom}
use Rattle.sk_survey.specs.Cutting.{AreFew}

-- the number is compared without its higher bits, from a scratch word
abbrev pub tests_a_masked_number : List Insn
tests_a_masked_number =
    does LoadRecord 0 ∷
    does (Compute And Constant) 0xff ∷
    does (StoreScratch Accumulator) 3 ∷
    does LoadRecord 16 ∷
    does (LoadScratch Accumulator) 3 ∷
    compares (Branch Greater Constant) 5 0 0 ∷
    does ReturnConstant 0 ∷
    []

-- a chain that counts so much is followed on so many cuts, and on no more
abbrev pub MayHave : ℕ → ℕ → Type 0
MayHave cost most =
    (cuts alone : List ℕ) (programs : List (List Insn)) → cost_of programs ≡ cost
    → (length cuts - 2 * length alone ≡ most → AreFew cuts alone programs)
    × (length cuts - 2 * length alone ≡ suc most → AreFew cuts alone programs → ⊥)

pub record WorkedCuts : Type 0 where
  pub equal_turns_at_its_number : Turns Equal 39 39
  pub and_behind_it : Turns Equal 39 40
  pub and_nowhere_else : Turns Equal 39 41 → ⊥
  pub greater_turns_behind_it : Turns Greater 39 40
  pub not_at_it : Turns Greater 39 39 → ⊥
  pub at_least_turns_at_it : Turns GreaterOrEqual 39 39
  pub not_behind_it : Turns GreaterOrEqual 39 40 → ⊥
  pub a_bit_turns_where_it_is_set : Turns CommonBits 0x40000000 0x40000000
  pub where_it_is_not : Turns CommonBits 0x40000000 0x80000000
  pub not_between : Turns CommonBits 0x40000000 0x40000001 → ⊥
  pub few_parts : TurnsSeldom CommonBits 0x04000000
  pub many_parts : TurnsSeldom CommonBits 0x02000000 → ⊥
  pub tests_the_number : IsTurn asks_an_argument 39
  pub tests_what_comes_from_it : TestsNumber tests_a_masked_number Greater 5
  pub of_the_longest_filter : MayHave 4100 8184
  pub of_the_longest_chain : MayHave 32772 1023
