-- Chains that take some words of a call's record for 0. The places are those of `struct seccomp_data`: seccomp(2).
use Rattle.std.specs.Prelude.{ℕ, ◌≡◌, ◌%◌, ◌==◌, ◌<◌, Bool, false, if◌then◌else◌, List, map, Option, Some}
use Rattle.std.specs.List.{list_any}
use Rattle.sk_insn.specs.declared.insn.Insn.{Insn}
use Rattle.sk_insn.specs.declared.record.Record.{Record}
use Rattle.sk_insn.specs.declared.operation.Register.TheVariants.{Accumulator}
use Rattle.sk_insn.specs.declared.operation.Operation.{Operation}
use Rattle.sk_insn.specs.declared.operation.Operation.TheVariants.{LoadRecord, LoadConstant}
use Rattle.sk_insn.specs.Operations.{operation_of, code_of}
use Rattle.sk_insn.specs.Record.{word_of}
use Rattle.sk_filter.specs.Chains.{AllValid}
use Rattle.sk_filter.specs.Verdict.{verdict_of}

-- a place is one of these
abbrev pub is_among : List ℕ → ℕ → Bool
is_among places place = list_any (λ one. one == place) places

-- an instruction loads a word at one of these places
abbrev pub loads_among : List ℕ → Option Operation → Insn → Bool
loads_among places (Some LoadRecord) insn = is_among places insn.k
loads_among places operation insn = false

-- in its place one that loads 0
abbrev pub without : List ℕ → Insn → Insn
without places insn =
    if loads_among places (operation_of insn.code) insn
    then record insn { code = code_of (LoadConstant Accumulator); k = 0 }
    else insn

-- each filter loads 0 wherever it loads a word at one of the places
abbrev pub chain_without : List ℕ → List (List Insn) → List (List Insn)
chain_without places programs = map (map (without places)) programs

-- another call has 0 at the places, and else the words of this one
abbrev pub IsWithout : List ℕ → Record → Record → Type 0
IsWithout places call other =
    (place : ℕ) → place % 4 ≡ 0 → place < 64 → word_of other place ≡ (if is_among places place then Some 0 else word_of call place)

-- what the chain without these words answers to a call, the chain answers to the other call
abbrev pub ChainsWithout : Type 0
ChainsWithout =
    (programs : List (List Insn)) → AllValid programs → (places : List ℕ) (call other : Record) → IsWithout places call other
    → verdict_of (chain_without places programs) call ≡ verdict_of programs other
