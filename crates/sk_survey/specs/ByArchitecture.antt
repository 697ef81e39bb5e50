-- Chains asked about architectures: the architecture of a call stands where the number is, and the number where a word is
-- that no filter loads. The places are those of `struct seccomp_data`: seccomp(2).
use Rattle.std.specs.Prelude.{ℕ, ◌≡◌, ◌+◌, ◌*◌, ◌%◌, ◌==◌, ◌≤◌, ◌<◌, ◌^◌, not, Bool, false, if◌then◌else◌, List, [], ◌∷◌, map, find, Option, Some}
use Rattle.std.specs.List.{list_any}
use Rattle.std.specs.Option.{option_map, unwrap_or}
use Rattle.sk_insn.specs.declared.insn.Insn.{Insn}
use Rattle.sk_insn.specs.declared.record.Record.{Record}
use Rattle.sk_insn.specs.declared.operation.Operation.{Operation}
use Rattle.sk_insn.specs.declared.operation.Operation.TheVariants.{LoadRecord}
use Rattle.sk_insn.specs.Operations.{operation_of}
use Rattle.sk_insn.specs.Record.{native, word_of}
use Rattle.sk_filter.specs.Chains.{AllValid}
use Rattle.sk_filter.specs.Verdict.{verdict_of}
use Rattle.sk_filter.specs.Architectures.{loads_architecture}

-- ---- which word is free

-- an instruction loads the word at a place of the record
abbrev pub loads_word : ℕ → Option Operation → Insn → Bool
loads_word place (Some LoadRecord) insn = insn.k == place
loads_word place operation insn = false

abbrev pub program_loads : ℕ → List Insn → Bool
program_loads place insns = list_any (λ insn. loads_word place (operation_of insn.code) insn) insns

-- some filter of the chain does
abbrev pub chain_loads : ℕ → List (List Insn) → Bool
chain_loads place programs = list_any (program_loads place) programs

-- the words behind the number and the architecture
abbrev pub words_behind : List ℕ
words_behind = 8 ∷ 12 ∷ 16 ∷ 20 ∷ 24 ∷ 28 ∷ 32 ∷ 36 ∷ 40 ∷ 44 ∷ 48 ∷ 52 ∷ 56 ∷ 60 ∷ []

-- the first of them that no filter loads
abbrev pub free_place : List (List Insn) → Option ℕ
free_place programs = find (λ place. not (chain_loads place programs)) words_behind

-- one of them, which no filter loads
abbrev pub IsFree : List (List Insn) → ℕ → Type 0
IsFree programs place = ((place % 4 ≡ 0) × (8 ≤ place) × (place < 64)) × (chain_loads place programs ≡ false)

-- ---- the chain

-- the number is loaded for the architecture, and the word at a place for the number
abbrev pub with_number_at : ℕ → Insn → Insn
with_number_at place insn =
    if loads_architecture (operation_of insn.code) insn
    then record insn { k = 0 }
    else if loads_word 0 (operation_of insn.code) insn then record insn { k = place } else insn

abbrev pub chain_with_number_at : ℕ → List (List Insn) → List (List Insn)
chain_with_number_at place programs = map (map (with_number_at place)) programs

-- with the number at the free place, if there is one
abbrev pub chain_by_architecture : List (List Insn) → Option (List (List Insn))
chain_by_architecture programs = option_map (λ place. chain_with_number_at place programs) (free_place programs)

-- ---- the call

-- arguments of these words, of each the lower one first
abbrev pub arguments_of : (ℕ → ℕ) → List ℕ
arguments_of word = map (λ at. word at + 2 ^ 32 * word (at + 4)) (16 ∷ 24 ∷ 32 ∷ 40 ∷ 48 ∷ 56 ∷ [])

-- the call of x86-64 with this number and with these words behind it: those of the instruction pointer and of the arguments
abbrev pub with_words : ℕ → (ℕ → ℕ) → Record
with_words nr word = native nr (word 8 + 2 ^ 32 * word 12) (arguments_of word)

-- the call whose number is the architecture of this one, with the number at a place, and else the words of this one
abbrev pub by_architecture : ℕ → Record → Record
by_architecture place call = with_words call.arch (λ at. if at == place then call.nr else unwrap_or (word_of call at) 0)

-- what the chain answers to that call, the chain itself answers to this one
abbrev pub ChainsByArchitecture : Type 0
ChainsByArchitecture =
    (programs : List (List Insn)) → AllValid programs → (place : ℕ) → IsFree programs place
    → (call : Record) → call.nr < 2 ^ 32 → call.arch < 2 ^ 32
    → verdict_of (chain_with_number_at place programs) (by_architecture place call) ≡ verdict_of programs call

-- worked by hand: call 57 of i386, with its number in the lower half of the instruction pointer
abbrev pub WorkedCall : Type 0
WorkedCall =
    by_architecture 8 (record { nr = 57; arch = 0x40000003; ip = 0x1122334455667788; args = 1 ∷ 2 ∷ 3 ∷ 4 ∷ 5 ∷ 0xffffffff00000006 ∷ [] })
    ≡ native 0x40000003 0x1122334400000039 (1 ∷ 2 ∷ 3 ∷ 4 ∷ 5 ∷ 0xffffffff00000006 ∷ [])
