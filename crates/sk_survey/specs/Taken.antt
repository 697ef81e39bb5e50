-- What Linux takes a call of x86-64 for: of a call's arguments it reads some bits alone, by the types of its SYSCALL_DEFINEs.
use Rattle.std.specs.Prelude.{ℕ, ◌≡◌, if◌then◌else◌, List, [], ◌∷◌}
use Rattle.std.specs.List.{filter}
use Rattle.std.specs.Option.{unwrap_or}
use Rattle.sk_arguments.specs.Reading.{unread_places}
use Rattle.sk_insn.specs.declared.insn.Insn.{Insn}
use Rattle.sk_insn.specs.declared.record.Record.{Record}
use Rattle.sk_insn.specs.Record.{IsNative, native, word_of}
use Rattle.sk_filter.specs.Chains.{AllValid}
use Rattle.sk_filter.specs.Verdict.{verdict_of}
use Rattle.sk_survey.specs.ByArchitecture.{arguments_of, chain_loads}
use Rattle.sk_survey.specs.Without.{chain_without, is_among}

-- ---- the call

-- a word of the call, or 0 where Linux reads none of its bits; of a mode it reads 16 bits, and they count as 32
abbrev pub word_taken : Record → ℕ → ℕ
word_taken call place = if is_among (unread_places call.nr) place then 0 else unwrap_or (word_of call place) 0

-- the call with 0 in each half of an argument that Linux does not read
abbrev pub taken_as : Record → Record
taken_as call = record call { args = arguments_of (word_taken call) }

-- two calls that are the same one to Linux
abbrev pub IsSameCall : Record → Record → Type 0
IsSameCall one other = (IsNative one × IsNative other) × ((one.nr ≡ other.nr) × (taken_as one ≡ taken_as other))

-- ---- the chain

-- those of some places whose word a filter of the chain loads
abbrev pub loaded_places : List (List Insn) → List ℕ → List ℕ
loaded_places programs places = filter (λ place. chain_loads place programs) places

-- the chain that takes calls with a number as Linux does
abbrev pub chain_taking : ℕ → List (List Insn) → List (List Insn)
chain_taking nr programs = chain_without (loaded_places programs (unread_places nr)) programs

-- ---- laws

-- what it answers to a call, the chain answers to the call that Linux takes it for
abbrev pub ChainsTakeCalls : Type 0
ChainsTakeCalls =
    (programs : List (List Insn)) → AllValid programs → (call : Record) → verdict_of (chain_taking call.nr programs) call ≡ verdict_of programs (taken_as call)

-- so does the chain that takes all these words for 0, whether filters load them or not
abbrev pub ChainsWithoutUnread : Type 0
ChainsWithoutUnread =
    (programs : List (List Insn)) → AllValid programs → (call : Record)
    → verdict_of (chain_without (unread_places call.nr) programs) call ≡ verdict_of programs (taken_as call)

-- what Linux takes a call for, it takes for itself
abbrev pub TakenIsTakenSo : Type 0
TakenIsTakenSo = (call : Record) → taken_as (taken_as call) ≡ taken_as call

-- worked by hand: of socket(2) Linux reads three ints; of chmod(2) an address
-- and a mode, which counts as 32 bits; a number that the table does not know has six arguments of 64 bits
pub record WorkedTaken : Type 0 where
  pub socket : taken_as (native 41 7 (0x100000010 ∷ 0xffffffff00000003 ∷ 9 ∷ 5 ∷ 6 ∷ 7 ∷ [])) ≡ native 41 7 (0x10 ∷ 3 ∷ 9 ∷ 0 ∷ 0 ∷ 0 ∷ [])
  pub chmod : taken_as (native 90 0 (0x7fff00001234 ∷ 0x5000001ff ∷ 1 ∷ 0 ∷ 0 ∷ 0 ∷ [])) ≡ native 90 0 (0x7fff00001234 ∷ 0x1ff ∷ 0 ∷ 0 ∷ 0 ∷ 0 ∷ [])
  pub unknown : taken_as (native 4000 0 (0x100000001 ∷ 2 ∷ 3 ∷ 4 ∷ 5 ∷ 0xffffffffffffffff ∷ [])) ≡ native 4000 0 (0x100000001 ∷ 2 ∷ 3 ∷ 4 ∷ 5 ∷ 0xffffffffffffffff ∷ [])
