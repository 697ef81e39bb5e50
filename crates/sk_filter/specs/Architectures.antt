-- Calls of other architectures, asked as calls of x86-64.
use Rattle.std.specs.Prelude.{ℕ, ◌≡◌, ◌==◌, ◌%◌, ◌^◌, Bool, false, if◌then◌else◌, List, map, Option, Some}
use Rattle.sk_insn.specs.declared.insn.Insn.{Insn}
use Rattle.sk_insn.specs.declared.record.Record.{Record}
use Rattle.sk_insn.specs.declared.operation.Register.TheVariants.{Accumulator}
use Rattle.sk_insn.specs.declared.operation.Operation.{Operation}
use Rattle.sk_insn.specs.declared.operation.Operation.TheVariants.{LoadRecord, LoadConstant}
use Rattle.sk_insn.specs.Operations.{operation_of, code_of}
use Rattle.sk_insn.specs.Record.{architecture}
use Rattle.sk_filter.specs.Valid.{IsValid}
use Rattle.sk_filter.specs.Meaning.{meaning_of}

-- an instruction loads the architecture of the call
abbrev pub loads_architecture : Option Operation → Insn → Bool
loads_architecture (Some LoadRecord) insn = insn.k == 4
loads_architecture operation insn = false

-- in its place one that loads this number
abbrev pub with_architecture : ℕ → Insn → Insn
with_architecture arch insn =
    if loads_architecture (operation_of insn.code) insn
    then record insn { code = code_of (LoadConstant Accumulator); k = arch }
    else insn

-- the filter as it is for calls of one architecture
abbrev pub for_architecture : ℕ → List Insn → List Insn
for_architecture arch insns = map (with_architecture arch) insns

-- the same call, of x86-64
abbrev pub as_native : Record → Record
as_native call = record call { arch = architecture }

-- a valid filter means to a call what the filter for its architecture means to the call as one of x86-64
abbrev pub ArchitecturesAreConstants : Type 0
ArchitecturesAreConstants =
    (insns : List Insn) → IsValid insns → (call : Record)
    → meaning_of insns call ≡ meaning_of (for_architecture (call.arch % 2 ^ 32) insns) (as_native call)
