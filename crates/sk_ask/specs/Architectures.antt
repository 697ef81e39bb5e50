-- The architecture whose calls are asked of, and chains as they are for it.
use Rattle.std.specs.Prelude.{◌≡◌, ◌==◌, if◌then◌else◌, List, Option, Some, None}
use Rattle.sk_insn.specs.declared.insn.Insn.{Insn}
use Rattle.sk_insn.specs.declared.record.Record.{Record}
use Rattle.sk_insn.specs.Record.{architecture, IsNative}
use Rattle.sk_filter.specs.Chains.{AllValid}
use Rattle.sk_filter.specs.Verdict.{verdict_of}
use Rattle.sk_names.specs.declared.architecture.Architecture.{Architecture}
use Rattle.sk_names.specs.declared.architecture.Architecture.TheVariants.{X86_64}
use Rattle.sk_names.specs.Architectures.{audit_of}
use Rattle.sk_survey.specs.ChainsFor.{chain_for, of_architecture}

-- x86-64 where none is named
abbrev pub architecture_of : Option Architecture → Architecture
architecture_of None = X86_64
architecture_of (Some by) = by

-- each filter has its number as a constant; x32 has that of x86-64, for whose calls a chain is as it stands
abbrev pub chain_on : Architecture → List (List Insn) → List (List Insn)
chain_on by programs = if audit_of by == architecture then programs else chain_for (audit_of by) programs

-- the call that is shown as one of x86-64, as one of the architecture
abbrev pub call_on : Architecture → Record → Record
call_on by call = of_architecture (audit_of by) call

-- what that chain answers to a call of x86-64, the chain itself answers to the same call of the architecture
abbrev pub AnswersTheArchitecture : Type 0
AnswersTheArchitecture =
    (programs : List (List Insn)) → AllValid programs → (by : Architecture) (call : Record) → IsNative call
    → verdict_of (chain_on by programs) call ≡ verdict_of programs (call_on by call)
