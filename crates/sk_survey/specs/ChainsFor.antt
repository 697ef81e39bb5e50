-- Chains for the calls of one architecture.
use Rattle.std.specs.Prelude.{ℕ, ◌≡◌, ◌<◌, ◌^◌, List, map}
use Rattle.sk_insn.specs.declared.insn.Insn.{Insn}
use Rattle.sk_insn.specs.declared.record.Record.{Record}
use Rattle.sk_insn.specs.Record.{IsNative}
use Rattle.sk_filter.specs.Chains.{AllValid}
use Rattle.sk_filter.specs.Verdict.{verdict_of}
use Rattle.sk_filter.specs.Architectures.{for_architecture}

-- each filter loads this number wherever it loads the architecture
abbrev pub chain_for : ℕ → List (List Insn) → List (List Insn)
chain_for architecture programs = map (for_architecture architecture) programs

-- the same call, of another architecture
abbrev pub of_architecture : ℕ → Record → Record
of_architecture architecture call = record call { arch = architecture }

-- what a chain for an architecture answers to a call of x86-64, the chain answers to the same call of that architecture
abbrev pub ChainsForArchitectures : Type 0
ChainsForArchitectures =
    (programs : List (List Insn)) → AllValid programs → (architecture : ℕ) → architecture < 2 ^ 32 → (call : Record) → IsNative call
    → verdict_of (chain_for architecture programs) call ≡ verdict_of programs (of_architecture architecture call)
