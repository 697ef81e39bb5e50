-- Chains that look at the architecture of a call: seccomp(2), the field `arch` of `struct seccomp_data`.
use Rattle.std.specs.Prelude.{ℕ, ◌≡◌, Bool, false, List}
use Rattle.std.specs.List.{list_any}
use Rattle.sk_insn.specs.declared.insn.Insn.{Insn}
use Rattle.sk_insn.specs.declared.record.Record.{Record}
use Rattle.sk_insn.specs.Operations.{operation_of}
use Rattle.sk_filter.specs.Architectures.{loads_architecture}
use Rattle.sk_filter.specs.Chains.{AllValid}
use Rattle.sk_filter.specs.Verdict.{verdict_of}
use Rattle.sk_survey.specs.ChainsFor.{of_architecture}

-- an instruction of the filter loads it
abbrev pub program_looks : List Insn → Bool
program_looks insns = list_any (λ insn. loads_architecture (operation_of insn.code) insn) insns

-- some filter does
abbrev pub looks_at_architecture : List (List Insn) → Bool
looks_at_architecture programs = list_any program_looks programs

-- where none does, the verdict on a call is that on the same call of every other architecture
abbrev pub UnseenArchitectures : Type 0
UnseenArchitectures =
    (programs : List (List Insn)) → AllValid programs → looks_at_architecture programs ≡ false
    → (architecture : ℕ) → (call : Record) → verdict_of programs (of_architecture architecture call) ≡ verdict_of programs call
