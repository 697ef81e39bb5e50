-- Chains as they are for an architecture.
use Rattle.std.proofs.Common.{◌≡◌, List, refl, sym, ap, ◌∙◌, arith}
use Rattle.sk_insn.specs.declared.insn.Insn.{Insn}
use Rattle.sk_insn.specs.declared.record.Record.{Record}
use Rattle.sk_insn.specs.Record.{architecture, IsNative}
use Rattle.sk_filter.specs.Verdict.{verdict_of}
use Rattle.sk_names.specs.declared.architecture.Architecture.{Architecture}
use Rattle.sk_names.specs.declared.architecture.Architecture.TheVariants as architecture
use Rattle.sk_names.specs.Architectures.{audit_of}
use Rattle.sk_survey.proofs.Chains.{chains_for_architectures}
use Rattle.sk_ask.specs.Architectures.{call_on, AnswersTheArchitecture}

-- x86-64 and x32 have the number of x86-64
native : (programs : List (List Insn)) (by : Architecture) (call : Record) → audit_of by ≡ architecture → IsNative call
    → verdict_of programs call ≡ verdict_of programs (call_on by call)
native programs by call same is = ap (λ a. verdict_of programs (record call { arch = a })) (is ∙ sym same)

pub answers_the_architecture : AnswersTheArchitecture
answers_the_architecture programs valid architecture.X86_64 call is = native programs architecture.X86_64 call refl is
answers_the_architecture programs valid architecture.X32 call is = native programs architecture.X32 call refl is
answers_the_architecture programs valid architecture.I386 call is = chains_for_architectures programs valid (audit_of architecture.I386) (omega arith) call is
answers_the_architecture programs valid architecture.Aarch64 call is = chains_for_architectures programs valid (audit_of architecture.Aarch64) (omega arith) call is
answers_the_architecture programs valid architecture.Arm call is = chains_for_architectures programs valid (audit_of architecture.Arm) (omega arith) call is
answers_the_architecture programs valid architecture.Riscv64 call is = chains_for_architectures programs valid (audit_of architecture.Riscv64) (omega arith) call is
answers_the_architecture programs valid architecture.Ppc64le call is = chains_for_architectures programs valid (audit_of architecture.Ppc64le) (omega arith) call is
answers_the_architecture programs valid architecture.S390x call is = chains_for_architectures programs valid (audit_of architecture.S390x) (omega arith) call is
answers_the_architecture programs valid architecture.Loongarch64 call is = chains_for_architectures programs valid (audit_of architecture.Loongarch64) (omega arith) call is
