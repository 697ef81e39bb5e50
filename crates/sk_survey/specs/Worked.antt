-- Calls of architectures worked out by hand, and a law on warnings. The numbers are those of asm/unistd.h, where x32 has the bit
-- __X32_SYSCALL_BIT, 0x40000000, and those of linux/audit.h.
use Rattle.std.specs.Prelude.{ℕ, ◌≡◌, ◌≢◌, ◌↔◌, true, [], Some, None}
use Rattle.sk_insn.specs.declared.record.Record.{Record}
use Rattle.sk_names.specs.declared.architecture.Architecture.TheVariants as architecture
use Rattle.sk_survey.specs.declared.told.Told.{Told}
use Rattle.sk_survey.specs.Alike.{namesake}
use Rattle.sk_survey.specs.AnswersByArchitecture.{IsCallBy}
use Rattle.sk_survey.specs.Text.{warned_text}
use Rattle.sk_survey.specs.Told.{warns}

abbrev pub call_with : ℕ → ℕ → Record
call_with arch nr = record { nr = nr; arch = arch; ip = 0; args = [] }

pub record WorkedNumbers : Type 0 where
  pub read_of_x86_64 : IsCallBy architecture.X86_64 (call_with 0xC000003E 0)
  pub last_of_x86_64 : IsCallBy architecture.X86_64 (call_with 0xC000003E 0x3fffffff)
  pub none_with_the_bit : IsCallBy architecture.X86_64 (call_with 0xC000003E 0x40000000) → ⊥
  pub read_of_x32 : IsCallBy architecture.X32 (call_with 0xC000003E 0x40000000)
  pub last_of_x32 : IsCallBy architecture.X32 (call_with 0xC000003E 0x7fffffff)
  pub none_without_it : IsCallBy architecture.X32 (call_with 0xC000003E 0x3fffffff) → ⊥
  pub none_with_a_higher_bit : IsCallBy architecture.X32 (call_with 0xC000003E 0x80000000) → ⊥
  pub first_of_i386 : IsCallBy architecture.I386 (call_with 0x40000003 0)
  pub last_of_i386 : IsCallBy architecture.I386 (call_with 0x40000003 0xffffffff)
  pub none_of_another : IsCallBy architecture.I386 (call_with 0xC000003E 0) → ⊥

-- ptrace(2) is 101 on x86-64, 521 on x32 and 26 on i386, where 101 is ioperm(2); getpid(2) is 39 on x86-64 and on x32; waitpid(2)
-- is a call of i386 alone
pub record WorkedNamesakes : Type 0 where
  pub ptrace_of_x32 : namesake architecture.X32 0x40000209 ≡ Some 101
  pub ptrace_of_i386 : namesake architecture.I386 26 ≡ Some 101
  pub ioperm_of_i386 : namesake architecture.I386 101 ≡ Some 173
  pub getpid_of_x32 : namesake architecture.X32 0x40000027 ≡ Some 39
  pub none_of_waitpid : namesake architecture.I386 7 ≡ None

-- there is something to warn of exactly where a warning is written
abbrev pub WarnsWhereItIsWritten : Type 0
WarnsWhereItIsWritten = (it : Told) → (warns it ≡ true) ↔ (warned_text it ≢ [])
