-- The least policy that allows some calls, worked out by hand: the numbers are those of asm/unistd.h of each architecture.
use Rattle.std.specs.Prelude.{ℕ, ◌≡◌, ◌+◌, ◌^◌, List, [], ◌∷◌, codes}
use Rattle.sk_insn.specs.declared.record.Record.{Record}
use Rattle.sk_arguments.specs.declared.naming.Naming.TheVariants.{Numbers}
use Rattle.sk_names.specs.declared.architecture.Architecture.{Architecture}
use Rattle.sk_names.specs.declared.architecture.Architecture.TheVariants as architecture
use Rattle.sk_when.specs.declared.row.ConditionalRow.{ConditionalRow}
use Rattle.sk_policy_when.specs.Allowing.{allow_text, allowed_verdict}
use Rattle.sk_policy_when.specs.Narrowing.{AreAllowedRows, allowed_rows}

-- the policy of numbers all of whose calls are allowed is this text
abbrev pub IsTextOf : Architecture → List ℕ → List ℕ → Type 0
IsTextOf by numbers text = (rows : List ConditionalRow) → AreAllowedRows (allowed_rows numbers [] []) rows → allow_text Numbers by rows ≡ text

-- a call with a number
abbrev pub with_number : ℕ → Record
with_number nr = record { nr = nr; arch = 0; ip = 0; args = 0 ∷ 0 ∷ 0 ∷ 0 ∷ 0 ∷ 0 ∷ [] }

-- allow is 0x7fff0000, errno/1 is 0x00050001, and kill_process is 0x80000000
pub record AllowingWorks : Type 0 where
  pub none : IsTextOf architecture.X86_64 [] (codes "default errno/1 EPERM\n")
  pub two : IsTextOf architecture.X86_64 (0 ∷ 231 ∷ []) (codes "default errno/1 EPERM\n0 read allow\n231 exit_group allow\n")
  pub without_a_name : IsTextOf architecture.X86_64 (1024 ∷ []) (codes "default errno/1 EPERM\n1024 - allow\n")
  pub on_aarch64 : IsTextOf architecture.Aarch64 (63 ∷ []) (codes "arch aarch64\ndefault errno/1 EPERM\n63 read allow\n")
  pub on_x32 : IsTextOf architecture.X32 ((2 ^ 30 + 39) ∷ []) (codes "default errno/1 EPERM\n1073741863 - allow\n")
  pub allowed : allowed_verdict architecture.X86_64 (0 ∷ 231 ∷ []) [] [] (with_number 231) ≡ 0x7fff0000
  pub not_allowed : allowed_verdict architecture.X86_64 (0 ∷ 231 ∷ []) [] [] (with_number 1) ≡ 0x00050001
  pub not_allowed_on_x32 : allowed_verdict architecture.X86_64 (0 ∷ 231 ∷ []) [] [] (with_number (2 ^ 30 + 1)) ≡ 0x80000000
  pub allowed_on_x32 : allowed_verdict architecture.X86_64 ((2 ^ 30 + 1) ∷ []) [] [] (with_number (2 ^ 30 + 1)) ≡ 0x7fff0000
