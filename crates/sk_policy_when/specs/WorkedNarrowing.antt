-- Narrowed calls, worked out by hand: openat(2) is 257 on x86-64, fcntl(2) 72, pipe(2) 22 and chmod(2) 90. Of openat Linux reads two
-- ints and a mode of 16 bits, of fcntl two numbers of 32 bits and one of 64, of chmod a mode; the other arguments of these are addresses.
-- So is the first one of munmap(2), which is 11; its other one is a number of 64 bits.
use Rattle.std.specs.Prelude.{ℕ, ◌≡◌, true, false, List, [], ◌∷◌, codes}
use Rattle.sk_insn.specs.declared.record.Record.{Record}
use Rattle.sk_arguments.specs.declared.naming.Naming.TheVariants.{Numbers}
use Rattle.sk_names.specs.declared.architecture.Architecture.TheVariants as architecture
use Rattle.sk_replay.specs.declared.call.Call.{Call}
use Rattle.sk_replay.specs.declared.value.Value.TheVariants.{Told, Unknown}
use Rattle.sk_replay.specs.Calls.{call_begun, call_with}
use Rattle.sk_replay.specs.WorkedSeen.{opened}
use Rattle.sk_when.specs.declared.row.ConditionalRow.{ConditionalRow}
use Rattle.sk_policy_when.specs.Allowing.{allow_text, allowed_verdict}
use Rattle.sk_policy_when.specs.Narrowing.{AreAllowedRows, Condition, allowed_rows, conditions_for, conditions_on, holds, is_wide, unshown_arguments}

abbrev pub asks : ℕ → ℕ → List ℕ → Condition
asks i mask numbers = record { argument = i; mask = mask; numbers = numbers }

-- AT_FDCWD, which is -100, is the first argument of both calls of openat
abbrev pub of_openat : List Condition
of_openat = asks 0 0xffffffff (0xffffff9c ∷ []) ∷ asks 2 0xffffffff (0 ∷ 0x80000 ∷ []) ∷ []

-- openat with a folder, an address, flags, and anything behind them
abbrev pub opens : ℕ → ℕ → Record
opens folder flags = record { nr = 257; arch = 0; ip = 0; args = folder ∷ 0x7ffe1000 ∷ flags ∷ 0x1b6 ∷ 7 ∷ 7 ∷ [] }

pub record NarrowingWorks : Type 0 where
  pub flags : conditions_on opened 257 ≡ of_openat
  pub of_another : conditions_on opened 72 ≡ asks 0 0xffffffff (3 ∷ []) ∷ asks 1 0xffffffff (1 ∷ []) ∷ []
  pub flags_hidden : conditions_on (call_with 257 (Told 0xffffff9c ∷ Unknown ∷ Unknown ∷ []) ∷ opened) 257 ≡ asks 0 0xffffffff (0xffffff9c ∷ []) ∷ []
  pub flags_left_out : conditions_on (call_begun 257 (Told 0xffffff9c ∷ []) ∷ opened) 257 ≡ asks 0 0xffffffff (0xffffff9c ∷ []) ∷ []
  pub addresses : conditions_on (call_with 22 (Told 0x7ffe1000 ∷ []) ∷ []) 22 ≡ []
  pub address_of_64_bits : conditions_on (call_with 11 (Told 0x7f0000001000 ∷ Told 4096 ∷ []) ∷ []) 11 ≡ asks 1 0xffffffffffffffff (4096 ∷ []) ∷ []
  pub mode : conditions_on (call_with 90 (Unknown ∷ Told 0x101b6 ∷ []) ∷ []) 90 ≡ asks 1 0xffff (0x1b6 ∷ []) ∷ []
  pub whole : conditions_on (call_with 72 (Told 0x100000003 ∷ Told 1030 ∷ Told 0x100000003 ∷ []) ∷ []) 72
      ≡ asks 0 0xffffffff (3 ∷ []) ∷ asks 1 0xffffffff (1030 ∷ []) ∷ asks 2 0xffffffffffffffff (0x100000003 ∷ []) ∷ []
  pub not_narrowed : conditions_for (72 ∷ []) opened 257 ≡ []
  pub in_no_log : conditions_for (0 ∷ []) opened 0 ≡ []
  pub one_row_for_each : allowed_rows (22 ∷ 257 ∷ []) (0 ∷ 257 ∷ []) opened
      ≡ record { nr = 22; conditions = [] } ∷ record { nr = 257; conditions = of_openat } ∷ []
  pub mode_is_unshown : unshown_arguments opened 257 ≡ 3 ∷ []
  pub none_is_unshown : unshown_arguments (call_with 11 (Unknown ∷ Told 4096 ∷ []) ∷ []) 11 ≡ []
  pub all_are_unshown : unshown_arguments (call_with 257 [] ∷ []) 257 ≡ 0 ∷ 2 ∷ 3 ∷ []
  pub one_is_narrowed : is_wide opened 257 ≡ false
  pub nothing_shown : is_wide (call_with 257 [] ∷ []) 257 ≡ true
  pub nothing_to_show : is_wide (call_with 22 [] ∷ []) 22 ≡ false
  pub nothing_made : is_wide opened 0 ≡ false
  pub other_half : holds (opens 0x7ffffff9c 0) (asks 0 0xffffffff (0xffffff9c ∷ [])) ≡ true
  pub other_folder : holds (opens 3 0) (asks 0 0xffffffff (0xffffff9c ∷ [])) ≡ false
  pub as_logged : allowed_verdict architecture.X86_64 (257 ∷ []) (257 ∷ []) opened (opens 0xffffff9c 0x80000) ≡ 0x7fff0000
  pub with_other_flags : allowed_verdict architecture.X86_64 (257 ∷ []) (257 ∷ []) opened (opens 0xffffff9c 0x40) ≡ 0x00050001
  pub all_flags : allowed_verdict architecture.X86_64 (257 ∷ []) [] opened (opens 0xffffff9c 0x40) ≡ 0x7fff0000
  pub text : (rows : List ConditionalRow) → AreAllowedRows (allowed_rows (22 ∷ 72 ∷ []) (72 ∷ []) opened) rows
      → allow_text Numbers architecture.X86_64 rows
      ≡ codes "default errno/1 EPERM\n22 pipe allow\n72 fcntl\n  allow where (args[0] & 0xffffffff) == 0x3 && (args[1] & 0xffffffff) == 0x1\n  errno/1 EPERM else\n"
  pub in_two_lines : (rows : List ConditionalRow) → AreAllowedRows (allowed_rows (257 ∷ []) (257 ∷ []) opened) rows
      → allow_text Numbers architecture.X86_64 rows
      ≡ codes "default errno/1 EPERM\n257 openat\n  allow where (args[0] & 0xffffffff) == 0xffffff9c\n      && ((args[2] & 0xffffffff) == 0 || (args[2] & 0xffffffff) == 0x80000)\n  errno/1 EPERM else\n"
