-- The audit records of calls that a filter refused or logged. audit_seccomp of the kernel's kernel/auditsc.c writes
-- `type=1326 audit(TIME:SERIAL): KEY=VALUE ..`, in front of which a log has its own words. auditd(8) writes
-- `type=SECCOMP msg=audit(TIME:SERIAL): KEY=VALUE ..`, and journalctl(1) `audit[PID]: SECCOMP KEY=VALUE ..`, as
-- journald-audit.c of systemd stores it.
use Rattle.std.specs.Prelude.{ℕ, ◌==◌, ◌&&◌, ◌||◌, ◌-◌, ◌^◌, nat_eq, nat_le, nat_lt, Bool, true, false, if◌then◌else◌, List, [], ◌∷◌, length, drop, filter, codes, Option, Some, None}
use Rattle.std.specs.Option.{option_map}
use Rattle.std.specs.List.{list_any, starts_with, ends_with, before_first, after_first}
use Rattle.std.specs.Str.{bytes_eq}
use Rattle.sk_text.specs.Lines.{words_of}
use Rattle.sk_text.specs.Numbers.{number_in, up_to}
use Rattle.sk_text.specs.Words.{one_of}
use Rattle.sk_asm.specs.Grammar.{◌>>=◌}
use Rattle.sk_names.specs.declared.architecture.Architecture.{Architecture}
use Rattle.sk_names.specs.declared.architecture.Architecture.TheVariants.{X86_64, X32}
use Rattle.sk_names.specs.Architectures.{audit_of}
use Rattle.sk_replay.specs.declared.call.Call.{Call}
use Rattle.sk_replay.specs.Calls.{call_recorded}

-- AUDIT_SECCOMP of linux/audit.h, by its number or by its name
unfoldable pub is_record_type : List ℕ → Bool
is_record_type word = bytes_eq word (codes "type=1326") || bytes_eq word (codes "type=SECCOMP")

-- `audit[PID]:`, by which the journal says where a record comes from
unfoldable pub is_source : List ℕ → Bool
is_source word = starts_with nat_eq word (codes "audit[") && ends_with nat_eq word (codes "]:")

-- the first word is the type as the journal names it
abbrev pub begins_with_type : List (List ℕ) → Bool
begins_with_type [] = false
begins_with_type (word ∷ words) = bytes_eq word (codes "SECCOMP")

-- the type stands directly behind where a record comes from
abbrev pub has_source_and_type : List (List ℕ) → Bool
has_source_and_type [] = false
has_source_and_type (word ∷ words) = (is_source word && begins_with_type words) || has_source_and_type words

-- the words in front of the first parenthesis (40)
abbrev pub words_in_front : List ℕ → List (List ℕ)
words_in_front line = words_of (before_first (λ byte. byte == 40) line)

-- the text in which a record has its fields: what stands behind its first parenthesis, or the whole line of the journal, which has
-- no parenthesis but in a field. None is in a line that is no record
unfoldable pub fields_in : List ℕ → Option (List ℕ)
fields_in line =
    if list_any is_record_type (words_in_front line) then Some (after_first (λ byte. byte == 40) line)
    else if has_source_and_type (words_in_front line) then Some line
    else None

-- what stands behind a key, such as `arch=`, in the only word that begins with it. None does in `comm=` and `exe=`, which the
-- watched program chooses: audit_log_untrustedstring of kernel/audit.c writes them between quotes or, where they hold a space,
-- a quote or a control byte, in hexadecimal, so each of them is one word
abbrev pub value_behind : List ℕ → List (List ℕ) → Option (List ℕ)
value_behind key words = option_map (drop (length key)) (one_of (filter (λ word. starts_with nat_eq word key) words))

-- the same, where it is digits of a radix, and a number of 32 bits
unfoldable pub number_behind : ℕ → List ℕ → List (List ℕ) → Option ℕ
number_behind radix key words = value_behind key words >>= λ digits. up_to (2 ^ 32 - 1) (number_in radix digits)

-- x32 has the audit number of x86-64. Its calls have bit 30, and those of x86-64 neither that nor bit 31
abbrev pub has_number : Architecture → ℕ → Bool
has_number X86_64 nr = nat_lt nr (2 ^ 30)
has_number X32 nr = nat_le (2 ^ 30) nr && nat_lt nr (2 ^ 31)
has_number by nr = true

-- the action that a record tells, without data, as seccomp_log of kernel/seccomp.c gives it. The byte 29 may stand behind it:
-- auditd(8) puts that in front of the names that it adds
unfoldable pub action_in : List (List ℕ) → Option ℕ
action_in words =
    value_behind (codes "code=0x") words >>= λ value. up_to (2 ^ 32 - 1) (number_in 16 (before_first (λ byte. byte == 29) value))

-- the words of its fields: a call of this architecture, of which nothing is known but its number and the action that is told
unfoldable pub audited_call : Architecture → List (List ℕ) → Option Call
audited_call by words = do
  audit ← number_behind 16 (codes "arch=") words
  nr ← number_behind 10 (codes "syscall=") words
  if audit == audit_of by && has_number by nr then Some (call_recorded nr (action_in words)) else None
