-- Records of the kernel that are worked out by hand: as journalctl(1) prints what journald-audit.c of systemd stores, and the
-- actions that they tell, by the SECCOMP_RET_ actions of linux/seccomp.h.
use Rattle.std.specs.Prelude.{◌≡◌, [], ◌∷◌, codes, Some, None}
use Rattle.sk_names.specs.declared.architecture.Architecture.TheVariants as architecture
use Rattle.sk_replay.specs.declared.judged.Judged.TheVariants.{Verdict, Undecided}
use Rattle.sk_replay.specs.declared.line.LogLine.TheVariants.{Made, Event, Unclear}
use Rattle.sk_replay.specs.declared.recorded.Recorded.TheVariants as recorded
use Rattle.sk_replay.specs.declared.value.Value.TheVariants.{Told, Unknown}
use Rattle.sk_replay.specs.Calls.{call_begun, call_recorded, call_with}
use Rattle.sk_replay.specs.Lines.{line_of, recorded_of}
use Rattle.sk_replay.specs.Replaying.{distinct_calls, logged_name, logged_text, row_text}

pub record WorkedRecords : Type 0 where
  -- ---- the journal
  pub of_the_journal :
      line_of architecture.X86_64 (codes "Dec 01 11:00:00 host audit[1234]: SECCOMP auid=1000 uid=1000 gid=1000 ses=2 subj=unconfined pid=1234 comm=\"x\" exe=\"/bin/x\" sig=31 arch=c000003e syscall=257 compat=0 ip=0x7f1c2a code=0x80000000")
      ≡ Made (call_recorded 257 (Some 0x80000000))
  pub of_the_same : recorded_of architecture.X86_64 (codes "host audit[1234]: SECCOMP arch=c000003e syscall=257 code=0x80000000") ≡ recorded.Of (call_recorded 257 (Some 0x80000000))
  pub with_a_parenthesis :
      line_of architecture.X86_64 (codes "Dec 01 11:00:00 host audit[1234]: SECCOMP pid=1234 comm=\"a(b\" exe=\"/bin/x\" sig=0 arch=c000003e syscall=257 code=0x50000")
      ≡ Made (call_recorded 257 (Some 0x50000))
  pub with_a_monotonic_time :
      line_of architecture.X86_64 (codes "[ 1234.567890] audit[9]: SECCOMP pid=9 arch=c000003e syscall=0 code=0x7ffc0000")
      ≡ Made (call_recorded 0 (Some 0x7ffc0000))
  pub of_another : line_of architecture.X86_64 (codes "Dec 01 11:00:00 host audit[9]: SECCOMP pid=9 arch=40000003 syscall=11 code=0x80000000") ≡ Unclear
  pub of_another_alone : recorded_of architecture.X86_64 (codes "Dec 01 11:00:00 host audit[9]: SECCOMP pid=9 arch=40000003 syscall=11 code=0x80000000") ≡ recorded.Unclear
  pub two_numbers : line_of architecture.X86_64 (codes "Dec 01 11:00:00 host audit[9]: SECCOMP syscall=1 arch=c000003e syscall=257 code=0x80000000") ≡ Unclear
  pub type_further_on : line_of architecture.X86_64 (codes "Dec 01 11:00:00 host audit[9]: a SECCOMP arch=c000003e syscall=257") ≡ Unclear
  pub other_type : line_of architecture.X86_64 (codes "Dec 01 11:00:00 host audit[9]: SYSCALL arch=c000003e syscall=257") ≡ Unclear
  pub other_source : line_of architecture.X86_64 (codes "Dec 01 11:00:00 host sh[9]: SECCOMP arch=c000003e syscall=257") ≡ Unclear
  pub type_in_parentheses : line_of architecture.X86_64 (codes "Dec 01 11:00:00 host sh[9]: (audit[9]: SECCOMP arch=c000003e syscall=257)") ≡ Unclear
  pub written :
      line_of architecture.X86_64 (codes "9 write(2, \"audit[1]: SECCOMP arch=c000003e syscall=59 \", 36) = 3")
      ≡ Made (call_with 1 (Told 2 ∷ Unknown ∷ Told 36 ∷ []))
  pub written_behind_a_space :
      line_of architecture.X86_64 (codes "9 write(2, \" audit[1]: SECCOMP arch=c000003e syscall=59 \", 36) = 3")
      ≡ Made (call_with 1 (Told 2 ∷ Unknown ∷ Told 36 ∷ []))
  pub written_is_no_record : recorded_of architecture.X86_64 (codes "9 write(2, \" audit[1]: SECCOMP arch=c000003e syscall=59 \", 36) = 3") ≡ recorded.NoRecord
  pub event_is_no_record : recorded_of architecture.X86_64 (codes "9 <... read resumed>\" audit[1]: SECCOMP arch=c000003e syscall=59 \", 36) = 3") ≡ recorded.NoRecord
  pub nothing_is_no_record : recorded_of architecture.X86_64 [] ≡ recorded.NoRecord
  -- ---- the action
  pub no_code : line_of architecture.X86_64 (codes "audit: type=1326 audit(1700000000.123:456): pid=9 arch=c000003e syscall=257 compat=0") ≡ Made (call_recorded 257 None)
  pub kill_thread : line_of architecture.X86_64 (codes "audit: type=1326 audit(1700000000.123:456): pid=9 arch=c000003e syscall=257 code=0x0") ≡ Made (call_recorded 257 (Some 0))
  pub unknown_code : line_of architecture.X86_64 (codes "audit: type=1326 audit(1700000000.123:456): pid=9 arch=c000003e syscall=257 code=0x12340000") ≡ Made (call_recorded 257 (Some 0x12340000))
  pub greatest_code : line_of architecture.X86_64 (codes "audit: type=1326 audit(1700000000.123:456): pid=9 arch=c000003e syscall=257 code=0xffffffff") ≡ Made (call_recorded 257 (Some 0xffffffff))
  pub nine_digits : line_of architecture.X86_64 (codes "audit: type=1326 audit(1700000000.123:456): pid=9 arch=c000003e syscall=257 code=0x100000000") ≡ Made (call_recorded 257 None)
  pub no_digits : line_of architecture.X86_64 (codes "audit: type=1326 audit(1700000000.123:456): pid=9 arch=c000003e syscall=257 code=0x") ≡ Made (call_recorded 257 None)
  pub in_decimal : line_of architecture.X86_64 (codes "audit: type=1326 audit(1700000000.123:456): pid=9 arch=c000003e syscall=257 code=327680") ≡ Made (call_recorded 257 None)
  pub two_codes : line_of architecture.X86_64 (codes "audit: type=1326 audit(1700000000.123:456): pid=9 arch=c000003e syscall=257 code=0x0 code=0x0") ≡ Made (call_recorded 257 None)
  pub of_strace : line_of architecture.X86_64 (codes "9 getppid( <unfinished ...>") ≡ Made (call_recorded 110 None)
  -- ---- calls that are the same
  pub same_code : distinct_calls architecture.X86_64 (codes "audit[9]: SECCOMP arch=c000003e syscall=0 code=0x0\naudit: type=1326 audit(1.0:1): arch=c000003e syscall=0 code=0x0\n") ≡ 1
  pub other_code : distinct_calls architecture.X86_64 (codes "audit[9]: SECCOMP arch=c000003e syscall=0 code=0x0\naudit[9]: SECCOMP arch=c000003e syscall=0 code=0x50000\n") ≡ 2
  pub code_and_none : distinct_calls architecture.X86_64 (codes "audit[9]: SECCOMP arch=c000003e syscall=0 code=0x0\naudit[9]: SECCOMP arch=c000003e syscall=0\n9 read( <unfinished ...>\n") ≡ 2
  -- ---- the text
  pub killed : logged_text (Some 0x80000000) ≡ codes " (logged: kill_process)"
  pub refused : logged_text (Some 0x50000) ≡ codes " (logged: errno)"
  pub refused_with_data : logged_text (Some 0x50026) ≡ codes " (logged: errno)"
  pub unknown : logged_name 0x12340000 ≡ codes "0x12340000"
  pub nothing : logged_text None ≡ []
  pub row :
      row_text architecture.X86_64 (record { call = call_recorded 101 (Some 0x80000000); times = 1; judged = Verdict 0x7fff0000 })
      ≡ codes "1 ptrace(?, ?, ?, ?, ?, ?) allow (logged: kill_process)\n"
  pub row_with_data :
      row_text architecture.X86_64 (record { call = call_recorded 101 (Some 0x50000); times = 2; judged = Verdict 0x50001 })
      ≡ codes "2 ptrace(?, ?, ?, ?, ?, ?) errno/1 EPERM (logged: errno)\n"
  pub row_undecided :
      row_text architecture.X86_64 (record { call = call_recorded 101 (Some 0); times = 1; judged = Undecided 0 })
      ≡ codes "1 ptrace(?, ?, ?, ?, ?, ?) depends on args[0], which the log does not show (logged: kill_thread)\n"
  pub row_of_strace :
      row_text architecture.X86_64 (record { call = call_begun 101 []; times = 1; judged = Verdict 0x7fff0000 })
      ≡ codes "1 ptrace(?, ?, ?, ?, ?, ?) allow\n"
