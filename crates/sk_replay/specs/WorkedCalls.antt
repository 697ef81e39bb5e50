-- Lines of a log, and its calls on architectures, that are worked out by hand: the lines as strace(1) writes them, the numbers
-- those of asm/unistd.h of each.
use Rattle.std.specs.Prelude.{◌≡◌, ◌^◌, [], ◌∷◌, codes, Some, None}
use Rattle.sk_names.specs.declared.architecture.Architecture.TheVariants as architecture
use Rattle.sk_replay.specs.declared.line.LogLine.TheVariants.{Made, Event, Unclear}
use Rattle.sk_replay.specs.declared.value.Value.TheVariants.{Told, Unknown}
use Rattle.sk_replay.specs.Calls.{call_begun, call_with, record_of}
use Rattle.sk_replay.specs.Lines.{line_of, number_in}
use Rattle.sk_replay.specs.Replaying.{call_text, distinct_calls}

pub record WorkedCalls : Type 0 where
  pub on_x86_64 : number_in architecture.X86_64 (codes "socket") ≡ Some 41
  pub on_i386 : number_in architecture.I386 (codes "socket") ≡ Some 359
  pub on_x32 : number_in architecture.X32 (codes "read") ≡ Some (2 ^ 30)
  pub shown_on_x32 : number_in architecture.X32 (codes "syscall_0x40000000") ≡ Some (2 ^ 30)
  pub only_on_i386 : number_in architecture.X86_64 (codes "waitpid") ≡ None
  pub line : line_of architecture.I386 (codes "9 waitpid(0x1) = 0x1") ≡ Made (call_with 7 (Told 1 ∷ []))
  pub unclear : line_of architecture.X86_64 (codes "9 waitpid(0x1) = 0x1") ≡ Unclear
  pub usual :
      line_of architecture.X86_64 (codes "9777  openat(AT_FDCWD</tmp>, \"/etc/passwd\", O_RDONLY|O_CLOEXEC) = 3</etc/passwd>")
      ≡ Made (call_with 257 (Told 4294967196 ∷ Unknown ∷ Told 524288 ∷ []))
  pub failed :
      line_of architecture.X86_64 (codes "9777  access(\"/etc/ld.so.preload\", R_OK) = -1 ENOENT (No such file or directory)")
      ≡ Made (call_with 21 (Unknown ∷ Unknown ∷ []))
  pub timed :
      line_of architecture.X86_64 (codes "9835  20:01:00.123456 brk(NULL)   = 0x56048a3a1000 <0.000012>") ≡ Made (call_with 12 (Told 0 ∷ []))
  pub with_pointer : line_of architecture.X86_64 (codes "9837  [00007f5a4214cc47] brk(NULL) = 0x55890e142000") ≡ Made (call_with 12 (Told 0 ∷ []))
  pub with_number : line_of architecture.X86_64 (codes "9849  [  12] brk(NULL) = 0x56120e95f000") ≡ Made (call_with 12 (Told 0 ∷ []))
  pub ended_by_it : line_of architecture.X86_64 (codes "9753  exit_group(0) = ?") ≡ Made (call_with 231 (Told 0 ∷ []))
  pub begun : line_of architecture.X86_64 (codes "9753  wait4(-1,  <unfinished ...>") ≡ Made (call_begun 61 (Unknown ∷ []))
  pub begun_with_none : line_of architecture.X86_64 (codes "9753  sysinfo( <unfinished ...>") ≡ Made (call_begun 99 [])
  pub begun_inside : line_of architecture.X86_64 (codes "9753  clone3({flags=CLONE_VM <unfinished ...>") ≡ Made (call_begun 435 (Unknown ∷ []))
  pub cloned :
      line_of architecture.X86_64 (codes "10010 clone(child_stack=NULL, flags=CLONE_VM|SIGCHLD, child_tidptr=0x7f2fd6bf7a10) = 10011")
      ≡ Made (call_with 56 (Told 273 ∷ Told 0 ∷ Unknown ∷ Unknown ∷ Unknown ∷ []))
  pub cloned_on_s390 :
      line_of architecture.S390x (codes "10010 clone(child_stack=NULL, flags=CLONE_VM|SIGCHLD) = 10011")
      ≡ Made (call_with 120 (Told 0 ∷ Told 273 ∷ Unknown ∷ Unknown ∷ Unknown ∷ []))
  pub cloned_raw : line_of architecture.X86_64 (codes "9 clone(0x111, 0) = 0xa") ≡ Made (call_with 56 (Told 273 ∷ Told 0 ∷ []))
  pub two_registers : line_of architecture.I386 (codes "9 pread64(3, \"\", 784, 0x40) = 0") ≡ Made (call_with 180 (Unknown ∷ Unknown ∷ Unknown ∷ Told 64 ∷ []))
  pub left_out : line_of architecture.X86_64 (codes "9 preadv2(3, [], 1, 0, 0x8) = 0") ≡ Made (call_with 327 (Unknown ∷ Unknown ∷ Unknown ∷ Told 0 ∷ Told 8 ∷ []))
  pub cut_off : line_of architecture.X86_64 (codes "9 close(3") ≡ Unclear
  pub no_result : line_of architecture.X86_64 (codes "9 close(3)") ≡ Unclear
  pub left_quoted : line_of architecture.X86_64 (codes "9 unlink(\"a) = 0") ≡ Unclear
  pub two_names : line_of architecture.X86_64 (codes "9 sh close(3) = 0") ≡ Unclear
  pub blank : line_of architecture.X86_64 [] ≡ Event
  pub blank_with_spaces : line_of architecture.X86_64 (codes "   ") ≡ Event
  pub number_alone : line_of architecture.X86_64 (codes "9 ") ≡ Unclear
  pub parenthesis_alone : line_of architecture.X86_64 (codes " (") ≡ Unclear
  pub signal : line_of architecture.X86_64 (codes "9 --- SIGCHLD {si_signo=SIGCHLD, si_code=CLD_EXITED} ---") ≡ Event
  pub attached : line_of architecture.X86_64 (codes "strace: Process 9 attached") ≡ Event
  pub ended : line_of architecture.X86_64 (codes "[pid 9] +++ exited with 0 +++") ≡ Event
  pub dumped : line_of architecture.X86_64 (codes "9 +++ killed by SIGSEGV (core dumped) +++") ≡ Event
  pub resumed : line_of architecture.X86_64 (codes "9 <... read resumed>\"(\", 1) = 1") ≡ Event
  pub with_other_arguments :
      distinct_calls architecture.X86_64 (codes "9 getppid() = 0x1\n9 getppid(0x7) = 0x1\n9 getppid() = 0x1\n") ≡ 2
  pub with_one_that_is_shown :
      distinct_calls architecture.X86_64 (codes "9 getppid() = 0x1\n9 getppid(0) = 0x1\n9 getppid() = 0x1\n") ≡ 2
  pub seen :
      record_of architecture.I386 (call_with 7 (Told 1 ∷ Unknown ∷ []))
      ≡ record { nr = 7; arch = 1073741827; ip = 0; args = 1 ∷ 0 ∷ 0 ∷ 0 ∷ 0 ∷ 0 ∷ [] }
  pub text : call_text architecture.I386 (call_with 7 (Told 1 ∷ [])) ≡ codes "waitpid(0x1)"
  pub text_on_x86_64 : call_text architecture.X86_64 (call_with 7 (Told 1 ∷ Unknown ∷ [])) ≡ codes "poll(0x1, ?)"
  pub text_begun : call_text architecture.X86_64 (call_begun 0 (Told 3 ∷ [])) ≡ codes "read(0x3, ?, ?, ?, ?, ?)"
  pub text_without_the_bit : call_text architecture.X32 (call_with 0 []) ≡ codes "syscall_0x0()"
  pub text_with_it : call_text architecture.X32 (call_with (2 ^ 30) []) ≡ codes "read()"
