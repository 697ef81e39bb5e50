-- Lines that are worked out by hand: what strace(1) tells of modes, and the records that audit_seccomp of kernel/auditsc.c writes,
-- as the logs of auditd(8), dmesg(1), journalctl(1) and syslog have them. The numbers are those of linux/audit.h and asm/unistd.h.
use Rattle.std.specs.Prelude.{◌≡◌, ◌+◌, ◌-◌, ◌^◌, ◌++◌, [], ◌∷◌, codes, Some}
use Rattle.sk_names.specs.declared.architecture.Architecture.TheVariants as architecture
use Rattle.sk_replay.specs.declared.line.LogLine.TheVariants.{Made, Event, Unclear}
use Rattle.sk_replay.specs.declared.value.Value.TheVariants.{Told, Unknown}
use Rattle.sk_replay.specs.Calls.{call_begun, call_recorded, call_with}
use Rattle.sk_replay.specs.Lines.{line_of}

pub record WorkedLines : Type 0 where
  pub mode_64 : line_of architecture.X86_64 (codes "[ Process PID=9 runs in 64 bit mode. ]") ≡ Event
  pub mode_32 : line_of architecture.I386 (codes "9 [ Process PID=9 runs in 32 bit mode. ]") ≡ Event
  pub mode_32_of_arm : line_of architecture.Arm (codes "[pid  9] [ Process PID=9 runs in 32 bit mode. ]") ≡ Event
  pub mode_x32 : line_of architecture.X32 (codes "[ Process PID=9 runs in x32 mode. ]") ≡ Event
  pub mode_of_others : line_of architecture.Aarch64 (codes "[ Process PID=9 runs in 64 bit mode. ]") ≡ Event
  pub not_64 : line_of architecture.I386 (codes "[ Process PID=9 runs in 64 bit mode. ]") ≡ Unclear
  pub not_64_but_x32 : line_of architecture.X32 (codes "[ Process PID=9 runs in 64 bit mode. ]") ≡ Unclear
  pub not_32 : line_of architecture.X86_64 (codes "[pid  9] [ Process PID=9 runs in 32 bit mode. ]") ≡ Unclear
  pub not_32_of_others : line_of architecture.Aarch64 (codes "9 [ Process PID=9 runs in 32 bit mode. ]") ≡ Unclear
  pub not_x32 : line_of architecture.X86_64 (codes "[ Process PID=9 runs in x32 mode. ]") ≡ Unclear
  pub mode_cut_off : line_of architecture.X86_64 (codes "[ Process PID=9 runs in 64 bit") ≡ Unclear
  pub attached : line_of architecture.I386 (codes "Process 9 attached") ≡ Event
  pub detached : line_of architecture.I386 (codes "Process 9 detached") ≡ Event
  pub resumed : line_of architecture.I386 (codes "Process 9 resumed") ≡ Event
  pub place : line_of architecture.X86_64 (codes " > /bin/x runs in 32 bit mode. ]") ≡ Event
  pub of_auditd :
      line_of architecture.X86_64 (codes "type=SECCOMP msg=audit(1700000000.123:456): auid=1000 uid=1000 gid=1000 ses=2 subj=unconfined pid=1234 comm=\"x\" exe=\"/bin/x\" sig=31 arch=c000003e syscall=257 compat=0 ip=0x7f1c2a code=0x80000000")
      ≡ Made (call_recorded 257 (Some 0x80000000))
  -- a byte 0x1d, and what auditd adds behind it
  pub enriched :
      line_of architecture.X86_64 (codes "type=SECCOMP msg=audit(1700000000.123:456): auid=1000 uid=1000 gid=1000 ses=2 subj=unconfined pid=1234 comm=\"x\" exe=\"/bin/x\" sig=31 arch=c000003e syscall=257 compat=0 ip=0x7f1c2a code=0x80000000" ++ (29 ∷ codes "ARCH=x86_64 SYSCALL=openat AUID=\"x\""))
      ≡ Made (call_recorded 257 (Some 0x80000000))
  pub of_dmesg :
      line_of architecture.X86_64 (codes "[ 1234.567890] audit: type=1326 audit(1700000000.123:456): pid=9 arch=c000003e syscall=257 compat=0 ip=0x7f code=0x50000")
      ≡ Made (call_recorded 257 (Some 0x50000))
  pub of_dmesg_with_date :
      line_of architecture.X86_64 (codes "[Tue Dec  1 01:02:03 2026] audit: type=1326 audit(1700000000.123:456): pid=9 arch=c000003e syscall=257")
      ≡ Made (call_begun 257 [])
  pub of_the_journal :
      line_of architecture.X86_64 (codes "Dec 01 01:02:03 host kernel: audit: type=1326 audit(1700000000.123:456): pid=9 arch=c000003e syscall=257")
      ≡ Made (call_begun 257 [])
  pub of_syslog :
      line_of architecture.X86_64 (codes "2026-12-01T01:02:03.123456+00:00 host kernel: [ 1234.567890] audit: type=1326 audit(1700000000.123:456): pid=9 arch=c000003e syscall=257")
      ≡ Made (call_begun 257 [])
  pub of_a_node :
      line_of architecture.X86_64 (codes "node=host type=SECCOMP msg=audit(1700000000.123:456): pid=9 arch=c000003e syscall=0")
      ≡ Made (call_begun 0 [])
  pub confined :
      line_of architecture.X86_64 (codes "audit: type=1326 audit(1700000000.123:456): pid=9 subj=docker-default (enforce) arch=c000003e syscall=257")
      ≡ Made (call_begun 257 [])
  pub named_as_a_field :
      line_of architecture.X86_64 (codes "audit: type=1326 audit(1700000000.123:456): pid=9 comm=\"syscall=1\" exe=\"/bin/arch=3\" arch=c000003e syscall=257")
      ≡ Made (call_begun 257 [])
  pub on_i386 : line_of architecture.I386 (codes "audit: type=1326 audit(1700000000.123:456): pid=9 arch=40000003 syscall=11") ≡ Made (call_begun 11 [])
  pub on_aarch64 : line_of architecture.Aarch64 (codes "audit: type=1326 audit(1700000000.123:456): pid=9 arch=c00000b7 syscall=56") ≡ Made (call_begun 56 [])
  pub on_x32 :
      line_of architecture.X32 (codes "audit: type=1326 audit(1700000000.123:456): pid=9 arch=c000003e syscall=1073741826")
      ≡ Made (call_begun (2 ^ 30 + 2) [])
  pub greatest_on_x86_64 :
      line_of architecture.X86_64 (codes "audit: type=1326 audit(1700000000.123:456): pid=9 arch=c000003e syscall=1073741823")
      ≡ Made (call_begun (2 ^ 30 - 1) [])
  pub greatest_on_x32 :
      line_of architecture.X32 (codes "audit: type=1326 audit(1700000000.123:456): pid=9 arch=c000003e syscall=2147483647")
      ≡ Made (call_begun (2 ^ 31 - 1) [])
  pub greatest_of_others :
      line_of architecture.S390x (codes "audit: type=1326 audit(1700000000.123:456): pid=9 arch=80000016 syscall=4294967295")
      ≡ Made (call_begun (2 ^ 32 - 1) [])
  pub too_great : line_of architecture.S390x (codes "audit: type=1326 audit(1700000000.123:456): pid=9 arch=80000016 syscall=4294967296") ≡ Unclear
  pub below_0 : line_of architecture.X86_64 (codes "audit: type=1326 audit(1700000000.123:456): pid=9 arch=c000003e syscall=-1") ≡ Unclear
  pub with_the_bit : line_of architecture.X86_64 (codes "audit: type=1326 audit(1700000000.123:456): pid=9 arch=c000003e syscall=1073741826") ≡ Unclear
  pub without_the_bit : line_of architecture.X32 (codes "audit: type=1326 audit(1700000000.123:456): pid=9 arch=c000003e syscall=2") ≡ Unclear
  pub past_x32 : line_of architecture.X32 (codes "audit: type=1326 audit(1700000000.123:456): pid=9 arch=c000003e syscall=2147483648") ≡ Unclear
  pub past_x86_64 : line_of architecture.X86_64 (codes "audit: type=1326 audit(1700000000.123:456): pid=9 arch=c000003e syscall=2147483648") ≡ Unclear
  pub of_another : line_of architecture.X86_64 (codes "audit: type=1326 audit(1700000000.123:456): pid=9 arch=40000003 syscall=11") ≡ Unclear
  pub in_hexadecimal : line_of architecture.X86_64 (codes "audit: type=1326 audit(1700000000.123:456): pid=9 arch=c000003e syscall=0x101") ≡ Unclear
  pub in_digits_of_16 : line_of architecture.X86_64 (codes "audit: type=1326 audit(1700000000.123:456): pid=9 arch=c000003e syscall=1f") ≡ Unclear
  pub arch_with_its_radix : line_of architecture.X86_64 (codes "audit: type=1326 audit(1700000000.123:456): pid=9 arch=0xc000003e syscall=257") ≡ Unclear
  pub arch_in_decimal : line_of architecture.X86_64 (codes "audit: type=1326 audit(1700000000.123:456): pid=9 arch=3221225534 syscall=257") ≡ Unclear
  pub arch_by_its_name : line_of architecture.X86_64 (codes "audit: type=1326 audit(1700000000.123:456): pid=9 arch=x86_64 syscall=openat") ≡ Unclear
  pub no_arch : line_of architecture.X86_64 (codes "audit: type=1326 audit(1700000000.123:456): pid=9 syscall=257") ≡ Unclear
  pub no_number : line_of architecture.X86_64 (codes "audit: type=1326 audit(1700000000.123:456): pid=9 arch=c000003e compat=0") ≡ Unclear
  pub nothing_behind : line_of architecture.X86_64 (codes "audit: type=1326 audit(1700000000.123:456): pid=9 arch=c000003e syscall=") ≡ Unclear
  pub two_archs : line_of architecture.X86_64 (codes "audit: type=1326 audit(1700000000.123:456): pid=9 arch=c000003e arch=c000003e syscall=257") ≡ Unclear
  pub two_numbers : line_of architecture.X86_64 (codes "audit: type=1326 audit(1700000000.123:456): pid=9 syscall=1 arch=c000003e syscall=257") ≡ Unclear
  pub other_type : line_of architecture.X86_64 (codes "type=SYSCALL msg=audit(1700000000.123:456): pid=9 arch=c000003e syscall=257") ≡ Unclear
  pub other_number_of_a_type : line_of architecture.X86_64 (codes "audit: type=13260 audit(1700000000.123:456): pid=9 arch=c000003e syscall=257") ≡ Unclear
  pub no_type : line_of architecture.X86_64 (codes "audit: audit(1700000000.123:456): pid=9 arch=c000003e syscall=257") ≡ Unclear
  pub written :
      line_of architecture.X86_64 (codes "9 write(1, \" type=1326 arch=c000003e syscall=59 \", 36) = 36")
      ≡ Made (call_with 1 (Told 1 ∷ Unknown ∷ Told 36 ∷ []))
  pub written_and_cut_off : line_of architecture.X86_64 (codes "9 write(1, \" type=1326 arch=c000003e syscall=59 \"") ≡ Unclear
  pub read : line_of architecture.X86_64 (codes "9 <... read resumed>\" type=1326 ( arch=c000003e syscall=59 \", 36) = 36") ≡ Event
