-- Logs of strace(1) that are worked out by hand, as it writes them with `-f`, with `-o`, and with times. seccomp(2) is 317 (0x13d)
-- on x86-64, and 354 (0x162) on i386.
use Rattle.std.specs.Prelude.{ℕ, ◌≡◌, ◌++◌, List, [], ◌∷◌, codes, replicate, Option, Some, None}
use Rattle.sk_names.specs.declared.architecture.Architecture.TheVariants as architecture
use Rattle.sk_replay.specs.Since.{since_attached}

abbrev pub on_x86_64 : List (List ℕ) → Option (List (List ℕ))
on_x86_64 lines = since_attached architecture.X86_64 lines

abbrev pub on_i386 : List (List ℕ) → Option (List (List ℕ))
on_i386 lines = since_attached architecture.I386 lines

pub record WorkedSince : Type 0 where
  -- the line before, and the attachment itself
  pub behind_it :
      on_x86_64 (codes "7 getpid() = 7" ∷ codes "7 seccomp(SECCOMP_SET_MODE_FILTER, 0, {len=5}) = 0" ∷ codes "7 getuid() = 0" ∷ [])
      ≡ Some ([] ∷ [] ∷ codes "7 getuid() = 0" ∷ [])
  -- a second filter is attached under the first
  pub again :
      on_x86_64 (codes "7 seccomp(SECCOMP_SET_MODE_FILTER, 0, {len=5}) = 0" ∷ codes "7 seccomp(SECCOMP_SET_MODE_FILTER, 0, {len=5}) = 0" ∷ [])
      ≡ Some ([] ∷ codes "7 seccomp(SECCOMP_SET_MODE_FILTER, 0, {len=5}) = 0" ∷ [])
  pub by_prctl :
      on_x86_64 (codes "7 prctl(PR_SET_SECCOMP, SECCOMP_MODE_FILTER, {len=5}) = 0" ∷ codes "7 getuid() = 0" ∷ [])
      ≡ Some ([] ∷ codes "7 getuid() = 0" ∷ [])
  pub by_number :
      on_x86_64 (codes "7 syscall_0x13d(0x1, 0, 0x7f00) = 0" ∷ codes "7 getuid() = 0" ∷ [])
      ≡ Some ([] ∷ codes "7 getuid() = 0" ∷ [])
  pub not_known_what :
      on_x86_64 (codes "7 seccomp(SECCOMP_SET_MODE_OTHER, 0, {len=5}) = 0" ∷ codes "7 getuid() = 0" ∷ [])
      ≡ Some ([] ∷ codes "7 getuid() = 0" ∷ [])
  pub strict :
      on_x86_64
      (codes "7 seccomp(SECCOMP_SET_MODE_STRICT, 0, NULL) = 0" ∷ codes "7 prctl(PR_SET_SECCOMP, SECCOMP_MODE_STRICT) = 0"
      ∷ codes "7 read(0, 0x7f00, 1) = 1" ∷ [])
      ≡ None
  pub other_calls :
      on_x86_64
      (codes "7 prctl(PR_SET_NO_NEW_PRIVS, 1, 0, 0, 0) = 0" ∷ codes "7 kill(1, 0) = 0"
      ∷ codes "7 seccomp(SECCOMP_GET_ACTION_AVAIL, 0, [SECCOMP_RET_LOG]) = 0" ∷ [])
      ≡ None
  pub failed :
      on_x86_64 (codes "7 seccomp(SECCOMP_SET_MODE_FILTER, SECCOMP_FILTER_FLAG_TSYNC, NULL) = -1 EFAULT (Bad address)" ∷ codes "7 getuid() = 0" ∷ [])
      ≡ None
  pub failed_and_padded :
      on_x86_64 (codes "7 prctl(22, 2, 0)                        = -1 EFAULT (Bad address)" ∷ codes "7 getuid() = 0" ∷ [])
      ≡ None
  pub failed_first :
      on_x86_64
      (codes "7 seccomp(SECCOMP_SET_MODE_FILTER, 0, NULL) = -1 EFAULT (Bad address)" ∷ codes "7 getpid() = 7"
      ∷ codes "7 seccomp(SECCOMP_SET_MODE_FILTER, 0, {len=5}) = 0" ∷ codes "7 getuid() = 0" ∷ [])
      ≡ Some ([] ∷ [] ∷ [] ∷ codes "7 getuid() = 0" ∷ [])
  -- what strace writes of a call that did not return
  pub killed :
      on_x86_64 (codes "7 seccomp(SECCOMP_SET_MODE_FILTER, 0, {len=5}) = ?" ∷ codes "8 getuid() = 0" ∷ [])
      ≡ Some ([] ∷ codes "8 getuid() = 0" ∷ [])
  pub unfinished :
      on_x86_64 (codes "7 seccomp(SECCOMP_SET_MODE_FILTER, 0, {len=5} <unfinished ...>" ∷ codes "7 <... seccomp resumed>) = 0" ∷ codes "7 getuid() = 0" ∷ [])
      ≡ Some ([] ∷ codes "7 <... seccomp resumed>) = 0" ∷ codes "7 getuid() = 0" ∷ [])
  -- the next line of the process is the end of the call
  pub fails_later :
      on_x86_64
      (codes "7 seccomp(SECCOMP_SET_MODE_FILTER, SECCOMP_FILTER_FLAG_TSYNC, NULL <unfinished ...>" ∷ codes "8 getpid() = 8"
      ∷ codes "7 <... seccomp resumed>)            = -1 EFAULT (Bad address)" ∷ codes "7 getuid() = 0" ∷ [])
      ≡ None
  pub succeeds_later :
      on_x86_64
      (codes "7 prctl(PR_SET_SECCOMP, SECCOMP_MODE_FILTER, {len=9, filter=0xc00010ff80} <unfinished ...>"
      ∷ codes "7 <... prctl resumed>)              = 0" ∷ codes "7 getuid() = 0" ∷ [])
      ≡ Some ([] ∷ codes "7 <... prctl resumed>)              = 0" ∷ codes "7 getuid() = 0" ∷ [])
  pub another_fails :
      on_x86_64
      (codes "8 openat(AT_FDCWD, \"/x\", O_RDONLY <unfinished ...>"
      ∷ codes "7 seccomp(SECCOMP_SET_MODE_FILTER, 0, {len=5} <unfinished ...>"
      ∷ codes "8 <... openat resumed>) = -1 ENOENT (No such file or directory)" ∷ codes "7 <... seccomp resumed>) = 0"
      ∷ codes "7 getuid() = 0" ∷ [])
      ≡ Some ([] ∷ [] ∷ [] ∷ codes "7 <... seccomp resumed>) = 0" ∷ codes "7 getuid() = 0" ∷ [])
  -- no end of the call, but of a later one
  pub no_end :
      on_x86_64
      (codes "7 seccomp(SECCOMP_SET_MODE_FILTER, 0, {len=5} <unfinished ...>" ∷ codes "7 --- SIGCHLD {si_signo=SIGCHLD} ---"
      ∷ codes "7 <... seccomp resumed>) = -1 EFAULT (Bad address)" ∷ [])
      ≡ Some
      ([] ∷ codes "7 --- SIGCHLD {si_signo=SIGCHLD} ---" ∷ codes "7 <... seccomp resumed>) = -1 EFAULT (Bad address)" ∷ [])
  -- a text that looks like an end
  pub no_end_but_a_text :
      on_x86_64
      (codes "7 seccomp(SECCOMP_SET_MODE_FILTER, 0, {len=5} <unfinished ...>" ∷ codes "7 write(1, \" <... >) = -1 \", 12) = 12" ∷ [])
      ≡ Some ([] ∷ codes "7 write(1, \" <... >) = -1 \", 12) = 12" ∷ [])
  pub ends_without_a_number :
      on_x86_64
      (codes "seccomp(SECCOMP_SET_MODE_FILTER, 0, {len=5} <unfinished ...>" ∷ codes "<... seccomp resumed>) = -1 EFAULT (Bad address)" ∷ [])
      ≡ Some ([] ∷ codes "<... seccomp resumed>) = -1 EFAULT (Bad address)" ∷ [])
  -- the end is the 256th line behind its beginning
  pub near_end :
      on_x86_64
      (codes "7 seccomp(SECCOMP_SET_MODE_FILTER, 0, NULL <unfinished ...>"
      ∷ replicate 255 [] ++ codes "7 <... seccomp resumed>) = -1 EFAULT (Bad address)" ∷ [])
      ≡ None
  -- or the next one
  pub far_end :
      on_x86_64
      (codes "7 seccomp(SECCOMP_SET_MODE_FILTER, 0, NULL <unfinished ...>"
      ∷ replicate 256 [] ++ codes "7 <... seccomp resumed>) = -1 EFAULT (Bad address)" ∷ [])
      ≡ Some ([] ∷ replicate 256 [] ++ codes "7 <... seccomp resumed>) = -1 EFAULT (Bad address)" ∷ [])
  pub launcher :
      on_x86_64
      (codes "6 getpid() = 6" ∷ codes "7 seccomp(SECCOMP_SET_MODE_FILTER, 0, {len=5}) = 0"
      ∷ codes "6 wait4(-1,  <unfinished ...>" ∷ codes "7 getuid() = 0" ∷ codes "6 <... wait4 resumed>NULL, 0, NULL) = 7" ∷ [])
      ≡ Some ([] ∷ [] ∷ [] ∷ codes "7 getuid() = 0" ∷ [] ∷ [])
  -- it may be a child of 7
  pub later :
      on_x86_64 (codes "6 getpid() = 6" ∷ codes "7 seccomp(SECCOMP_SET_MODE_FILTER, 0, {len=5}) = 0" ∷ codes "8 getuid() = 0" ∷ [])
      ≡ Some ([] ∷ [] ∷ codes "8 getuid() = 0" ∷ [])
  pub own_attachment :
      on_x86_64
      (codes "6 getpid() = 6" ∷ codes "8 getpid() = 8" ∷ codes "7 seccomp(SECCOMP_SET_MODE_FILTER, 0, {len=5}) = 0"
      ∷ codes "8 getuid() = 0" ∷ codes "8 prctl(PR_SET_SECCOMP, SECCOMP_MODE_FILTER, {len=5}) = 0" ∷ codes "8 getgid() = 0"
      ∷ codes "6 getgid() = 0" ∷ [])
      ≡ Some ([] ∷ [] ∷ [] ∷ [] ∷ [] ∷ codes "8 getgid() = 0" ∷ [] ∷ [])
  pub all_threads :
      on_x86_64 (codes "6 getpid() = 6" ∷ codes "7 seccomp(SECCOMP_SET_MODE_FILTER, SECCOMP_FILTER_FLAG_TSYNC, {len=5}) = 0" ∷ codes "6 getuid() = 0" ∷ [])
      ≡ Some ([] ∷ [] ∷ codes "6 getuid() = 0" ∷ [])
  pub all_threads_and_more :
      on_x86_64
      (codes "6 getpid() = 6"
      ∷ codes "7 seccomp(SECCOMP_SET_MODE_FILTER, SECCOMP_FILTER_FLAG_TSYNC|SECCOMP_FILTER_FLAG_LOG, {len=5}) = 0"
      ∷ codes "6 getuid() = 0" ∷ [])
      ≡ Some ([] ∷ [] ∷ codes "6 getuid() = 0" ∷ [])
  pub other_flags :
      on_x86_64 (codes "6 getpid() = 6" ∷ codes "7 seccomp(SECCOMP_SET_MODE_FILTER, SECCOMP_FILTER_FLAG_LOG, {len=5}) = 0" ∷ codes "6 getuid() = 0" ∷ [])
      ≡ Some ([] ∷ [] ∷ [] ∷ [])
  pub flags_not_known :
      on_x86_64 (codes "6 getpid() = 6" ∷ codes "7 seccomp(SECCOMP_SET_MODE_FILTER, SECCOMP_FILTER_FLAG_OTHER, {len=5}) = 0" ∷ codes "6 getuid() = 0" ∷ [])
      ≡ Some ([] ∷ [] ∷ codes "6 getuid() = 0" ∷ [])
  pub in_brackets :
      on_x86_64
      (codes "[pid     6] getpid() = 6" ∷ codes "[pid 12345] seccomp(SECCOMP_SET_MODE_FILTER, 0, {len=5}) = 0"
      ∷ codes "[pid     6] getuid() = 0" ∷ codes "[pid 12345] getgid() = 0" ∷ [])
      ≡ Some ([] ∷ [] ∷ [] ∷ codes "[pid 12345] getgid() = 0" ∷ [])
  pub with_times :
      on_x86_64
      (codes "6 12:00:01 getpid() = 6" ∷ codes "7 12:00:01 seccomp(SECCOMP_SET_MODE_FILTER, 0, {len=5}) = 0"
      ∷ codes "6 12:00:02 getuid() = 0" ∷ codes "7 12:00:02 getgid() = 0" ∷ [])
      ≡ Some ([] ∷ [] ∷ [] ∷ codes "7 12:00:02 getgid() = 0" ∷ [])
  pub without_numbers :
      on_x86_64 (codes "getpid() = 7" ∷ codes "seccomp(SECCOMP_SET_MODE_FILTER, 0, {len=5}) = 0" ∷ codes "getuid() = 0" ∷ [])
      ≡ Some ([] ∷ [] ∷ codes "getuid() = 0" ∷ [])
  pub times_are_no_numbers :
      on_x86_64
      (codes "0.000012 getpid() = 7" ∷ codes "12:00:01 getpid() = 7"
      ∷ codes "1700000000.123456 seccomp(SECCOMP_SET_MODE_FILTER, 0, {len=5}) = 0" ∷ codes "12:00:01 getuid() = 0"
      ∷ codes "0.000012 getuid() = 0" ∷ [])
      ≡ Some ([] ∷ [] ∷ [] ∷ codes "12:00:01 getuid() = 0" ∷ codes "0.000012 getuid() = 0" ∷ [])
  -- strace writes no number where one process is left
  pub number_left_out :
      on_x86_64
      (codes "[pid     6] getpid() = 6" ∷ codes "[pid     7] seccomp(SECCOMP_SET_MODE_FILTER, 0, {len=5}) = 0"
      ∷ codes "[pid     6] +++ exited with 0 +++" ∷ codes "getuid() = 0" ∷ [])
      ≡ Some ([] ∷ [] ∷ [] ∷ codes "getuid() = 0" ∷ [])
  -- 6 is the one that was left
  pub attached_without_number :
      on_x86_64
      (codes "[pid     6] getpid() = 6" ∷ codes "[pid     7] +++ exited with 0 +++"
      ∷ codes "seccomp(SECCOMP_SET_MODE_FILTER, 0, {len=5}) = 0" ∷ codes "[pid     6] getuid() = 0" ∷ [])
      ≡ Some ([] ∷ [] ∷ [] ∷ codes "[pid     6] getuid() = 0" ∷ [])
  -- 7 is a thread of 6
  pub superseded :
      on_x86_64
      (codes "6 getpid() = 6" ∷ codes "7 seccomp(SECCOMP_SET_MODE_FILTER, 0, {len=5}) = 0" ∷ codes "6 getuid() = 0"
      ∷ codes "6 +++ superseded by execve in pid 7 +++" ∷ codes "6 getgid() = 0" ∷ [])
      ≡ Some ([] ∷ [] ∷ [] ∷ [] ∷ codes "6 getgid() = 0" ∷ [])
  pub superseded_before :
      on_x86_64
      (codes "6 getpid() = 6" ∷ codes "6 +++ superseded by execve in pid 5 +++"
      ∷ codes "7 seccomp(SECCOMP_SET_MODE_FILTER, 0, {len=5}) = 0" ∷ codes "6 getuid() = 0" ∷ [])
      ≡ Some ([] ∷ [] ∷ [] ∷ [] ∷ [])
  -- what a program writes is no word of strace
  pub written :
      on_x86_64
      (codes "6 getpid() = 6" ∷ codes "7 seccomp(SECCOMP_SET_MODE_FILTER, 0, {len=5}) = 0"
      ∷ codes "6 write(1, \" superseded \", 12) = 12" ∷ codes "6 getuid() = 0" ∷ [])
      ≡ Some ([] ∷ [] ∷ [] ∷ [] ∷ [])
  -- a record is of a process that has a filter already
  pub of_a_record :
      on_x86_64
      (codes "audit: type=1326 audit(1700000000.123:456): pid=9 arch=c000003e syscall=317 compat=0 ip=0x7f code=0x50000"
      ∷ codes "7 getuid() = 0" ∷ [])
      ≡ None
  pub no_filter :
      on_x86_64 (codes "7 getpid() = 7" ∷ codes "7 execve(\"/bin/x\", [\"x\"], 0x7f00 /* 9 vars */) = 0" ∷ [])
      ≡ None
  -- each argument is in its own register there too
  pub prctl_of_i386 :
      on_i386 (codes "7 prctl(PR_SET_NAME, \"x\") = 0" ∷ codes "7 prctl(PR_SET_SECCOMP, SECCOMP_MODE_FILTER, {len=5}) = 0" ∷ codes "7 getuid() = 0" ∷ [])
      ≡ Some ([] ∷ [] ∷ codes "7 getuid() = 0" ∷ [])
  pub number_of_i386 :
      on_i386 (codes "7 syscall_0x162(0x1, 0, 0x7f00) = 0" ∷ codes "7 getuid() = 0" ∷ [])
      ≡ Some ([] ∷ codes "7 getuid() = 0" ∷ [])
