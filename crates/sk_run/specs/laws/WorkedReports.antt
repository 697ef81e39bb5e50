-- Scenarios that were worked out by hand, and their reports.
use Rattle.std.specs.Prelude.{ℕ, ◌≡◌, ◌-◌, ◌^◌, ◌++◌, true, false, List, [], ◌∷◌, codes, map, Some, None}
use Rattle.sk_insn.specs.Instructions.{image_of}
use Rattle.sk_asm.specs.Grammar.{insn}
use Rattle.sk_names.specs.declared.syscall.Syscall.{Syscall}
use Rattle.sk_names.specs.declared.syscall.Syscall.TheVariants as syscall
use Rattle.sk_names.specs.Syscalls.{number_of}
use Rattle.sk_scenario.specs.declared.call.ScriptCall.{ScriptCall}
use Rattle.sk_scenario.specs.Scenario.{Setting}
use Rattle.sk_scenario.specs.laws.WorkedScenarios.{call, none, setting_with, script, attaching_setting}
use Rattle.sk_run.specs.declared.turn.ReportLine.TheVariants as turn
use Rattle.sk_run.specs.Text.{turn_text}
use Rattle.sk_run.specs.Report.{report_of}

-- a scenario has this report; the lines stand without their line feeds
abbrev pub Reports : Setting → List (List ℕ) → Type 0
Reports setting lines = map turn_text ((report_of setting).turns ++ turn.End (report_of setting).end ∷ []) ≡ lines

-- a call with these two, and with these three, registers
abbrev pub with2 : Syscall → ℕ → ℕ → ScriptCall
with2 name a b = call (number_of name) (a ∷ b ∷ 0 ∷ 0 ∷ 0 ∷ 0 ∷ []) None

abbrev pub with3 : Syscall → ℕ → ℕ → ℕ → ScriptCall
with3 name a b c = call (number_of name) (a ∷ b ∷ c ∷ 0 ∷ 0 ∷ 0 ∷ []) None

-- a call with one register, and with none
abbrev pub with1 : Syscall → ℕ → ScriptCall
with1 name a = with2 name a 0

abbrev pub plain : Syscall → ScriptCall
plain name = with2 name 0 0

-- `fork NAME`, by the program's number
abbrev pub fork_to : ℕ → ScriptCall
fork_to program = call (number_of syscall.Fork) none (Some program)

-- the image of a filter that gives this value for the calls of one number, and allows all others
abbrev pub for_number : ℕ → ℕ → List ℕ
for_number nr value = image_of (insn 0x20 0 0 0 ∷ insn 0x15 0 1 nr ∷ insn 0x06 0 0 value ∷ insn 0x06 0 0 0x7fff0000 ∷ [])

-- a negative number in a register
abbrev pub minus : ℕ → ℕ
minus n = 2 ^ 64 - n

-- the definitions give what was worked out
pub record WorkedReports : Type 0 where
  -- a filter refuses one call of a script
  pub refused : Reports attaching_setting (
      codes "1 1 call seccomp allow/0 0"
      ∷ codes "2 1 call getppid errno/1 -1"
      ∷ codes "3 1 call getpid allow/0 1"
      ∷ codes "4 1 call exit_group allow/0 ended 0x0000"
      ∷ codes "end halt 0x0000"
      ∷ [])
  -- a trapped call, whose handler runs and returns
  pub trapped : Reports (setting_with (for_number 110 0x00030007 ∷ []) (
      script (with3 syscall.RtSigaction 31 3 0 ∷ with3 syscall.Seccomp 1 0 0 ∷ plain syscall.Getppid ∷ plain syscall.Getpid ∷ [])
      ∷ script []
      ∷ [])) (
      codes "1 1 call rt_sigaction allow/0 0"
      ∷ codes "2 1 call seccomp allow/0 0"
      ∷ codes "3 1 call getppid trap/7 trapped"
      ∷ codes "4 1 signal 31 handler 1"
      ∷ codes "5 1 call rt_sigreturn allow/0 0"
      ∷ codes "6 1 call getpid allow/0 1"
      ∷ codes "7 1 call exit_group allow/0 ended 0x0000"
      ∷ codes "end halt 0x0000"
      ∷ [])
  -- nothing is declared: process 1 has the empty script
  pub nothing : Reports (setting_with [] []) (codes "1 1 call exit_group allow/0 ended 0x0000" ∷ codes "end halt 0x0000" ∷ [])
  -- nobody can run
  pub idle :
      Reports (setting_with [] (script (plain syscall.Pause ∷ []) ∷ [])) (codes "1 1 call pause allow/0 waits" ∷ codes "end idle" ∷ [])
  -- all turns are used
  pub limit : Reports (record {
    turns = 5;
    subreapers = false;
    filters = [];
    programs = script (with3 syscall.RtSigaction 10 3 0 ∷ with2 syscall.Kill 1 10 ∷ plain syscall.Pause ∷ []) ∷ script (with2 syscall.Kill 1 10 ∷ []) ∷ [];
  }) (
      codes "1 1 call rt_sigaction allow/0 0"
      ∷ codes "2 1 call kill allow/0 0"
      ∷ codes "3 1 signal 10 handler 1"
      ∷ codes "4 1 call kill allow/0 0"
      ∷ codes "5 1 call rt_sigreturn allow/0 0"
      ∷ codes "end limit"
      ∷ [])
  -- the call that ends a script is refused, and the process runs into a fault
  pub refused_end : Reports (setting_with (for_number 231 0x00050001 ∷ []) (script (with3 syscall.Seccomp 1 0 0 ∷ []) ∷ [])) (
      codes "1 1 call seccomp allow/0 0"
      ∷ codes "2 1 call exit_group errno/1 -1"
      ∷ codes "3 1 crash"
      ∷ codes "end halt 0x000b"
      ∷ [])
  -- the handler's return is refused, and the child runs into a fault
  pub refused_return : Reports (setting_with (for_number 15 0x00050001 ∷ []) (
      script (fork_to 1 ∷ with3 syscall.Wait4 (minus 1) 0 0 ∷ [])
      ∷ script (with3 syscall.RtSigaction 10 4 0 ∷ with3 syscall.Seccomp 1 0 0 ∷ with2 syscall.Kill 2 10 ∷ plain syscall.Pause ∷ [])
      ∷ script []
      ∷ [])) (
      codes "1 1 call fork allow/0 2"
      ∷ codes "2 2 call rt_sigaction allow/0 0"
      ∷ codes "3 1 call wait4 allow/0 waits"
      ∷ codes "4 2 call seccomp allow/0 0"
      ∷ codes "5 2 call kill allow/0 0"
      ∷ codes "6 2 signal 10 handler 2"
      ∷ codes "7 2 call rt_sigreturn errno/1 -1"
      ∷ codes "8 2 crash"
      ∷ codes "9 1 resume told 2 0x000b"
      ∷ codes "10 1 call exit_group allow/0 ended 0x0000"
      ∷ codes "end halt 0x0000"
      ∷ [])
  -- a filter looks at where a call stands: the one at position 2 of program 0 is refused
  pub positions : Reports (setting_with
      (image_of (insn 0x20 0 0 8 ∷ insn 0x15 0 1 2 ∷ insn 0x06 0 0 0x00050001 ∷ insn 0x06 0 0 0x7fff0000 ∷ []) ∷ [])
      (script (with3 syscall.Seccomp 1 0 0 ∷ plain syscall.Getpid ∷ plain syscall.Getpid ∷ []) ∷ [])) (
      codes "1 1 call seccomp allow/0 0"
      ∷ codes "2 1 call getpid allow/0 1"
      ∷ codes "3 1 call getpid errno/1 -1"
      ∷ codes "4 1 call exit_group allow/0 ended 0x0000"
      ∷ codes "end halt 0x0000"
      ∷ [])
  -- a child execs, and its parent may not move it any more
  pub exec : Reports (setting_with [] (
      script (plain syscall.Setsid ∷ fork_to 1 ∷ with2 syscall.Setpgid 2 0 ∷ with2 syscall.Setpgid 2 1 ∷ with1 syscall.Getpgid 2 ∷ [])
      ∷ script (plain syscall.SchedYield ∷ with1 syscall.Execve 2 ∷ [])
      ∷ script (plain syscall.Getpgrp ∷ [])
      ∷ [])) (
      codes "1 1 call setsid allow/0 -1"
      ∷ codes "2 1 call fork allow/0 2"
      ∷ codes "3 2 call sched_yield allow/0 0"
      ∷ codes "4 1 call setpgid allow/0 0"
      ∷ codes "5 2 call execve allow/0 executed"
      ∷ codes "6 1 call setpgid allow/0 -13"
      ∷ codes "7 2 call getpgrp allow/0 2"
      ∷ codes "8 1 call getpgid allow/0 2"
      ∷ codes "9 2 call exit_group allow/0 ended 0x0000"
      ∷ codes "10 1 call exit_group allow/0 ended 0x0000"
      ∷ codes "end halt 0x0000"
      ∷ [])
  -- a stopped child is told, goes on and is killed
  pub stop : Reports (setting_with [] (
      script (
      fork_to 1
      ∷ with3 syscall.Wait4 (minus 1) 0 2
      ∷ with2 syscall.Kill 2 18
      ∷ with3 syscall.Wait4 (minus 1) 0 8
      ∷ with2 syscall.Kill 2 9
      ∷ with3 syscall.Wait4 (minus 1) 0 0
      ∷ [])
      ∷ script (with2 syscall.Kill 2 19 ∷ plain syscall.Pause ∷ [])
      ∷ [])) (
      codes "1 1 call fork allow/0 2"
      ∷ codes "2 2 call kill allow/0 0"
      ∷ codes "3 1 call wait4 allow/0 waits"
      ∷ codes "4 2 signal 19 stops"
      ∷ codes "5 1 resume told 2 0x137f"
      ∷ codes "6 1 call kill allow/0 0"
      ∷ codes "7 2 call pause allow/0 waits"
      ∷ codes "8 1 call wait4 allow/0 told 2 0xffff"
      ∷ codes "9 1 call kill allow/0 0"
      ∷ codes "10 2 signal 9 ended 0x0009"
      ∷ codes "11 1 call wait4 allow/0 told 2 0x0009"
      ∷ codes "12 1 call exit_group allow/0 ended 0x0000"
      ∷ codes "end halt 0x0000"
      ∷ [])
  -- a call that has no name
  pub number : Reports (setting_with [] (script (call 999 (1 ∷ 0 ∷ 0 ∷ 0 ∷ 0 ∷ 0 ∷ []) None ∷ []) ∷ [])) (
      codes "1 1 call 999 allow/0 -38"
      ∷ codes "2 1 call exit_group allow/0 ended 0x0000"
      ∷ codes "end halt 0x0000"
      ∷ [])
  -- the call that ends the script is trapped: its handler runs and returns, and the mark is that of the level below
  pub trapped_end : Reports (setting_with (for_number 231 0x00030000 ∷ []) (
      script (with3 syscall.RtSigaction 31 3 0 ∷ with3 syscall.Seccomp 1 0 0 ∷ []) ∷ script [] ∷ [])) (
      codes "1 1 call rt_sigaction allow/0 0"
      ∷ codes "2 1 call seccomp allow/0 0"
      ∷ codes "3 1 call exit_group trap/0 trapped"
      ∷ codes "4 1 signal 31 handler 1"
      ∷ codes "5 1 call rt_sigreturn allow/0 0"
      ∷ codes "6 1 crash"
      ∷ codes "end halt 0x000b"
      ∷ [])
  -- a handler's return that is refused with errno 0 takes no level off, though it gives 0
  pub zero : Reports (setting_with (for_number 15 0x00050000 ∷ []) (
      script (with3 syscall.RtSigaction 10 3 0 ∷ with3 syscall.Seccomp 1 0 0 ∷ with2 syscall.Kill 1 10 ∷ plain syscall.Getpid ∷ []) ∷ script [] ∷ [])) (
      codes "1 1 call rt_sigaction allow/0 0"
      ∷ codes "2 1 call seccomp allow/0 0"
      ∷ codes "3 1 call kill allow/0 0"
      ∷ codes "4 1 signal 10 handler 1"
      ∷ codes "5 1 call rt_sigreturn errno/0 0"
      ∷ codes "6 1 crash"
      ∷ codes "end halt 0x000b"
      ∷ [])
  -- a call of a script that is refused is behind the process, and rt_sigreturn(2) where no handler runs is one
  pub return_alone : Reports (setting_with [] (script (plain syscall.RtSigreturn ∷ plain syscall.Getpid ∷ []) ∷ [])) (
      codes "1 1 call rt_sigreturn allow/0 -22"
      ∷ codes "2 1 call getpid allow/0 1"
      ∷ codes "3 1 call exit_group allow/0 ended 0x0000"
      ∷ codes "end halt 0x0000"
      ∷ [])
  -- a filter and no_new_privs hold through fork and execve
  pub kept : Reports (setting_with (for_number 110 0x00050001 ∷ []) (
      script (
      with1 syscall.Setuid 1000
      ∷ with3 syscall.Seccomp 1 0 0
      ∷ with2 syscall.Prctl 38 1
      ∷ with3 syscall.Seccomp 1 0 0
      ∷ fork_to 1
      ∷ with3 syscall.Wait4 (minus 1) 0 0
      ∷ [])
      ∷ script (with1 syscall.Execve 2 ∷ [])
      ∷ record { owner = 0; setuid = true; calls = plain syscall.Geteuid ∷ plain syscall.Getppid ∷ [] }
      ∷ [])) (
      codes "1 1 call setuid allow/0 0"
      ∷ codes "2 1 call seccomp allow/0 -13"
      ∷ codes "3 1 call prctl allow/0 0"
      ∷ codes "4 1 call seccomp allow/0 0"
      ∷ codes "5 1 call fork allow/0 2"
      ∷ codes "6 2 call execve allow/0 executed"
      ∷ codes "7 1 call wait4 allow/0 waits"
      ∷ codes "8 2 call geteuid allow/0 1000"
      ∷ codes "9 2 call getppid errno/1 -1"
      ∷ codes "10 2 call exit_group allow/0 ended 0x0000"
      ∷ codes "11 1 resume told 2 0x0000"
      ∷ codes "12 1 call exit_group allow/0 ended 0x0000"
      ∷ codes "end halt 0x0000"
      ∷ [])
  -- signals among users, in the order of the turns
  pub kills : Reports (setting_with [] (
      script (fork_to 1 ∷ fork_to 2 ∷ plain syscall.Pause ∷ [])
      ∷ script (with2 syscall.Kill 1 9 ∷ with1 syscall.Setuid 1000 ∷ plain syscall.Pause ∷ [])
      ∷ script (with1 syscall.Setuid 1001 ∷ with2 syscall.Kill 2 15 ∷ with2 syscall.Kill 2 18 ∷ with2 syscall.Kill (minus 1) 0 ∷ [])
      ∷ [])) (
      codes "1 1 call fork allow/0 2"
      ∷ codes "2 2 call kill allow/0 0"
      ∷ codes "3 1 call fork allow/0 3"
      ∷ codes "4 2 call setuid allow/0 0"
      ∷ codes "5 3 call setuid allow/0 0"
      ∷ codes "6 1 call pause allow/0 waits"
      ∷ codes "7 2 call pause allow/0 waits"
      ∷ codes "8 3 call kill allow/0 -1"
      ∷ codes "9 3 call kill allow/0 0"
      ∷ codes "10 3 call kill allow/0 -1"
      ∷ codes "11 3 call exit_group allow/0 ended 0x0000"
      ∷ codes "end idle"
      ∷ [])
  -- an orphan is handed on, and told
  pub orphan : Reports (setting_with [] (
      script (fork_to 1 ∷ with3 syscall.Wait4 (minus 1) 0 0 ∷ with3 syscall.Wait4 (minus 1) 0 16 ∷ with3 syscall.Wait4 (minus 1) 0 0 ∷ [])
      ∷ script (fork_to 2 ∷ with1 syscall.Exit 1 ∷ [])
      ∷ script (with1 syscall.Exit 2 ∷ [])
      ∷ [])) (
      codes "1 1 call fork allow/0 2"
      ∷ codes "2 2 call fork allow/0 3"
      ∷ codes "3 3 call exit allow/0 ended 0x0200"
      ∷ codes "4 1 call wait4 allow/0 waits"
      ∷ codes "5 2 call exit allow/0 ended 0x0100"
      ∷ codes "6 1 resume told 2 0x0100"
      ∷ codes "7 1 call wait4 allow/0 -22"
      ∷ codes "8 1 call wait4 allow/0 told 3 0x0200"
      ∷ codes "9 1 call exit_group allow/0 ended 0x0000"
      ∷ codes "end halt 0x0000"
      ∷ [])
  -- fork(2) without a name: the child goes on behind the call, as its parent does
  pub plain_fork :
      Reports (setting_with [] (script (plain syscall.Fork ∷ plain syscall.Getpid ∷ with3 syscall.Wait4 (minus 1) 0 0 ∷ []) ∷ [])) (
      codes "1 1 call fork allow/0 2"
      ∷ codes "2 2 call getpid allow/0 2"
      ∷ codes "3 1 call getpid allow/0 1"
      ∷ codes "4 2 call wait4 allow/0 -10"
      ∷ codes "5 1 call wait4 allow/0 waits"
      ∷ codes "6 2 call exit_group allow/0 ended 0x0000"
      ∷ codes "7 1 resume told 2 0x0000"
      ∷ codes "8 1 call exit_group allow/0 ended 0x0000"
      ∷ codes "end halt 0x0000"
      ∷ [])
  -- a child of a handler returns from it too
  pub fork_in_handler : Reports (setting_with [] (
      script (with3 syscall.RtSigaction 10 3 0 ∷ with2 syscall.Kill 1 10 ∷ []) ∷ script (plain syscall.Fork ∷ []) ∷ [])) (
      codes "1 1 call rt_sigaction allow/0 0"
      ∷ codes "2 1 call kill allow/0 0"
      ∷ codes "3 1 signal 10 handler 1"
      ∷ codes "4 1 call fork allow/0 2"
      ∷ codes "5 2 call rt_sigreturn allow/0 0"
      ∷ codes "6 1 call rt_sigreturn allow/0 0"
      ∷ codes "7 2 call exit_group allow/0 ended 0x0000"
      ∷ codes "8 1 call exit_group allow/0 ended 0x0000"
      ∷ codes "end halt 0x0000"
      ∷ [])
  -- so does one that begins with a program of its own, when that is at its end
  pub named_fork_in_handler : Reports (setting_with [] (
      script (with3 syscall.RtSigaction 10 3 0 ∷ with2 syscall.Kill 1 10 ∷ [])
      ∷ script (fork_to 2 ∷ [])
      ∷ script (plain syscall.Getppid ∷ [])
      ∷ [])) (
      codes "1 1 call rt_sigaction allow/0 0"
      ∷ codes "2 1 call kill allow/0 0"
      ∷ codes "3 1 signal 10 handler 1"
      ∷ codes "4 1 call fork allow/0 2"
      ∷ codes "5 2 call getppid allow/0 1"
      ∷ codes "6 1 call rt_sigreturn allow/0 0"
      ∷ codes "7 2 call rt_sigreturn allow/0 0"
      ∷ codes "8 1 call exit_group allow/0 ended 0x0000"
      ∷ codes "end halt 0x0000"
      ∷ [])
  -- execve(2) in a handler leaves one level, which has nothing to return to
  pub exec_in_handler : Reports (setting_with [] (
      script (with3 syscall.RtSigaction 10 3 0 ∷ with2 syscall.Kill 1 10 ∷ []) ∷ script (with1 syscall.Execve 2 ∷ []) ∷ script [] ∷ [])) (
      codes "1 1 call rt_sigaction allow/0 0"
      ∷ codes "2 1 call kill allow/0 0"
      ∷ codes "3 1 signal 10 handler 1"
      ∷ codes "4 1 call execve allow/0 executed"
      ∷ codes "5 1 call exit_group allow/0 ended 0x0000"
      ∷ codes "end halt 0x0000"
      ∷ [])
  -- a handler ends pause(2), which is behind the process then
  pub interrupted : Reports (setting_with [] (
      script (with3 syscall.RtSigaction 10 4 0 ∷ fork_to 1 ∷ plain syscall.Pause ∷ plain syscall.Getpid ∷ [])
      ∷ script (with2 syscall.Kill 1 0 ∷ with2 syscall.Kill 1 10 ∷ [])
      ∷ script []
      ∷ [])) (
      codes "1 1 call rt_sigaction allow/0 0"
      ∷ codes "2 1 call fork allow/0 2"
      ∷ codes "3 2 call kill allow/0 0"
      ∷ codes "4 1 call pause allow/0 waits"
      ∷ codes "5 2 call kill allow/0 0"
      ∷ codes "6 1 signal 10 handler 2 eintr"
      ∷ codes "7 2 call exit_group allow/0 ended 0x0000"
      ∷ codes "8 1 call rt_sigreturn allow/0 0"
      ∷ codes "9 1 call getpid allow/0 1"
      ∷ codes "10 1 call exit_group allow/0 ended 0x0000"
      ∷ codes "end halt 0x0000"
      ∷ [])
  -- a handler that is not declared has no calls, and its return is a turn
  pub undeclared : Reports (setting_with [] (script (with3 syscall.RtSigaction 10 9 0 ∷ with2 syscall.Kill 1 10 ∷ []) ∷ [])) (
      codes "1 1 call rt_sigaction allow/0 0"
      ∷ codes "2 1 call kill allow/0 0"
      ∷ codes "3 1 signal 10 handler 7"
      ∷ codes "4 1 call rt_sigreturn allow/0 0"
      ∷ codes "5 1 call exit_group allow/0 ended 0x0000"
      ∷ codes "end halt 0x0000"
      ∷ [])
  -- a set of signals has eight digits
  pub set : Reports (setting_with [] (script (plain syscall.RtSigpending ∷ []) ∷ [])) (
      codes "1 1 call rt_sigpending allow/0 set 0x00000000" ∷ codes "2 1 call exit_group allow/0 ended 0x0000" ∷ codes "end halt 0x0000" ∷ [])
  -- the system halts in the last turn, which is not the end by the limit
  pub last_turn :
      Reports (record { turns = 1; subreapers = false; filters = []; programs = [] }) (codes "1 1 call exit_group allow/0 ended 0x0000" ∷ codes "end halt 0x0000" ∷ [])
  -- what filters see as the address has the number of the program: the second one's first call is at 65536
  pub address :
      Reports (setting_with (image_of (insn 0x20 0 0 8 ∷ insn 0x15 0 1 65536 ∷ insn 0x06 0 0 0x00050001 ∷ insn 0x06 0 0 0x7fff0000 ∷ []) ∷ []) (
      script (with3 syscall.Seccomp 1 0 0 ∷ with1 syscall.Execve 1 ∷ []) ∷ script (plain syscall.Getpid ∷ []) ∷ [])) (
      codes "1 1 call seccomp allow/0 0"
      ∷ codes "2 1 call execve allow/0 executed"
      ∷ codes "3 1 call getpid errno/1 -1"
      ∷ codes "4 1 call exit_group allow/0 ended 0x0000"
      ∷ codes "end halt 0x0000"
      ∷ [])
