-- The numbers and the names of the calls on x86-64: syscalls(2).
use Rattle.std.specs.Prelude.{ℕ, ◌==◌, List, [], ◌∷◌, codes, Option, find}
use Rattle.std.specs.Str.{bytes_eq}
use Rattle.sk_names.specs.declared.syscall.Syscall.{Syscall}
use Rattle.sk_names.specs.declared.syscall.Syscall.TheVariants as syscall

-- what the table says of a call
pub record Row : Type 0 where
  pub number : ℕ
  pub name : List ℕ

-- the table
abbrev pub row : Syscall → Row
row syscall.RtSigaction = record { number = 13; name = codes "rt_sigaction" }
row syscall.RtSigprocmask = record { number = 14; name = codes "rt_sigprocmask" }
row syscall.RtSigreturn = record { number = 15; name = codes "rt_sigreturn" }
row syscall.SchedYield = record { number = 24; name = codes "sched_yield" }
row syscall.Pause = record { number = 34; name = codes "pause" }
row syscall.Getpid = record { number = 39; name = codes "getpid" }
row syscall.Fork = record { number = 57; name = codes "fork" }
row syscall.Execve = record { number = 59; name = codes "execve" }
row syscall.Exit = record { number = 60; name = codes "exit" }
row syscall.Wait4 = record { number = 61; name = codes "wait4" }
row syscall.Kill = record { number = 62; name = codes "kill" }
row syscall.Getuid = record { number = 102; name = codes "getuid" }
row syscall.Setuid = record { number = 105; name = codes "setuid" }
row syscall.Geteuid = record { number = 107; name = codes "geteuid" }
row syscall.Setpgid = record { number = 109; name = codes "setpgid" }
row syscall.Getppid = record { number = 110; name = codes "getppid" }
row syscall.Getpgrp = record { number = 111; name = codes "getpgrp" }
row syscall.Setsid = record { number = 112; name = codes "setsid" }
row syscall.Setresuid = record { number = 117; name = codes "setresuid" }
row syscall.Getresuid = record { number = 118; name = codes "getresuid" }
row syscall.Getpgid = record { number = 121; name = codes "getpgid" }
row syscall.Getsid = record { number = 124; name = codes "getsid" }
row syscall.RtSigpending = record { number = 127; name = codes "rt_sigpending" }
row syscall.Prctl = record { number = 157; name = codes "prctl" }
row syscall.ExitGroup = record { number = 231; name = codes "exit_group" }
row syscall.Seccomp = record { number = 317; name = codes "seccomp" }

-- its rows, in order
abbrev pub syscalls : List Syscall
syscalls =
    syscall.RtSigaction ∷
    syscall.RtSigprocmask ∷
    syscall.RtSigreturn ∷
    syscall.SchedYield ∷
    syscall.Pause ∷
    syscall.Getpid ∷
    syscall.Fork ∷
    syscall.Execve ∷
    syscall.Exit ∷
    syscall.Wait4 ∷
    syscall.Kill ∷
    syscall.Getuid ∷
    syscall.Setuid ∷
    syscall.Geteuid ∷
    syscall.Setpgid ∷
    syscall.Getppid ∷
    syscall.Getpgrp ∷
    syscall.Setsid ∷
    syscall.Setresuid ∷
    syscall.Getresuid ∷
    syscall.Getpgid ∷
    syscall.Getsid ∷
    syscall.RtSigpending ∷
    syscall.Prctl ∷
    syscall.ExitGroup ∷
    syscall.Seccomp ∷
    []

abbrev pub number_of : Syscall → ℕ
number_of call = (row call).number

abbrev pub name_of : Syscall → List ℕ
name_of call = (row call).name

-- the call of a number
abbrev pub syscall_of : ℕ → Option Syscall
syscall_of nr = find (λ call. nr == number_of call) syscalls

-- the call with a name
abbrev pub syscall_named : List ℕ → Option Syscall
syscall_named name = find (λ call. bytes_eq (name_of call) name) syscalls
