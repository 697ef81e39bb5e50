-- Runs that are worked out by hand: the limits on pids, on processes and on filters.
use Rattle.std.specs.Prelude.{ℕ, zero, suc, ◌≡◌, ◌+◌, [], ◌∷◌, List, Ok, Err, false, replicate}
use Rattle.sk_laws.specs.Common.{Insn, Eagain, Eacces, Einval, Enomem, Proc, World, first_process, opening, Authority, filtered}
use Rattle.sk_laws.specs.WorkedWorlds.{world_of, child}
use Rattle.sk_laws.specs.Scripts.{nothing_given, fork, exit, wait4, setpgid, getppid, getpgrp, gives, fails, told, ends, Runs, after}

-- after the greatest pid they go on from 2, the next that is free; one that is free again is not given
-- again at once
abbrev pub GoesRoundPids : Type 0
GoesRoundPids =
    Runs nothing_given (record opening { last = 32766 }) (
    (fork 1, gives 32767)
    ∷ (fork 1, gives 2)
    ∷ (setpgid 2 0 0, gives 0)
    ∷ (fork 2, gives 3)
    ∷ (exit 2 0, ends 0)
    ∷ (wait4 1 2 0, told 2 0)
    ∷ (getppid 3, gives 1)
    ∷ (getpgrp 3, gives 2)
    ∷ (fork 1, gives 4)
    ∷ (exit 4 0, ends 0)
    ∷ (wait4 1 4 0, told 4 0)
    ∷ (fork 1, gives 5)
    ∷ [])

-- the leader of a group is gone, and its child is left in it
abbrev pub without_leader : World
without_leader =
    after nothing_given opening (
    (fork 1, gives 2)
    ∷ (setpgid 2 0 0, gives 0)
    ∷ (fork 2, gives 3)
    ∷ (exit 2 0, ends 0)
    ∷ (wait4 1 2 0, told 2 0)
    ∷ [])

-- the number of a group whose leader is gone is given to no process
abbrev pub SparesGroupOfGoneLeader : Type 0
SparesGroupOfGoneLeader =
    Runs nothing_given (record without_leader { last = 32767 }) (
    (fork 1, gives 4)
    ∷ (exit 3 0, ends 0)
    ∷ (wait4 1 3 0, told 3 0)
    ∷ [])

-- some children of process 1, from this pid on
abbrev pub children_from : ℕ → ℕ → List (ℕ × Proc)
children_from zero pid = []
children_from (suc count) pid = (pid, child) ∷ children_from count (pid + 1)

-- process 1 with this many children
abbrev pub crowd : ℕ → World
crowd count = world_of ((1, first_process) ∷ children_from count 2) 5

-- there are at most 1024 processes, and a zombie counts: fork(2), EAGAIN
abbrev pub RefusesForkWithoutRoom : Type 0
RefusesForkWithoutRoom =
    Runs nothing_given (crowd 1023) (
    (fork 1, fails Eagain)
    ∷ (exit 9 0, ends 0)
    ∷ (fork 1, fails Eagain)
    ∷ [])

-- the last of them is made, and no other
abbrev pub ForksIntoLastRoom : Type 0
ForksIntoLastRoom =
    Runs nothing_given (crowd 1022) (
    (fork 1, gives 1024)
    ∷ (fork 1, fails Eagain)
    ∷ (getppid 1024, gives 1)
    ∷ [])

-- an instruction that allows the call, and one that is no instruction of a filter's
abbrev pub allowing : Insn
allowing = record { code = 0x06; jt = 0; jf = 0; k = 0x7fff0000 }

-- an instruction that no filter may have: BPF_LD, BPF_B, BPF_ABS
abbrev pub foreign : Insn
foreign = record { code = 0x30; jt = 0; jf = 0; k = 0 }

-- an effective id under seven filters of 4096 instructions, and a newest one of this many
abbrev pub under_filters : ℕ → ℕ → Authority
under_filters id count = record {
  filters = replicate count allowing ∷ replicate 7 (replicate 4096 allowing);
  creds = record { real = 0; effective = id; saved = 0; no_new_privs = false };
}

-- the lengths of all filters, and four more for each that is there, are at most 32768: seccomp(2), ENOMEM
abbrev pub RefusesFilterPastLimit : Type 0
RefusesFilterPastLimit =
    filtered (under_filters 0 4064) (Ok (allowing ∷ [])) ≡ Err Enomem

-- at the limit the filter is attached as the newest
abbrev pub AttachesFilterAtLimit : Type 0
AttachesFilterAtLimit =
    filtered (under_filters 0 4063) (Ok (allowing ∷ []))
    ≡ Ok (record (under_filters 0 4063) { filters = (allowing ∷ []) ∷ (under_filters 0 4063).filters })

-- a filter that is not valid is refused as such first
abbrev pub RefusesInvalidBeforeLimit : Type 0
RefusesInvalidBeforeLimit =
    filtered (under_filters 0 4064) (Ok (foreign ∷ [])) ≡ Err Einval

-- and a user without no_new_privs before all
abbrev pub RefusesUserBeforeInvalid : Type 0
RefusesUserBeforeInvalid =
    filtered (under_filters 5 4064) (Ok (foreign ∷ [])) ≡ Err Eacces

-- all of these
pub record WorkedLimits : Type 0 where
  pub goes_round_pids : GoesRoundPids
  pub spares_group_of_gone_leader : SparesGroupOfGoneLeader
  pub refuses_fork_without_room : RefusesForkWithoutRoom
  pub forks_into_last_room : ForksIntoLastRoom
  pub refuses_filter_past_limit : RefusesFilterPastLimit
  pub attaches_filter_at_limit : AttachesFilterAtLimit
  pub refuses_invalid_before_limit : RefusesInvalidBeforeLimit
  pub refuses_user_before_invalid : RefusesUserBeforeInvalid
