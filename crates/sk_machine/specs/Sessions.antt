-- Process groups and sessions: setpgid(2), setsid(2), getpgid(2), getsid(2) and credentials(7).
use Rattle.std.specs.Prelude.{ℕ, zero, suc, ℤ, pos, negsuc, ◌==◌, Bool, false, not, ◌&&◌, if◌then◌else◌, Option, Result, Ok, Err}
use Rattle.std.specs.Option.{is_some, option_map_or}
use Rattle.std.specs.Int.{is_negative}
use Rattle.std.specs.Result.{result_and}
use Rattle.std.specs.List.{list_any}
use Rattle.sk_world.specs.declared.errno.Errno.{Errno}
use Rattle.sk_world.specs.declared.errno.Errno.TheVariants.{Eperm, Esrch, Eacces, Einval}
use Rattle.sk_world.specs.declared.process.Links.{Links}
use Rattle.sk_world.specs.declared.process.Proc.{Proc}
use Rattle.sk_world.specs.Processes.{pids}
use Rattle.sk_world.specs.World.{World, at, relinked, is_child_of, is_member_of}

-- the pid that an argument names: 0 stands for this one. A negative number names no process, as 0 is
-- nobody's pid
abbrev pub pid_named : ℕ → ℤ → ℕ
pid_named this (pos zero) = this
pid_named this (pos (suc n)) = suc n
pid_named this (negsuc n) = 0

-- the group of a process, 0 where there is none: getpgid(2)
abbrev pub group_of : Option Proc → ℕ
group_of o = option_map_or (λ p. p.links.group) o 0

-- the session of a process, 0 where there is none: getsid(2)
abbrev pub session_of : Option Proc → ℕ
session_of o = option_map_or (λ p. p.links.session) o 0

-- a process is there, and has called execve(2) since it was forked
abbrev pub has_executed : Option Proc → Bool
has_executed o = option_map_or (λ p. p.body.executed) o false

-- some process is in the group
abbrev pub is_group : World → ℕ → Bool
is_group w group = list_any (λ pid. is_member_of group (at w pid)) (pids w.procs)

-- some process of the session is in the group
abbrev pub is_group_of_session : World → ℕ → ℕ → Bool
is_group_of_session w session group =
    list_any (λ pid. is_member_of group (at w pid) && (session_of (at w pid) == session)) (pids w.procs)

-- the links of a process that is in another group
abbrev pub links_in_group : ℕ → Links → Links
links_in_group group links = record links { group = group }

-- the links of a process that leads a new session, and a new group in it
abbrev pub links_of_leader : ℕ → Links → Links
links_of_leader pid links = record links { group = pid; session = pid }

-- setpgid(2): a process is put into a group by its parent, of the same session, and only until it executes
-- another program
abbrev pub may_move_child : World → ℕ → ℕ → Result (Unit {0}) Errno
may_move_child w caller child =
    if not (is_child_of caller (at w child)) then Err Esrch
    else if not (session_of (at w child) == session_of (at w caller)) then Err Eperm
    else if has_executed (at w child) then Err Eacces
    else Ok tt

-- the target leads no session, and the group is its own, or one of the caller's session
abbrev pub may_join : World → ℕ → ℕ → ℕ → Result (Unit {0}) Errno
may_join w caller target group =
    if session_of (at w target) == target then Err Eperm
    else if not (group == target) && not (is_group_of_session w (session_of (at w caller)) group) then Err Eperm
    else Ok tt

-- the target is the caller or a child that it may move, and may join the group
abbrev pub may_regroup : World → ℕ → ℕ → ℕ → Result (Unit {0}) Errno
may_regroup w caller target group =
    if target == caller then may_join w caller target group
    else result_and (may_move_child w caller target) (may_join w caller target group)

-- a process is put into a group, where it may be
abbrev pub put_into_group : World → ℕ → ℕ → Result (Unit {0}) Errno → Result World Errno
put_into_group w target group (Ok _) = Ok (relinked w target (links_in_group group))
put_into_group w target group (Err e) = Err e

-- the world after a process was put into a group, or why it is not
abbrev pub regrouped : World → ℕ → ℕ → ℕ → Result World Errno
regrouped w caller target group = put_into_group w target group (may_regroup w caller target group)

-- setpgid(2): the world afterwards, or the error
abbrev pub after_setpgid : World → ℕ → ℤ → ℤ → Result World Errno
after_setpgid w caller pid group =
    if is_negative group then Err Einval
    else regrouped w caller (pid_named caller pid) (pid_named (pid_named caller pid) group)

-- setsid(2): the world afterwards, or the error. The caller leads a new session, and a new group in it
abbrev pub after_setsid : World → ℕ → Result World Errno
after_setsid w caller =
    if is_group w caller then Err Eperm else Ok (relinked w caller (links_of_leader caller))

-- getpgid(2): zombies are there
abbrev pub group_asked : World → ℕ → ℤ → Result ℕ Errno
group_asked w caller pid =
    if is_some (at w (pid_named caller pid)) then Ok (group_of (at w (pid_named caller pid))) else Err Esrch

-- getsid(2)
abbrev pub session_asked : World → ℕ → ℤ → Result ℕ Errno
session_asked w caller pid =
    if is_some (at w (pid_named caller pid)) then Ok (session_of (at w (pid_named caller pid))) else Err Esrch

-- a call that has made another world answers this number, and one that is refused its error
abbrev pub answered : ℕ → Result World Errno → Result ℕ Errno
answered n (Ok after) = Ok n
answered n (Err e) = Err e
