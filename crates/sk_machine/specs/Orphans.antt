-- Orphaned process groups: POSIX.1-2017, 3.264 "Orphaned Process Group", setpgid(2); and what becomes of them
-- where a process ends: exit(3p), "Consequences of Process Termination".
use Rattle.std.specs.Prelude.{ℕ, ◌==◌, Bool, not, ◌&&◌, if◌then◌else◌, List, [], ◌∷◌, map, filter, Option}
use Rattle.std.specs.Option.{is_some}
use Rattle.std.specs.List.{list_any}
use Rattle.sk_world.specs.declared.signals.TheConstants.{SIGHUP, SIGCONT}
use Rattle.sk_world.specs.Sets as set
use Rattle.sk_world.specs.declared.process.TheConstants.{INIT}
use Rattle.sk_world.specs.declared.process.Proc.{Proc}
use Rattle.sk_world.specs.Processes.{pids}
use Rattle.sk_world.specs.World.{World, at, is_alive, is_stopped, is_member_of, parent_of}
use Rattle.sk_world.specs.Sending.{sent_to_each}
use Rattle.sk_world.specs.Ending.{ended}
use Rattle.sk_machine.specs.Sessions.{session_of}

-- a process of the group that has not ended
abbrev pub is_living_member : ℕ → Option Proc → Bool
is_living_member group o = is_alive o && is_member_of group o

-- a process that is there, in the session, and outside the group
abbrev pub is_outside : ℕ → ℕ → Option Proc → Bool
is_outside session group o = is_some o && not (is_member_of group o) && (session_of o == session)

-- the process ties the group to its session: it has not ended, and its parent is outside the group, in the same
-- session
abbrev pub is_tie : World → ℕ → ℕ → Bool
is_tie w group pid =
    is_living_member group (at w pid) && is_outside (session_of (at w pid)) group (at w (parent_of (at w pid)))

-- no process ties the group to its session. Process 1 is a parent like any other
abbrev pub is_orphaned : World → ℕ → Bool
is_orphaned w group = not (list_any (is_tie w group) (pids w.procs))

-- some process of the group is stopped
abbrev pub has_stopped_member : World → ℕ → Bool
has_stopped_member w group = list_any (λ pid. is_stopped (at w pid) && is_member_of group (at w pid)) (pids w.procs)

-- the group was tied before, is orphaned after, and some process of it is stopped then
abbrev pub is_left_orphaned : World → World → ℕ → Bool
is_left_orphaned before after group = not (is_orphaned before group) && is_orphaned after group && has_stopped_member after group

-- the groups that there are, in rising order
abbrev pub groups : World → List ℕ
groups w = map (λ e. e.0) (set.from_list (map (λ e. e.1.links.group) w.procs.entries)).entries

-- signal n is sent to each process of a group that has not ended, in rising order of their pids
abbrev pub sent_to_group : World → ℕ → ℕ → World
sent_to_group w group n = sent_to_each w (filter (λ pid. is_living_member group (at w pid)) (pids w.procs)) n

-- a group is hung up: SIGHUP is sent to all of it, and then SIGCONT
abbrev pub hung_up : World → ℕ → World
hung_up w group = sent_to_group (sent_to_group w group SIGHUP) group SIGCONT

-- so is each of these groups, in this order
abbrev pub each_hung_up : World → List ℕ → World
each_hung_up w [] = w
each_hung_up w (group ∷ rest) = each_hung_up (hung_up w group) rest

-- so are the groups that are left orphaned from one world to the next, with a stopped process in them, in rising
-- order
abbrev pub left_hung_up : World → World → World
left_hung_up before after = each_hung_up after (filter (is_left_orphaned before after) (groups after))

-- a process ends, and the groups that this leaves orphaned are hung up. The end of process 1 halts the system and
-- hangs up nobody
abbrev pub ended_and_hung_up : World → ℕ → ℕ → World
ended_and_hung_up w pid status = if pid == INIT then ended w pid status else left_hung_up w (ended w pid status)
