-- How a process ends: exit(2), wait(2) "Notes".
use Rattle.std.specs.Prelude.{ℕ, ◌==◌, Bool, false, not, ◌&&◌, if◌then◌else◌, Option, None, Some}
use Rattle.std.specs.Option.{option_map_or}
use Rattle.std.specs.List.{list_any}
use Rattle.sk_world.specs.declared.signals.TheConstants.{SIGCHLD}
use Rattle.sk_world.specs.Actions.{is_ignore}
use Rattle.sk_world.specs.SignalState.{disposition_of}
use Rattle.sk_world.specs.Signalling.{cleared}
use Rattle.sk_world.specs.declared.process.TheConstants.{INIT}
use Rattle.sk_world.specs.declared.process.Life.TheVariants.{Zombie}
use Rattle.sk_world.specs.declared.process.Waiting.TheVariants as waiting
use Rattle.sk_world.specs.declared.process.Note.TheVariants as note
use Rattle.sk_world.specs.declared.process.Body.{Body}
use Rattle.sk_world.specs.declared.process.Proc.{Proc}
use Rattle.sk_world.specs.Processes.{pids, each}
use Rattle.sk_world.specs.World.{World, at, has_ended, is_zombie, is_child_of, parent_of, stored, changed}
use Rattle.sk_world.specs.Subreapers.{new_parent}
use Rattle.sk_world.specs.Sending.{sent}

-- the process ignores SIGCHLD, so its children leave no zombies: wait(2), "Notes"
abbrev pub ignores_children : Option Proc → Bool
ignores_children o = option_map_or (λ p. is_ignore (disposition_of p.body.signals SIGCHLD)) o false

-- a process after `dying` has ended: its children are the new parent's, and of these a zombie goes
-- where the new parent removes it
abbrev pub handed_on : ℕ → ℕ → Bool → Proc → Option Proc
handed_on dying parent removes p =
    if not (p.links.parent == dying) then Some p
    else if removes && has_ended p.body.life then None
    else Some (record p { links = record p.links { parent = parent } })

-- the children of a process are handed on
abbrev pub with_children_handed_on : World → ℕ → World
with_children_handed_on w pid =
    record w { procs = each (λ k. handed_on pid (new_parent w pid) (ignores_children (at w (new_parent w pid)))) w.procs }

-- some child of the process is a zombie
abbrev pub has_zombie_child : World → ℕ → Bool
has_zombie_child w pid = list_any (λ k. is_child_of pid (at w k) && is_zombie (at w k)) (pids w.procs)

-- the children of a process are handed on, and each zombie among them that has not gone is announced to the new
-- parent: once for all, since a signal that is pending is not queued (sk_laws, EachZombieIsAnnounced)
abbrev pub reparented : World → ℕ → World
reparented w pid =
    if has_zombie_child w pid && not (ignores_children (at w (new_parent w pid)))
    then sent (with_children_handed_on w pid) (new_parent w pid) SIGCHLD
    else with_children_handed_on w pid

-- what is left of a process that has ended with this status
abbrev pub zombie : ℕ → Body → Body
zombie status body = record body {
  life = Zombie status;
  signals = cleared body.signals;
  waiting = waiting.Nothing;
  note = note.Nothing;
}

-- a process without children ends. It goes where its parent ignores SIGCHLD. Else it is a zombie, and
-- its parent gets SIGCHLD
abbrev pub left_to_parent : World → ℕ → ℕ → World
left_to_parent w pid status =
    if ignores_children (at w (parent_of (at w pid))) then stored w pid None
    else sent (changed w pid (zombie status)) (parent_of (at w pid)) SIGCHLD

-- a process ends with this status: exit(2). The end of process 1 halts the system and changes nothing
-- else
abbrev pub ended : World → ℕ → ℕ → World
ended w pid status =
    if pid == INIT then changed w INIT (λ body. record body { life = Zombie status })
    else left_to_parent (reparented w pid) pid status
