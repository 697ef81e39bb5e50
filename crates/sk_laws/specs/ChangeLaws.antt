-- Laws on the changes of a world: whom they touch, and what they leave as it was.
use Rattle.std.specs.Prelude.{ℕ, ◌≡◌, ◌≢◌, ◌<◌, ◌≤◌, ◌==◌, ◌&&◌, IsTrue, IsFalse, if◌then◌else◌, List, filter, map, Option, None, Some}
use Rattle.sk_laws.specs.Common.{is_some, option_map, SIGCHLD, SIGCONT, no_signal, INIT, LAST_PID, Running, Note, Proc, Request, NoMatch, NotReady, pids, World, at, has_ended, is_zombie, is_child_of, is_alive, is_halted, parent_of, IsWorld, is_used, distance_from, IsNextFree, fresh_of, sent, sent_to_each, forced, forked, has_room, child_of, new_parent, ignores_children, with_children_handed_on, zombie, reparented, ended, is_match, is_ready, status_of, ready_of, told}
use Rattle.sk_world.specs.declared.request.Poll.TheVariants.{Told}

-- signals are not queued: one that is sent again changes nothing, SIGCONT neither: signal(7)
abbrev pub SignalIsNotQueued : Type 0
SignalIsNotQueued = (w : World) (pid n : ℕ) → sent (sent w pid n) pid n ≡ sent w pid n

-- a signal touches nobody but the one who gets it, and SIGCONT its parent
abbrev pub SignalTouches : Type 0
SignalTouches = (w : World) (pid n q : ℕ) → q ≢ pid → (n ≡ SIGCONT → q ≢ parent_of (at w pid)) → at (sent w pid n) q ≡ at w q

-- a forced signal touches nobody else
abbrev pub ForceTouches : Type 0
ForceTouches = (w : World) (pid q : ℕ) → q ≢ pid → at (forced w pid) q ≡ at w q

-- a process but for its signals
abbrev pub without_signals : Proc → Proc
without_signals p = record p { body = record p.body { signals = no_signal } }

-- a process but for its signals, its life and its note
abbrev pub unsignalled : Proc → Proc
unsignalled p = record p { body = record p.body { life = Running; signals = no_signal; note = Note.Nothing } }

-- a signal leaves all of every process as it was but its signals, its life and its note, and nobody comes
-- or goes
abbrev pub SignalKeepsAllElse : Type 0
SignalKeepsAllElse = (w : World) (pid n q : ℕ) → option_map unsignalled (at (sent w pid n) q) ≡ option_map unsignalled (at w q)

-- a forced signal leaves all of every process as it was but its signals, and nobody comes or goes
abbrev pub ForceKeepsAllElse : Type 0
ForceKeepsAllElse = (w : World) (pid q : ℕ) → option_map without_signals (at (forced w pid) q) ≡ option_map without_signals (at w q)

-- what wait4(2) tells touches only the child that it tells of
abbrev pub TellingTouches : Type 0
TellingTouches = (w : World) (pid status q : ℕ) → q ≢ pid → at (told w (Told pid status)) q ≡ at w q

-- a fork touches nobody: one process is added
abbrev pub ForkTouches : Type 0
ForkTouches = (w : World) (caller q : ℕ) → q ≢ fresh_of w → at (forked w caller) q ≡ at w q

-- the end of a process touches only itself, its parent, its children and whom they go to
abbrev pub EndTouches : Type 0
EndTouches =
    (w : World) (pid status q : ℕ) → IsTrue (is_alive (at w pid)) → q ≢ pid → q ≢ new_parent w pid → q ≢ parent_of (at w pid) → parent_of (at w q) ≢ pid
    → at (ended w pid status) q ≡ at w q

-- after the end of a process other than process 1 nobody has it as the parent. The end of process 1 hands
-- none on
abbrev pub EndLeavesNoOrphan : Type 0
EndLeavesNoOrphan = (w : World) (pid status q : ℕ) → pid ≢ INIT → IsTrue (is_some (at (ended w pid status) q)) → parent_of (at (ended w pid status) q) ≢ pid

-- each child of a process that ends is handed on to its new parent, with all else as it was; only a zombie
-- goes, where the new parent leaves none. The parent of the one that ends gets a signal besides. Process 1
-- itself hands none on
abbrev pub EndHandsChildrenOn : Type 0
EndHandsChildrenOn =
    (w : World) (pid status q : ℕ) (p : Proc) → IsTrue (is_alive (at w pid)) → pid ≢ INIT → at w q ≡ Some p → p.links.parent ≡ pid
    → q ≢ pid → q ≢ new_parent w pid → q ≢ parent_of (at w pid)
    → at (ended w pid status) q
    ≡ (if ignores_children (at w (new_parent w pid)) && has_ended p.body.life then None else Some (record p { links = record p.links { parent = new_parent w pid } }))

-- the zombies among the children of a process, in rising order
abbrev pub zombie_children : World → ℕ → List ℕ
zombie_children w pid = filter (λ k. is_child_of pid (at w k) && is_zombie (at w k)) (pids w.procs)

-- where the new parent does not remove the zombies that are handed on, one SIGCHLD for all of them is one for each
abbrev pub EachZombieIsAnnounced : Type 0
EachZombieIsAnnounced =
    (w : World) (pid : ℕ) → IsFalse (ignores_children (at w (new_parent w pid)))
    → reparented w pid ≡ sent_to_each (with_children_handed_on w pid) (map (λ zombie. new_parent w pid) (zombie_children w pid)) SIGCHLD

-- a process other than process 1 is a zombie with its status once it has ended, unless its parent ignores
-- SIGCHLD
abbrev pub EndLeavesZombie : Type 0
EndLeavesZombie =
    (w : World) (pid status : ℕ) (p : Proc) → IsWorld w → IsFalse (is_halted w) → pid ≢ INIT → at w pid ≡ Some p → IsTrue (is_alive (at w pid))
    → p.links.parent ≢ pid
    → at (ended w pid status) pid ≡ (if ignores_children (at w p.links.parent) then None else Some (record p { body = zombie status p.body }))

-- wait4(2) tells of the lowest child that is ready
abbrev pub ReadyIsLowest : Type 0
ReadyIsLowest =
    (w : World) (caller : ℕ) (request : Request) (pid status : ℕ) → ready_of w caller request ≡ Told pid status
    → IsTrue (is_ready w caller request pid) × (status_of request.options (at w pid) ≡ Some status) × ((other : ℕ) → IsTrue (is_ready w caller request other) → pid ≤ other)

-- it answers ECHILD only where no child matches: wait(2), "ERRORS"
abbrev pub NoMatchHasNone : Type 0
NoMatchHasNone = (w : World) (caller : ℕ) (request : Request) → ready_of w caller request ≡ NoMatch → (pid : ℕ) → IsFalse (is_match caller request pid (at w pid))

-- where it waits, or answers 0 under WNOHANG, a child matches, and none is ready
abbrev pub NotReadyHasMatch : Type 0
NotReadyHasMatch =
    (w : World) (caller : ℕ) (request : Request) → ready_of w caller request ≡ NotReady
    → ((pid : ℕ) × IsTrue (is_match caller request pid (at w pid))) × ((pid : ℕ) → IsFalse (is_ready w caller request pid))

-- a zombie is told of once, whoever asks again
abbrev pub ZombieIsToldOnce : Type 0
ZombieIsToldOnce =
    (w : World) (pid status : ℕ) → IsTrue (is_zombie (at w pid)) → (caller : ℕ) (request : Request) (again : ℕ)
    → ready_of (told w (Told pid status)) caller request ≢ Told pid again

-- the child is at the next free number
abbrev pub ForkGivesChild : Type 0
ForkGivesChild = (w : World) (caller : ℕ) (p : Proc) → at w caller ≡ Some p → IsTrue (has_room w) → at (forked w caller) (fresh_of w) ≡ Some (child_of caller p)

-- the number is nobody's pid, group or session
abbrev pub NumberIsNew : Type 0
NumberIsNew =
    (w : World) (q : ℕ) (p : Proc) → IsWorld w → IsTrue (has_room w) → at w q ≡ Some p
    → (fresh_of w ≢ q) × (fresh_of w ≢ p.links.group) × (fresh_of w ≢ p.links.session)

-- the number is the next one that is free: each one that is passed over on the way from the last one given is
-- used
abbrev pub NumberIsNext : Type 0
NumberIsNext =
    (w : World) (n : ℕ) → 1 ≤ w.last → w.last ≤ LAST_PID → 2 ≤ n → n ≤ LAST_PID → distance_from w.last n < distance_from w.last (fresh_of w)
    → IsTrue (is_used w n)

-- while there is room for a process more it is the next free number
abbrev pub FreshIsNextFree : Type 0
FreshIsNextFree = (w : World) → IsWorld w → IsTrue (has_room w) → IsNextFree w (fresh_of w)

-- and no other number is
abbrev pub NextFreeIsUnique : Type 0
NextFreeIsUnique = (w : World) (m n : ℕ) → IsWorld w → IsNextFree w m → IsNextFree w n → m ≡ n

-- two processes may do the same: they have the same filters, ids and no_new_privs
pub record HasSameRights (p other : Proc) : Type 0 where
  pub filters : p.body.chain ≡ other.body.chain
  pub creds : p.body.creds ≡ other.body.creds

-- a process that is there now was there before, and may do what it might
abbrev pub StaysInRights : Option Proc → Option Proc → Type 0
StaysInRights now before = (p : Proc) → now ≡ Some p → (old : Proc) × (before ≡ Some old) × HasSameRights p old

-- so it is with every process of a world
abbrev pub KeepsRights : World → World → Type 0
KeepsRights w after = (q : ℕ) → StaysInRights (at after q) (at w q)

-- no signal gives a process rights, or takes them
abbrev pub SignalKeepsRights : Type 0
SignalKeepsRights = (w : World) (pid n : ℕ) → KeepsRights w (sent w pid n)

-- nor does a forced signal
abbrev pub ForceKeepsRights : Type 0
ForceKeepsRights = (w : World) (pid : ℕ) → KeepsRights w (forced w pid)

-- nor does a new parent
abbrev pub ReparentKeepsRights : Type 0
ReparentKeepsRights = (w : World) (pid : ℕ) → KeepsRights w (reparented w pid)

-- nor does an end, to anybody
abbrev pub EndKeepsRights : Type 0
EndKeepsRights = (w : World) (pid status : ℕ) → KeepsRights w (ended w pid status)

-- nor does what wait4(2) tells
abbrev pub TellingKeepsRights : Type 0
TellingKeepsRights = (w : World) (pid status : ℕ) → KeepsRights w (told w (Told pid status))

-- a child may do what the process that forks may, and everybody else what they might
abbrev pub ForkKeepsRights : Type 0
ForkKeepsRights =
    (w : World) (caller q : ℕ) → IsTrue (is_alive (at w caller))
    → StaysInRights (at (forked w caller) q) (at w (if (q == fresh_of w) && has_room w then caller else q))
