-- Worlds that are worked out by hand.
use Rattle.std.specs.Prelude.{◌≡◌, ℕ, ◌-◌, true, false, List, [], ◌∷◌, slice_set, None, Some, Ok}
use Rattle.sk_laws.specs.Common.{SIGHUP, SIGTERM, SIGCHLD, SIGCONT, SIGKILL, SIGSTOP, SIGTSTP, SIGUSR1, SIGSYS, Disposition, Ignore, Handler, Signals, Life, Running, Stopped, Zombie, Note, Waiting, Proc, Request, NoMatch, NotReady, none, World, at, is_halted, stored, changed, first_process, opening, sent, forced, fork_answer, forked, child_of, ended, options_of, ready_of, told}
use Rattle.sk_world.specs.Sets as set
use Rattle.sk_world.specs.declared.request.Who.{Who}
use Rattle.sk_world.specs.declared.request.Who.TheVariants.{Child, Any, Group}
use Rattle.sk_world.specs.declared.request.Poll.TheVariants.{Told}

-- the world of these processes, where this pid was the last one given
abbrev pub world_of : List (ℕ × Proc) → ℕ → World
world_of [] last = record { procs = none; last = last }
world_of (e ∷ es) last = stored (world_of es last) e.0 (Some e.1)

-- a process with this parent, group and session, and all else as process 1 starts with
abbrev pub running : ℕ → ℕ → ℕ → Proc
running parent group session = record first_process { links = record { parent = parent; group = group; session = session } }

-- the same with this life and this note
abbrev pub living : Life → Note → Proc → Proc
living life note p = record p { body = record p.body { life = life; note = note } }

-- the same with this disposition of signal n
abbrev pub disposed : ℕ → Disposition → Proc → Proc
disposed n disposition p = record p { body = record p.body { signals = record p.body.signals { dispositions = slice_set p.body.signals.dispositions (n - 1) disposition } } }

-- the same with this mask
abbrev pub blocking : Signals → Proc → Proc
blocking mask p = record p { body = record p.body { signals = record p.body.signals { mask = mask } } }

-- the same with these signals pending
abbrev pub pending : List ℕ → Proc → Proc
pending signals p = record p { body = record p.body { signals = record p.body.signals { pending = set.from_list signals } } }

-- some user's, under no_new_privs and a filter
abbrev pub with_rights : Proc → Proc
with_rights p = record p { body = record p.body { creds = record { real = 1000; effective = 1001; saved = 1002; no_new_privs = true }; chain = [] ∷ [] } }

-- a signal is caught
abbrev pub caught : Disposition
caught = Handler 0 set.empty

-- a child of process 1, in its group and session
abbrev pub child : Proc
child = running 1 1 1

-- a child of process 2, in the group and session of process 1
abbrev pub grandchild : Proc
grandchild = running 2 1 1

-- process 1, its child 2, and the child 3 of that
abbrev pub family : Proc → Proc → Proc → World
family first second third = world_of ((1, first) ∷ (2, second) ∷ (3, third) ∷ []) 3

-- the same as a subreaper
abbrev pub marked : Proc → Proc
marked p = record p { body = record p.body { subreaper = true } }

-- process 1 and a line of three from it, where 4 is the child of 3 and 3 that of 2; and the same with a child of 4
abbrev pub line_of_four : Proc → Proc → Proc → Proc → World
line_of_four first second third fourth = world_of ((1, first) ∷ (2, second) ∷ (3, third) ∷ (4, fourth) ∷ []) 4

abbrev pub line_of_five : Proc → Proc → Proc → Proc → Proc → World
line_of_five first second third fourth fifth = world_of ((1, first) ∷ (2, second) ∷ (3, third) ∷ (4, fourth) ∷ (5, fifth) ∷ []) 5

-- a child of process 3, and one of process 4, in the group and session of process 1
abbrev pub third_generation : Proc
third_generation = running 3 1 1

abbrev pub fourth_generation : Proc
fourth_generation = running 4 1 1

-- a request of wait4(2) with these bits as its options
abbrev pub ask : Who → ℕ → Request
ask who bits = record { who = who; options = options_of bits }

-- what fork(2) gives
pub record WorkedForks : Type 0 where
  pub first_number : fork_answer opening ≡ Ok 2
  pub next_number : fork_answer (forked opening 1) ≡ Ok 3
  pub last_number : fork_answer (world_of ((1, first_process) ∷ []) 32766) ≡ Ok 32767
  pub goes_round : fork_answer (world_of ((1, first_process) ∷ []) 32767) ≡ Ok 2
  pub spares_pid : fork_answer (world_of ((1, first_process) ∷ (2, child) ∷ []) 32767) ≡ Ok 3
  pub spares_group : fork_answer (world_of ((1, first_process) ∷ (5, running 1 2 1) ∷ []) 32767) ≡ Ok 3
  pub spares_session : fork_answer (world_of ((1, first_process) ∷ (5, running 1 5 2) ∷ []) 32767) ≡ Ok 3
  pub child_is_there : at (forked opening 1) 2 ≡ Some child
  pub child_of_child : at (forked (forked opening 1) 2) 3 ≡ Some grandchild
  pub caller_stays : at (forked opening 1) 1 ≡ Some first_process
  pub last_given : (forked opening 1).last ≡ 2
  pub starts_anew :
      child_of 1 (record first_process { body = record first_process.body { executed = true; waiting = Waiting.Pause; note = Note.Continued } }) ≡ child
  pub rights_are_kept : child_of 1 (with_rights first_process) ≡ with_rights child
  pub nothing_pends : child_of 1 (pending (SIGUSR1 ∷ []) first_process) ≡ child
  pub mask_is_kept : child_of 1 (blocking (set.from_list (SIGUSR1 ∷ [])) first_process) ≡ blocking (set.from_list (SIGUSR1 ∷ [])) child
  pub actions_are_kept : child_of 1 (disposed SIGUSR1 caught first_process) ≡ disposed SIGUSR1 caught child

-- how processes end
pub record WorkedEnds : Type 0 where
  pub zombie_is_left : at (ended (family first_process child grandchild) 2 0x100) 2 ≡ Some (living (Zombie 0x100) Note.Nothing child)
  pub orphan_is_handed_on : at (ended (family first_process child grandchild) 2 0x100) 3 ≡ Some child
  pub zombie_is_handed_on :
      at (ended (family first_process child (living (Zombie 9) Note.Nothing grandchild)) 2 0) 3 ≡ Some (living (Zombie 9) Note.Nothing child)
  -- process 1 is not the parent of 3, so it gets SIGCHLD for the zombie that it takes over and not for the end of 3
  pub zombie_is_announced :
      at (ended (line_of_four (disposed SIGCHLD caught first_process) child grandchild (living (Zombie 9) Note.Nothing third_generation)) 3 0) 1
      ≡ Some (pending (SIGCHLD ∷ []) (disposed SIGCHLD caught first_process))
  -- a living orphan is handed on in silence
  pub living_orphan_is_unannounced :
      at (ended (line_of_four (disposed SIGCHLD caught first_process) child grandchild third_generation) 3 0) 1 ≡ Some (disposed SIGCHLD caught first_process)
  pub zombie_goes : at (ended (family (disposed SIGCHLD Ignore first_process) child (living (Zombie 9) Note.Nothing grandchild)) 2 0) 3 ≡ None
  pub living_orphan_stays : at (ended (family (disposed SIGCHLD Ignore first_process) child grandchild) 2 0) 3 ≡ Some child
  pub end_is_announced : at (ended (family first_process (disposed SIGCHLD caught child) grandchild) 3 9) 2 ≡ Some (pending (SIGCHLD ∷ []) (disposed SIGCHLD caught child))
  pub parent_ignores : at (ended (family first_process (disposed SIGCHLD Ignore child) grandchild) 3 9) 3 ≡ None
  -- where the parent ignores SIGCHLD the end sends none, not even where it is blocked and would pend
  pub ignored_end_is_unannounced :
      at (ended (family first_process (blocking (set.from_list (SIGCHLD ∷ [])) (disposed SIGCHLD Ignore child)) grandchild) 3 0) 2
      ≡ Some (blocking (set.from_list (SIGCHLD ∷ [])) (disposed SIGCHLD Ignore child))
  pub nothing_pends : at (ended (family first_process child (pending (SIGTERM ∷ []) grandchild)) 3 9) 3 ≡ Some (living (Zombie 9) Note.Nothing grandchild)
  pub note_goes : at (ended (family first_process child (living Stopped (Note.Stopped SIGSTOP) grandchild)) 3 9) 3 ≡ Some (living (Zombie 9) Note.Nothing grandchild)
  -- a process that ends in a call waits in it no more
  pub waiting_goes :
      at (ended (family first_process child (record grandchild { body = record grandchild.body { waiting = Waiting.Pause } })) 3 9) 3
      ≡ Some (living (Zombie 9) Note.Nothing grandchild)
  pub end_of_first_halts : is_halted (ended (family first_process child grandchild) 1 0x600) ≡ true
  pub end_of_another_does_not : is_halted (ended (family first_process child grandchild) 2 0x600) ≡ false
  pub end_of_first_hands_none_on : at (ended (family first_process child grandchild) 1 0x600) 2 ≡ Some child

-- who orphans go to
pub record WorkedReapers : Type 0 where
  pub goes_to_first : at (ended (line_of_four first_process child grandchild third_generation) 3 0x100) 4 ≡ Some child
  pub goes_to_subreaper : at (ended (line_of_four first_process (marked child) grandchild third_generation) 3 0x100) 4 ≡ Some grandchild
  pub goes_far_up : at (ended (line_of_five first_process (marked child) grandchild third_generation fourth_generation) 4 0) 5 ≡ Some grandchild
  pub nearer_of_two : at (ended (line_of_five first_process (marked child) (marked grandchild) third_generation fourth_generation) 4 0) 5 ≡ Some third_generation
  pub then_the_other :
      at (ended (ended (line_of_five first_process (marked child) (marked grandchild) third_generation fourth_generation) 4 0) 3 0) 5 ≡ Some grandchild
  -- its own mark does not count, nor that of a child
  pub own_mark : at (ended (line_of_four first_process child (marked grandchild) (marked third_generation)) 3 0) 4 ≡ Some (marked child)
  -- a subreaper that is no ancestor gets nobody
  pub no_ancestor : at (ended (line_of_four first_process (marked child) child third_generation) 3 0) 4 ≡ Some child
  pub stopped_subreaper : at (ended (line_of_four first_process (living Stopped Note.Nothing (marked child)) grandchild third_generation) 3 0) 4 ≡ Some grandchild
  pub child_is_unmarked : child_of 1 (marked first_process) ≡ child
  pub zombie_stays_marked : at (ended (family first_process (marked child) grandchild) 2 0) 2 ≡ Some (living (Zombie 0) Note.Nothing (marked child))
  -- clearing the mark moves nobody, and the next orphan goes to process 1
  pub cleared_mark :
      at (changed (ended (line_of_four first_process (marked child) grandchild third_generation) 3 0) 2 (λ body. record body { subreaper = false })) 4 ≡ Some grandchild
  pub then_first :
      at (ended (changed (line_of_four first_process (marked child) grandchild third_generation) 2 (λ body. record body { subreaper = false })) 3 0) 4 ≡ Some child
  -- a zombie is announced to the subreaper, and not to process 1
  pub zombie_is_announced :
      at (ended (line_of_five first_process (disposed SIGCHLD caught (marked child)) grandchild third_generation (living (Zombie 9) Note.Nothing fourth_generation)) 4 0) 2
      ≡ Some (pending (SIGCHLD ∷ []) (disposed SIGCHLD caught (marked child)))
  pub not_to_first :
      at (ended (line_of_five (disposed SIGCHLD caught first_process) (marked child) grandchild third_generation (living (Zombie 9) Note.Nothing fourth_generation)) 4 0) 1
      ≡ Some (disposed SIGCHLD caught first_process)
  -- whether it goes is by the subreaper's disposition, and not by that of process 1
  pub zombie_goes :
      at (ended (line_of_four first_process (disposed SIGCHLD Ignore (marked child)) grandchild (living (Zombie 9) Note.Nothing third_generation)) 3 0) 4 ≡ None
  pub zombie_is_handed_on :
      at (ended (line_of_four (disposed SIGCHLD Ignore first_process) (marked child) grandchild (living (Zombie 9) Note.Nothing third_generation)) 3 0) 4
      ≡ Some (living (Zombie 9) Note.Nothing grandchild)
  -- an orphan keeps its ids and its filters, whoever it goes to
  pub orphan_keeps_rights : at (ended (family first_process child (with_rights grandchild)) 2 0) 3 ≡ Some (with_rights child)
  pub orphan_keeps_rights_below : at (ended (line_of_four first_process (marked child) grandchild (with_rights third_generation)) 3 0) 4 ≡ Some (with_rights grandchild)

-- what wait4(2) tells
pub record WorkedWaits : Type 0 where
  pub no_child : ready_of opening 1 (ask Any 0) ≡ NoMatch
  pub nobodys_child : ready_of (family first_process child grandchild) 1 (ask (Child 9) 0) ≡ NoMatch
  pub anothers_child : ready_of (family first_process child grandchild) 1 (ask (Child 3) 0) ≡ NoMatch
  pub another_group : ready_of (family first_process child grandchild) 1 (ask (Group 2) 0) ≡ NoMatch
  pub not_yet : ready_of (family first_process child grandchild) 1 (ask Any 0) ≡ NotReady
  pub not_yet_in_group : ready_of (family first_process child grandchild) 1 (ask (Group 1) 0) ≡ NotReady
  pub ended : ready_of (ended (family first_process child grandchild) 2 0x100) 1 (ask Any 0) ≡ Told 2 0x100
  pub lowest_first : ready_of (family first_process (living (Zombie 1) Note.Nothing child) (living (Zombie 2) Note.Nothing child)) 1 (ask Any 0) ≡ Told 2 1
  pub one_of_them : ready_of (family first_process (living (Zombie 1) Note.Nothing child) (living (Zombie 2) Note.Nothing child)) 1 (ask (Child 3) 0) ≡ Told 3 2
  pub then_the_other :
      ready_of (told (family first_process (living (Zombie 1) Note.Nothing child) (living (Zombie 2) Note.Nothing child)) (Told 2 1)) 1 (ask Any 0) ≡ Told 3 2
  pub stopped : ready_of (family first_process (living Stopped (Note.Stopped SIGSTOP) child) grandchild) 1 (ask Any 2) ≡ Told 2 0x137f
  pub stopped_unasked : ready_of (family first_process (living Stopped (Note.Stopped SIGSTOP) child) grandchild) 1 (ask Any 9) ≡ NotReady
  pub continued : ready_of (family first_process (living Running Note.Continued child) grandchild) 1 (ask Any 8) ≡ Told 2 0xffff
  pub continued_unasked : ready_of (family first_process (living Running Note.Continued child) grandchild) 1 (ask Any 3) ≡ NotReady
  pub told_once : ready_of (told (family first_process (living Stopped (Note.Stopped SIGSTOP) child) grandchild) (Told 2 0x137f)) 1 (ask Any 2) ≡ NotReady

-- what signals do
pub record WorkedSignals : Type 0 where
  pub pends : at (sent (family first_process child grandchild) 2 SIGTERM) 2 ≡ Some (pending (SIGTERM ∷ []) child)
  pub ignored : at (sent (family first_process (disposed SIGTERM Ignore child) grandchild) 2 SIGTERM) 2 ≡ Some (disposed SIGTERM Ignore child)
  pub ignored_and_blocked :
      at (sent (family first_process (blocking (set.from_list (SIGTERM ∷ [])) (disposed SIGTERM Ignore child)) grandchild) 2 SIGTERM) 2
      ≡ Some (pending (SIGTERM ∷ []) (blocking (set.from_list (SIGTERM ∷ [])) (disposed SIGTERM Ignore child)))
  pub first_is_spared : at (sent opening 1 SIGKILL) 1 ≡ Some first_process
  pub first_catches : at (sent (family (disposed SIGHUP caught first_process) child grandchild) 1 SIGHUP) 1 ≡ Some (pending (SIGHUP ∷ []) (disposed SIGHUP caught first_process))
  pub zombie_gets_none : at (sent (family first_process (living (Zombie 0) Note.Nothing child) grandchild) 2 SIGKILL) 2 ≡ Some (living (Zombie 0) Note.Nothing child)
  pub continues : at (sent (family first_process (living Stopped (Note.Stopped SIGSTOP) child) grandchild) 2 SIGCONT) 2 ≡ Some (living Running Note.Continued child)
  -- SIGCONT continues a stopped process that ignores it
  pub continues_ignored :
      at (sent (family first_process (living Stopped (Note.Stopped SIGSTOP) (disposed SIGCONT Ignore child)) grandchild) 2 SIGCONT) 2
      ≡ Some (living Running Note.Continued (disposed SIGCONT Ignore child))
  -- SIGCONT continues a stopped process that blocks it, and pends besides
  pub continues_blocked :
      at (sent (family first_process (living Stopped (Note.Stopped SIGSTOP) (blocking (set.from_list (SIGCONT ∷ [])) child)) grandchild) 2 SIGCONT) 2
      ≡ Some (pending (SIGCONT ∷ []) (living Running Note.Continued (blocking (set.from_list (SIGCONT ∷ [])) child)))
  pub continuation_is_announced :
      at (sent (family (disposed SIGCHLD caught first_process) (living Stopped (Note.Stopped SIGSTOP) child) grandchild) 2 SIGCONT) 1
      ≡ Some (pending (SIGCHLD ∷ []) (disposed SIGCHLD caught first_process))
  pub continues_nobody : at (sent (family (disposed SIGCHLD caught first_process) child grandchild) 2 SIGCONT) 1 ≡ Some (disposed SIGCHLD caught first_process)
  pub discards_stops : at (sent (family first_process (pending (SIGSTOP ∷ SIGTSTP ∷ []) child) grandchild) 2 SIGCONT) 2 ≡ Some child
  pub discards_continue : at (sent (family first_process (pending (SIGCONT ∷ []) child) grandchild) 2 SIGTSTP) 2 ≡ Some (pending (SIGTSTP ∷ []) child)
  pub forced_on_first : at (forced opening 1) 1 ≡ Some (pending (SIGSYS ∷ []) first_process)
  pub forced_through_mask :
      at (forced (family first_process (blocking (set.from_list (SIGUSR1 ∷ SIGSYS ∷ [])) (disposed SIGSYS caught child)) grandchild) 2) 2
      ≡ Some (pending (SIGSYS ∷ []) (blocking (set.from_list (SIGUSR1 ∷ [])) child))
