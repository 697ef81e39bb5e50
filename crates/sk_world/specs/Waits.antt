-- What wait4(2) tells, and of which child.
use Rattle.std.specs.Prelude.{ℕ, ◌+◌, ◌*◌, ◌==◌, Bool, true, false, ◌&&◌, if◌then◌else◌, bit_and, List, [], ◌∷◌, Option, None, Some}
use Rattle.std.specs.Option.{is_some, option_map_or, option_and_then}
use Rattle.std.specs.List.{list_any}
use Rattle.sk_world.specs.declared.process.Life.{Life}
use Rattle.sk_world.specs.declared.process.Life.TheVariants.{Running, Stopped, Zombie}
use Rattle.sk_world.specs.declared.process.Note.{Note}
use Rattle.sk_world.specs.declared.process.Body.{Body}
use Rattle.sk_world.specs.declared.process.Proc.{Proc}
use Rattle.sk_world.specs.declared.request.WaitOptions.{WaitOptions}
use Rattle.sk_world.specs.declared.request.Who.{Who}
use Rattle.sk_world.specs.declared.request.Who.TheVariants.{Child, Any, Group}
use Rattle.sk_world.specs.declared.request.Request.{Request}
use Rattle.sk_world.specs.declared.request.Poll.{Poll}
use Rattle.sk_world.specs.declared.request.Poll.TheVariants.{Told, NoMatch, NotReady}
use Rattle.sk_world.specs.Processes.{pids}
use Rattle.sk_world.specs.World.{World, at, is_zombie, stored, changed}

-- the options that a register's bits stand for, which are kept as these bits, the type's one field 0: WNOHANG is bit 0,
-- WUNTRACED bit 1, WCONTINUED bit 3
abbrev pub options_of : ℕ → WaitOptions
options_of bits = record { 0 = bits }

-- the call does not wait: wait4(2), WNOHANG
abbrev pub is_no_hang : WaitOptions → Bool
is_no_hang options = bit_and options.0 1 == 1

-- it asks for stopped children too: WUNTRACED
abbrev pub is_untraced : WaitOptions → Bool
is_untraced options = bit_and options.0 2 == 2

-- it asks for continued children too: WCONTINUED
abbrev pub is_continued : WaitOptions → Bool
is_continued options = bit_and options.0 8 == 8

-- the process is one of those that are waited for
abbrev pub is_asked_for : Who → ℕ → Proc → Bool
is_asked_for (Child child) pid p = pid == child
is_asked_for Any pid p = true
is_asked_for (Group group) pid p = p.links.group == group

-- it is a child of the caller, and asked for
abbrev pub is_match : ℕ → Request → ℕ → Option Proc → Bool
is_match caller request pid o = option_map_or (λ p. (p.links.parent == caller) && is_asked_for request.who pid p) o false

-- the status of a process that has been stopped by signal n, or continued: wait(2), WIFSTOPPED and
-- WIFCONTINUED
abbrev pub status_of_note : WaitOptions → Note → Option ℕ
status_of_note options Note.Nothing = None
status_of_note options (Note.Stopped n) = if is_untraced options then Some (n * 256 + 0x7f) else None
status_of_note options Note.Continued = if is_continued options then Some 0xffff else None

-- the status that a child has to tell, if it has any
abbrev pub status_of_body : WaitOptions → Note → Life → Option ℕ
status_of_body options note (Zombie status) = Some status
status_of_body options note Stopped = status_of_note options note
status_of_body options note Running = status_of_note options note

-- the same of the process of a pid, if there is one
abbrev pub status_of : WaitOptions → Option Proc → Option ℕ
status_of options o = option_and_then (λ p. status_of_body options p.body.note p.body.life) o

-- a child that matches and has something to tell
abbrev pub is_ready : World → ℕ → Request → ℕ → Bool
is_ready w caller request pid = is_match caller request pid (at w pid) && is_some (status_of request.options (at w pid))

-- some child matches
abbrev pub has_match : World → ℕ → Request → Bool
has_match w caller request = list_any (λ pid. is_match caller request pid (at w pid)) (pids w.procs)

-- the status changes with those of this process before them, if it has a status to tell
abbrev pub with_status : ℕ → Option ℕ → List (ℕ × ℕ) → List (ℕ × ℕ)
with_status pid (Some status) rest = (pid, status) ∷ rest
with_status pid None rest = rest

-- what these processes have to tell the caller: the status of each that matches and has one
abbrev pub status_changes : World → ℕ → Request → List ℕ → List (ℕ × ℕ)
status_changes w caller request [] = []
status_changes w caller request (pid ∷ rest) =
    if is_match caller request pid (at w pid) then with_status pid (status_of request.options (at w pid)) (status_changes w caller request rest)
    else status_changes w caller request rest

-- the first of the status changes is told; where there are none it is this
abbrev pub first_told : List (ℕ × ℕ) → Poll → Poll
first_told [] none = none
first_told (e ∷ rest) none = Told e.0 e.1

-- what is told: the status of the child with the lowest pid that has one; else whether any child matches
abbrev pub ready_of : World → ℕ → Request → Poll
ready_of w caller request = first_told (status_changes w caller request (pids w.procs)) (if has_match w caller request then NotReady else NoMatch)

-- what a process has to tell was told
abbrev pub without_note : Body → Body
without_note body = record body { note = Note.Nothing }

-- the world after it was told: a zombie goes, and a note is told once
abbrev pub told : World → Poll → World
told w (Told pid status) = if is_zombie (at w pid) then stored w pid None else changed w pid without_note
told w NoMatch = w
told w NotReady = w
