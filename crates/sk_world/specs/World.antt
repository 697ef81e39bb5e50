-- The world, what can be asked about a process of it, and the words that its changes are made of.
use Rattle.std.specs.Prelude.{ℕ, ◌≡◌, ◌<◌, ◌==◌, Bool, true, false, not, IsTrue, [], Option, None, Some}
use Rattle.std.specs.Option.{option_map, option_map_or}
use Rattle.sk_world.specs.Signalling.{opening as no_signal}
use Rattle.sk_world.specs.declared.process.TheConstants.{INIT}
use Rattle.sk_world.specs.declared.process.Life.{Life}
use Rattle.sk_world.specs.declared.process.Life.TheVariants.{Running, Stopped, Zombie}
use Rattle.sk_world.specs.declared.process.Waiting.TheVariants as waiting
use Rattle.sk_world.specs.declared.process.Note.TheVariants as note
use Rattle.sk_world.specs.declared.process.Links.{Links}
use Rattle.sk_world.specs.declared.process.Body.{Body}
use Rattle.sk_world.specs.declared.process.Proc.{Proc}
use Rattle.sk_world.specs.Processes.{Processes, none, get, store}

-- every process, zombies too, and the last pid that fork(2) has given
pub record World : Type 0 where
  pub procs : Processes
  pub last : ℕ

-- the process of a pid, if there is one
abbrev pub at : World → ℕ → Option Proc
at w pid = get w.procs pid

-- it has ended, and its parent has not waited for it: wait(2), "Notes"
abbrev pub has_ended : Life → Bool
has_ended (Zombie status) = true
has_ended Stopped = false
has_ended Running = false

-- it is stopped by a signal: signal(7)
abbrev pub has_stopped : Life → Bool
has_stopped (Zombie status) = false
has_stopped Stopped = true
has_stopped Running = false

-- a process is there, and has ended; here and below the answer is no where there is none
abbrev pub is_zombie : Option Proc → Bool
is_zombie o = option_map_or (λ p. has_ended p.body.life) o false

-- a process is there, and stopped
abbrev pub is_stopped : Option Proc → Bool
is_stopped o = option_map_or (λ p. has_stopped p.body.life) o false

-- a process is there, and has not ended
abbrev pub is_alive : Option Proc → Bool
is_alive o = option_map_or (λ p. not (has_ended p.body.life)) o false

-- its parent, 0 where there is no process: getppid(2)
abbrev pub parent_of : Option Proc → ℕ
parent_of o = option_map_or (λ p. p.links.parent) o 0

-- a process is there, and this pid is its parent's
abbrev pub is_child_of : ℕ → Option Proc → Bool
is_child_of parent o = option_map_or (λ p. p.links.parent == parent) o false

-- it is in this process group: getpgid(2)
abbrev pub is_member_of : ℕ → Option Proc → Bool
is_member_of group o = option_map_or (λ p. p.links.group == group) o false

-- the system has halted: process 1 has ended
abbrev pub is_halted : World → Bool
is_halted w = is_zombie (at w INIT)

-- every change of one process is made of this word: the pid leads to this process, or to none
abbrev pub stored : World → ℕ → Option Proc → World
stored w pid o = record w { procs = store w.procs pid o }

-- what belongs to a process alone is changed
abbrev pub body_changed : (Body → Body) → Proc → Proc
body_changed f p = record p { body = f p.body }

-- the same of the process of a pid, if there is one: every change of a body is made of this word
abbrev pub changed : World → ℕ → (Body → Body) → World
changed w pid f = stored w pid (option_map (body_changed f) (at w pid))

-- the process of a pid has this body, if there is one
abbrev pub with_body : World → ℕ → Body → World
with_body w pid body = changed w pid (λ old. body)

-- the parent, group and session of a process are changed
abbrev pub links_changed : (Links → Links) → Proc → Proc
links_changed f p = record p { links = f p.links }

-- the same of the process of a pid, if there is one
abbrev pub relinked : World → ℕ → (Links → Links) → World
relinked w pid f = stored w pid (option_map (links_changed f) (at w pid))

-- the process of a pid has these links, if there is one
abbrev pub with_links : World → ℕ → Links → World
with_links w pid links = relinked w pid (λ old. links)

-- a new process, whose pid is the last one given
abbrev pub inserted : World → ℕ → Proc → World
inserted w pid p = record (stored w pid (Some p)) { last = pid }

-- the least pid above this one that passes the test, or that there is none
abbrev pub IsNext : (ℕ → Bool) → ℕ → Option ℕ → Type 0
IsNext test after None = (pid : ℕ) → after < pid → test pid ≡ false
IsNext test after (Some next) =
    (after < next) × IsTrue (test next) × ((pid : ℕ) → after < pid → pid < next → test pid ≡ false)

-- process 1 as the system starts: the superuser's, with no filter, in group and session 1
abbrev pub first_process : Proc
first_process = record {
  links = record { parent = 0; group = INIT; session = INIT };
  body = record {
    life = Running;
    creds = record { real = 0; effective = 0; saved = 0; no_new_privs = false };
    chain = [];
    signals = no_signal;
    executed = false;
    subreaper = false;
    waiting = waiting.Nothing;
    note = note.Nothing;
  };
}

-- the world as the system starts
abbrev pub opening : World
opening = record { procs = store none INIT (Some first_process); last = INIT }
