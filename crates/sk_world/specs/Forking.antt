-- How a process is forked: fork(2).
use Rattle.std.specs.Prelude.{ℕ, ◌==◌, Bool, false, not, nat_lt, if◌then◌else◌, length, Option, Result, Ok, Err}
use Rattle.std.specs.Option.{option_map_or}
use Rattle.sk_world.specs.declared.errno.Errno.{Errno}
use Rattle.sk_world.specs.declared.errno.Errno.TheVariants.{Eagain}
use Rattle.sk_world.specs.Signalling.{forked as signals_forked}
use Rattle.sk_world.specs.declared.process.TheConstants.{PROCESSES}
use Rattle.sk_world.specs.declared.process.Life.TheVariants.{Running}
use Rattle.sk_world.specs.declared.process.Waiting.TheVariants as waiting
use Rattle.sk_world.specs.declared.process.Note.TheVariants as note
use Rattle.sk_world.specs.declared.process.Body.{Body}
use Rattle.sk_world.specs.declared.process.Proc.{Proc}
use Rattle.sk_world.specs.Processes.{count}
use Rattle.sk_world.specs.World.{World, at, inserted}
use Rattle.sk_world.specs.Numbers.{fresh_of}

-- what the child has: the ids, no_new_privs, the filters, the mask, the dispositions and the frames of
-- the one that forks, and no pending signal. It is no subreaper: prctl(2), PR_SET_CHILD_SUBREAPER
abbrev pub child_body : Body → Body
child_body body = record {
  life = Running;
  creds = body.creds;
  chain = body.chain;
  signals = signals_forked body.signals;
  executed = false;
  subreaper = false;
  waiting = waiting.Nothing;
  note = note.Nothing;
}

-- the child of process `caller`, in its group and session
abbrev pub child_of : ℕ → Proc → Proc
child_of caller p = record { links = record p.links { parent = caller }; body = child_body p.body }

-- there is room for one process more
abbrev pub has_room : World → Bool
has_room w = nat_lt (count w.procs) PROCESSES

-- what fork(2) answers: the child's pid, or EAGAIN
abbrev pub fork_answer : World → Result ℕ Errno
fork_answer w = if has_room w then Ok (fresh_of w) else Err Eagain

-- the world with the child
abbrev pub forked : World → ℕ → World
forked w caller =
    if has_room w then option_map_or (λ p. inserted w (fresh_of w) (child_of caller p)) (at w caller) w else w

-- the process has filters
abbrev pub has_filters : Option Proc → Bool
has_filters o = option_map_or (λ p. not (length p.body.chain == 0)) o false
