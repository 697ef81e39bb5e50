-- Which processes are blocked: they cannot run, and will not before they or their children change. Only code and proofs look
-- at this.
use Rattle.std.specs.Prelude.{ℕ, ◌==◌, Bool, true, false, ◌&&◌, ◌||◌, IsTrue, IsFalse, IfSome, Option}
use Rattle.sk_laws.specs.Common.{is_some, option_map_or, World, at, has_ended, is_match, is_ready, signal_for}
use Rattle.sk_world.specs.declared.process.Life.{Life}
use Rattle.sk_world.specs.declared.process.Life.TheVariants.{Running, Stopped, Zombie}
use Rattle.sk_world.specs.declared.process.Note.{Note}
use Rattle.sk_world.specs.declared.process.Waiting.{Waiting}
use Rattle.sk_world.specs.declared.process.Body.{Body}
use Rattle.sk_world.specs.declared.process.Proc.{Proc}
use Rattle.sk_world.specs.declared.request.Request.{Request}
use Rattle.sk_world.specs.declared.process.Note.TheVariants as note
use Rattle.sk_world.specs.declared.process.Waiting.TheVariants as waiting

-- a stop or a continuation is not reported yet
abbrev pub is_unreported : Note → Bool
is_unreported note.Nothing = false
is_unreported (note.Stopped n) = true
is_unreported note.Continued = true

-- a status change of a process is still to be reported: it has ended, or was stopped or continued
abbrev pub has_status_change : Body → Bool
has_status_change body = has_ended body.life || is_unreported body.note

-- a process is there, and has a status change to report to this parent
abbrev pub has_change_for : ℕ → Option Proc → Bool
has_change_for parent o = option_map_or (λ p. (p.links.parent == parent) && has_status_change p.body) o false

-- a child of the process matches the request, and none is ready
pub record IsStillAsking (w : World) (pid : ℕ) (request : Request) : Type 0 where
  pub matched : (child : ℕ) × IsTrue (is_match pid request child (at w child))
  pub unready : (child : ℕ) → IsFalse (is_ready w pid request child)

-- a process that waits for this goes on waiting
abbrev pub KeepsWaiting : World → ℕ → Waiting → Type 0
KeepsWaiting w pid waiting.Nothing = IsTrue false
KeepsWaiting w pid waiting.Pause = IsTrue true
KeepsWaiting w pid (waiting.Asks request) = IsStillAsking w pid request

-- a process with this body is blocked, by its life
abbrev pub BlockedBy : World → ℕ → Body → Life → Type 0
BlockedBy w pid body (Zombie status) = IsTrue true
BlockedBy w pid body Stopped = IsFalse (is_some (signal_for body))
BlockedBy w pid body Running = IsFalse (is_some (signal_for body)) × KeepsWaiting w pid body.waiting

-- so does nobody
abbrev pub BlockedAs : World → ℕ → Option Proc → Type 0
BlockedAs w pid o = IfSome o (λ p. BlockedBy w pid p.body p.body.life)

-- the process of a pid is blocked, if there is one
abbrev pub IsBlocked : World → ℕ → Type 0
IsBlocked w pid = BlockedAs w pid (at w pid)
