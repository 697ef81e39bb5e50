-- Laws on worlds: the rules of the world hold of the opening, and each change keeps them.
use Rattle.std.specs.Prelude.{ℕ, ◌≡◌, ◌≢◌, IsTrue, None, Some}
use Rattle.std.specs.Option.{is_some}
use Rattle.sk_world.specs.declared.process.TheConstants.{INIT}
use Rattle.sk_world.specs.declared.process.Links.{Links}
use Rattle.sk_world.specs.declared.process.Body.{Body}
use Rattle.sk_world.specs.declared.process.Proc.{Proc}
use Rattle.sk_world.specs.declared.request.Request.{Request}
use Rattle.sk_world.specs.World.{World, at, has_ended, has_stopped, is_zombie, is_alive, stored, changed, relinked, opening}
use Rattle.sk_world.specs.Rules.{IsWorld, is_within}
use Rattle.sk_world.specs.Sending.{sent, forced}
use Rattle.sk_world.specs.Forking.{forked}
use Rattle.sk_world.specs.Ending.{reparented, ended}
use Rattle.sk_world.specs.Waits.{ready_of, told}

-- the world as the system starts has the rules
abbrev pub OpeningHasRules : Type 0
OpeningHasRules = IsWorld opening

-- a change of a process's body that ends nobody, brings nobody back, and does not stop process 1
pub record KeepsGoing (pid : ℕ) (f : Body → Body) (body : Body) : Type 0 where
  pub ended : has_ended (f body).life ≡ has_ended body.life
  pub init : pid ≡ INIT → IsTrue (has_stopped (f body).life) → IsTrue (has_stopped body.life)

-- such a change keeps the rules
abbrev pub ChangeKeepsRules : Type 0
ChangeKeepsRules =
    (w : World) (pid : ℕ) (f : Body → Body) → IsWorld w → ((p : Proc) → at w pid ≡ Some p → KeepsGoing pid f p.body) → IsWorld (changed w pid f)

-- a change of a group and a session to numbers of at most 32767, which leaves the parent
pub record Regroups (f : Links → Links) (links : Links) : Type 0 where
  pub within : IsTrue (is_within (f links))
  pub parent : (f links).parent ≡ links.parent

-- such a change keeps the rules
abbrev pub LinksKeepRules : Type 0
LinksKeepRules =
    (w : World) (pid : ℕ) (f : Links → Links) → IsWorld w → ((p : Proc) → at w pid ≡ Some p → Regroups f p.links) → IsWorld (relinked w pid f)

-- so does the removal of a process that has ended, but for process 1
abbrev pub RemovalKeepsRules : Type 0
RemovalKeepsRules = (w : World) (pid : ℕ) → IsWorld w → pid ≢ INIT → IsTrue (is_zombie (at w pid)) → IsWorld (stored w pid None)

-- so does a signal, whoever gets it
abbrev pub SignalKeepsRules : Type 0
SignalKeepsRules = (w : World) (pid n : ℕ) → IsWorld w → IsWorld (sent w pid n)

-- so does a forced signal
abbrev pub ForceKeepsRules : Type 0
ForceKeepsRules = (w : World) (pid : ℕ) → IsWorld w → IsWorld (forced w pid)

-- so does a fork
abbrev pub ForkKeepsRules : Type 0
ForkKeepsRules = (w : World) (caller : ℕ) → IsWorld w → IsTrue (is_alive (at w caller)) → IsWorld (forked w caller)

-- so does the handing on of the children of a process
abbrev pub ReparentKeepsRules : Type 0
ReparentKeepsRules = (w : World) (pid : ℕ) → IsWorld w → IsTrue (is_some (at w pid)) → IsWorld (reparented w pid)

-- so does the end of a process, also that of process 1, which halts the system
abbrev pub EndKeepsRules : Type 0
EndKeepsRules = (w : World) (pid status : ℕ) → IsWorld w → IsTrue (is_alive (at w pid)) → IsWorld (ended w pid status)

-- so does what wait4(2) tells
abbrev pub ToldKeepsRules : Type 0
ToldKeepsRules =
    (w : World) (caller : ℕ) (request : Request) → IsWorld w → IsTrue (is_some (at w caller)) → IsWorld (told w (ready_of w caller request))
