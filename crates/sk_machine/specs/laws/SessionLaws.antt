-- Laws on groups and sessions: the rules of the world are kept.
use Rattle.std.specs.Prelude.{ℕ, ℤ, IsTrue, IfOk}
use Rattle.std.specs.Option.{is_some}
use Rattle.sk_world.specs.World.{World, at, is_alive}
use Rattle.sk_world.specs.Rules.{IsWorld}
use Rattle.sk_machine.specs.Sessions.{after_setpgid, after_setsid}
use Rattle.sk_machine.specs.Orphans.{ended_and_hung_up}

-- setpgid(2) by a process that is there keeps the rules of the world
abbrev pub RegroupingKeepsRules : Type 0
RegroupingKeepsRules =
    (w : World) (caller : ℕ) (pid group : ℤ) → IsWorld w → IsTrue (is_some (at w caller)) → IfOk (after_setpgid w caller pid group) IsWorld

-- so does setsid(2)
abbrev pub FoundingKeepsRules : Type 0
FoundingKeepsRules = (w : World) (caller : ℕ) → IsWorld w → IsTrue (is_some (at w caller)) → IfOk (after_setsid w caller) IsWorld

-- so does the end of a process, with the groups that it hangs up
abbrev pub EndKeepsRules : Type 0
EndKeepsRules = (w : World) (pid status : ℕ) → IsWorld w → IsTrue (is_alive (at w pid)) → IsWorld (ended_and_hung_up w pid status)
