-- Laws on what hanging up groups leaves.
use Rattle.std.specs.Prelude.{ℕ, ◌≡◌, true, false, IsTrue}
use Rattle.sk_laws.specs.Common.{option_map, INIT, World, at, is_zombie, is_alive, is_stopped, opening, ended, is_orphaned, ended_and_hung_up}
use Rattle.sk_laws.specs.ChangeLaws.{unsignalled, KeepsRights}

-- the end of a process gives nobody rights, and takes none, whoever is hung up
abbrev pub EndKeepsRights : Type 0
EndKeepsRights = (w : World) (pid status : ℕ) → KeepsRights w (ended_and_hung_up w pid status)

-- whom it hangs up keeps all but its signals, its life and its note, and nobody comes or goes
abbrev pub HangingUpKeepsAllElse : Type 0
HangingUpKeepsAllElse =
    (w : World) (pid status q : ℕ) → option_map unsignalled (at (ended_and_hung_up w pid status) q) ≡ option_map unsignalled (at (ended w pid status) q)

-- and lives or has ended as before
abbrev pub HangingUpEndsNobody : Type 0
HangingUpEndsNobody = (w : World) (pid status q : ℕ) → is_alive (at (ended_and_hung_up w pid status) q) ≡ is_alive (at (ended w pid status) q)

-- a zombie stays as it is
abbrev pub HangingUpKeepsZombies : Type 0
HangingUpKeepsZombies =
    (w : World) (pid status q : ℕ) → IsTrue (is_zombie (at (ended w pid status) q)) → at (ended_and_hung_up w pid status) q ≡ at (ended w pid status) q

-- where nobody is stopped nobody is hung up
abbrev pub EndWithoutStopped : Type 0
EndWithoutStopped =
    (w : World) (pid status : ℕ) → ((q : ℕ) → is_stopped (at (ended w pid status) q) ≡ false) → ended_and_hung_up w pid status ≡ ended w pid status

-- group 1 is orphaned as the system starts: process 1 has no parent
abbrev pub OpeningGroupIsOrphaned : Type 0
OpeningGroupIsOrphaned = is_orphaned opening INIT ≡ true
