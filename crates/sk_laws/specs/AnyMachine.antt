-- The laws on authority, said of any machine: of one that is wrong in what they speak of they do not hold.
use Rattle.std.specs.Prelude.{ℕ, ◌≡◌, false, IsTrue, Bool, List, [], ◌∷◌, Some}
use Rattle.sk_laws.specs.Common.{is_some, list_any, World, at, IsWorld, Event, pid_of, Images, Stepped, step_of, Happening, lineage_of, is_fork_of, authority_of_lineage, authority_at}
use Rattle.sk_laws.specs.TellingLaws.{told_by, IsEnd}
use Rattle.sk_laws.specs.ConfinementLaws.{IsConfined, LeavesAlone}

-- what an event comes to, by some machine
abbrev pub Machine : Type 0
Machine = Images → World → Event → Stepped

-- the world after a list of events
abbrev pub world_by : Machine → Images → World → List Event → World
world_by step declared w [] = w
world_by step declared w (event ∷ events) = world_by step declared (step declared w event).world events

-- the history of a list of events, the newest first, after one that was there before
abbrev pub history_by : Machine → Images → World → List Event → List Happening → List Happening
history_by step declared w [] before = before
history_by step declared w (event ∷ events) before =
    history_by step declared (step declared w event).world events ((event, (step declared w event).answer) ∷ before)

-- what each process may do after any list of events is what its lineage says
abbrev pub GivesAuthorityByLineage : Machine → Type 0
GivesAuthorityByLineage step =
    (declared : Images) (w : World) (events : List Event) (pid : ℕ) → IsTrue (is_some (at (world_by step declared w events) pid))
    → authority_at (world_by step declared w events) pid ≡ authority_of_lineage declared w (lineage_of (history_by step declared w events []) pid)

-- between two status changes of one pid, the first of which is an end, stands a fork that has given it
abbrev pub TellsEndsOnce : Machine → Type 0
TellsEndsOnce step =
    (declared : Images) (w : World) (first : Event) (between : List Event) (later : Event) (child status again : ℕ)
    → told_by (step declared w first).answer ≡ Some (child, status) → IsEnd status
    → told_by (step declared (world_by step declared (step declared w first).world between) later).answer ≡ Some (child, again)
    → IsTrue (list_any (is_fork_of child) (history_by step declared (step declared w first).world between []))

-- an event of a confined process leaves every other one alone
abbrev pub KeepsToConfined : Machine → Type 0
KeepsToConfined step =
    (declared : Images) (w : World) (event : Event) (inside : ℕ → Bool) (q : ℕ) → IsWorld w → IsConfined w inside
    → IsTrue (inside (pid_of event)) → inside q ≡ false → IsTrue (is_some (at w q))
    → LeavesAlone w (step declared w event).world (pid_of event) (step declared w event).answer q

-- the machine of the definitions has all three
pub record HasMachineLaws : Type 0 where
  pub authority : GivesAuthorityByLineage step_of
  pub once : TellsEndsOnce step_of
  pub confined : KeepsToConfined step_of
