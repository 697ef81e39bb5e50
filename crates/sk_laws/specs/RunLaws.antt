-- What is known of each run of the machine, as predicates of what is given, of the world before, and of a list
-- of events: a kernel that makes just this run can promise them.
use Rattle.std.specs.Prelude.{ℕ, ◌≡◌, ◌≢◌, ◌≤ℤ◌, ◌++◌, false, IsTrue, IfSome, List, [], ◌∷◌, slice_get, Option, Some, None}
use Rattle.sk_laws.specs.Common.{is_some, list_any, Insn, Record, action_of, performs, values_of, verdict_of, IsLeast, precedence_of, INIT, Proc, World, at, parent_of, IsWorld, is_subreaper, new_parent, Event, Answer, Outcome, Authority, pid_of, recorded, Images, step_of, answers_of, world_after, is_fork_of, history_of, history_after, authority_of_lineage, authority_at}
use Rattle.sk_names.specs.declared.call.Call.{Call}
use Rattle.sk_laws.specs.LineageLaws.{lineage_after, judged_by, GrowsFrom}
use Rattle.sk_laws.specs.FilterLaws.{HasAccepted, AllReturn}
use Rattle.sk_laws.specs.TellingLaws.{told_by, IsEnd, HasEndedUnder}
use Rattle.sk_laws.specs.ConfinementLaws.{RefusesKill, LeavesAlone}

-- the history of a run is that of its events and their answers
abbrev pub HistoryIsOfAnswers : Images → World → List Event → Type 0
HistoryIsOfAnswers declared w events = history_after declared w events [] ≡ history_of events (answers_of declared w events)

-- at each point of the run, the first and the last too, the rules have accepted every filter that is in force
abbrev pub FiltersAreAccepted : Images → World → List Event → Type 0
FiltersAreAccepted declared w events = (earlier later : List Event) → events ≡ earlier ++ later → HasAccepted (world_after declared w earlier)

-- and on every call each of them returns within its own length, without meeting an absent byte, a scratch word that
-- was not stored, or a missing instruction
abbrev pub FiltersReturn : Images → World → List Event → Type 0
FiltersReturn declared w events =
    (earlier later : List Event) (pid : ℕ) (call : Record) → events ≡ earlier ++ later
    → IfSome (authority_at (world_after declared w earlier) pid) (λ a. AllReturn a.filters call)

-- the number is the verdict of these filters on the call: the value whose action takes precedence over all others
pub record IsVerdictOf (filters : List (List Insn)) (call : Record) (verdict : ℕ) : Type 0 where
  pub value : verdict ≡ verdict_of filters call
  pub least : filters ≢ [] → IsLeast (values_of filters call) verdict

-- the verdict on each call of the run is that of its caller's filters before it
abbrev pub VerdictsAreLeast : Images → World → List Event → Type 0
VerdictsAreLeast declared w events =
    (earlier later : List Event) (pid ip : ℕ) (call : Call) (verdict : ℕ) (outcome : Outcome) → events ≡ earlier ++ Event.Call pid ip call ∷ later
    → (step_of declared (world_after declared w earlier) (Event.Call pid ip call)).answer ≡ Answer.Call verdict outcome
    → (a : Authority) × (authority_at (world_after declared w earlier) pid ≡ Some a) × IsVerdictOf a.filters (recorded ip call) verdict

-- each process that is there afterwards comes from one that was there before, and its filters, ids and
-- no_new_privs are those of its lineage
abbrev pub AuthoritiesAreOfLineages : Images → World → List Event → Type 0
AuthoritiesAreOfLineages declared w events =
    (pid : ℕ) → IsTrue (is_some (at (world_after declared w events) pid))
    → IsTrue (is_some (at w (lineage_after declared w events pid).root))
    × (authority_at (world_after declared w events) pid ≡ authority_of_lineage declared w (lineage_after declared w events pid))

-- there is an authority before and one now, which has grown from it
pub record HasGrown (before now : Option Authority) : Type 0 where
  pub old : Authority
  pub new : Authority
  pub was : before ≡ Some old
  pub is : now ≡ Some new
  pub grows : GrowsFrom old new

-- from each point of the run on, its filters are those that the process it comes from had there, with newer ones
-- in front, and no_new_privs once set stays set
abbrev pub FiltersStay : Images → World → List Event → Type 0
FiltersStay declared w events =
    (earlier later : List Event) (pid : ℕ) → events ≡ earlier ++ later → IsTrue (is_some (at (world_after declared w events) pid))
    → HasGrown (authority_at (world_after declared w earlier) (lineage_after declared (world_after declared w earlier) later pid).root)
    (authority_at (world_after declared w events) pid)

-- the verdict on each call of the run is that of the filters that its caller's lineage has attached until then
abbrev pub VerdictsAreOfLineages : Images → World → List Event → Type 0
VerdictsAreOfLineages declared w events =
    (earlier later : List Event) (pid ip : ℕ) (call : Call) (verdict : ℕ) (outcome : Outcome) → events ≡ earlier ++ Event.Call pid ip call ∷ later
    → (step_of declared (world_after declared w earlier) (Event.Call pid ip call)).answer ≡ Answer.Call verdict outcome
    → judged_by (recorded ip call) (authority_of_lineage declared w (lineage_after declared w earlier pid)) ≡ Some verdict

-- no call of the run that was performed has met a filter of its lineage whose action has precedence over
-- SECCOMP_RET_LOG
abbrev pub PerformedMeetNoRefusal : Images → World → List Event → Type 0
PerformedMeetNoRefusal declared w events =
    (earlier later : List Event) (pid ip : ℕ) (call : Call) (verdict : ℕ) (outcome : Outcome) (a : Authority) (place value : ℕ)
    → events ≡ earlier ++ Event.Call pid ip call ∷ later
    → (step_of declared (world_after declared w earlier) (Event.Call pid ip call)).answer ≡ Answer.Call verdict outcome → IsTrue (performs (action_of verdict))
    → authority_of_lineage declared w (lineage_after declared w earlier pid) ≡ Some a
    → slice_get (values_of a.filters (recorded ip call)) place ≡ Some value
    → precedence_of 0x7ffc0000 ≤ℤ precedence_of value

-- each end that the run tells is told to the parent of a zombie, with the zombie's status, and then the zombie
-- is gone
abbrev pub EndsAreToldToParents : Images → World → List Event → Type 0
EndsAreToldToParents declared w events =
    (earlier later : List Event) (event : Event) (child status : ℕ) → events ≡ earlier ++ event ∷ later
    → told_by (step_of declared (world_after declared w earlier) event).answer ≡ Some (child, status) → IsEnd status
    → (p : Proc) × (at (world_after declared w earlier) child ≡ Some p) × HasEndedUnder (pid_of event) status p
    × (at (step_of declared (world_after declared w earlier) event).world child ≡ None)

-- it is told once: before anything is told of the same pid again stands a fork that has given it
abbrev pub EndsAreToldOnce : Images → World → List Event → Type 0
EndsAreToldOnce declared w events =
    (earlier between rest : List Event) (first later : Event) (child status again : ℕ) → events ≡ earlier ++ first ∷ between ++ later ∷ rest
    → told_by (step_of declared (world_after declared w earlier) first).answer ≡ Some (child, status) → IsEnd status
    → told_by (step_of declared (world_after declared (step_of declared (world_after declared w earlier) first).world between) later).answer ≡ Some (child, again)
    → IsTrue (list_any (is_fork_of child) (history_after declared (step_of declared (world_after declared w earlier) first).world between []))

-- where a process other than 1 has no child before the run and refuses kill(2), the events of those whose lineage
-- comes from it leave all others alone
abbrev pub LineagesAreConfined : Images → World → List Event → Type 0
LineagesAreConfined declared w events =
    (earlier later : List Event) (event : Event) (root q : ℕ) → events ≡ earlier ++ event ∷ later → root ≢ INIT
    → ((k : ℕ) → IsTrue (is_some (at w k)) → parent_of (at w k) ≢ root) → IfSome (authority_at w root) (λ a. RefusesKill a.filters)
    → (lineage_after declared w earlier (pid_of event)).root ≡ root → (lineage_after declared w earlier q).root ≢ root
    → IsTrue (is_some (at (world_after declared w earlier) q))
    → LeavesAlone (world_after declared w earlier) (step_of declared (world_after declared w earlier) event).world (pid_of event)
    (step_of declared (world_after declared w earlier) event).answer q

-- where no subreapers are declared, and nobody was one before, the children of each process go to process 1 at each
-- point of the run
abbrev pub OrphansGoToInit : Images → World → List Event → Type 0
OrphansGoToInit declared w events =
    (earlier later : List Event) (pid : ℕ) → events ≡ earlier ++ later → declared.subreapers ≡ false → ((k : ℕ) → is_subreaper (at w k) ≡ false)
    → new_parent (world_after declared w earlier) pid ≡ INIT

-- all of these, and what holds of the world afterwards
pub record RunIsLawful (declared : Images) (w : World) (events : List Event) : Type 0 where
  pub rules : IsWorld (world_after declared w events)
  pub accepted : FiltersAreAccepted declared w events
  pub returning : FiltersReturn declared w events
  pub least : VerdictsAreLeast declared w events
  pub history : HistoryIsOfAnswers declared w events
  pub authorities : AuthoritiesAreOfLineages declared w events
  pub filters : FiltersStay declared w events
  pub verdicts : VerdictsAreOfLineages declared w events
  pub performed : PerformedMeetNoRefusal declared w events
  pub parents : EndsAreToldToParents declared w events
  pub once : EndsAreToldOnce declared w events
  pub confined : LineagesAreConfined declared w events
  pub orphans : OrphansGoToInit declared w events

-- every run is lawful that begins in a world with the rules whose filters have been accepted
abbrev pub RunsAreLawful : Type 0
RunsAreLawful = (declared : Images) (w : World) (events : List Event) → IsWorld w → HasAccepted w → RunIsLawful declared w events
