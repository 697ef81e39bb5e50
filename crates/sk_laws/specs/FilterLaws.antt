-- Laws on the filters in force: the rules have accepted each of them.
use Rattle.std.specs.Prelude.{ℕ, IfSome, List, [], ◌∷◌}
use Rattle.sk_laws.specs.Common.{Insn, Record, IsWithinLimit, AllValid, StepsAreBounded, World, opening, Event, Images, step_of, world_after, authority_at}
use Rattle.sk_filter.specs.MeaningLaws.{ReturnsWithinLength}

-- filters that seccomp(2) accepts: each is valid, and they hold to the path limit
pub record AreAccepted (filters : List (List Insn)) : Type 0 where
  pub valid : AllValid filters
  pub limited : IsWithinLimit filters

-- so are those of every process of the world
abbrev pub HasAccepted : World → Type 0
HasAccepted w = (pid : ℕ) → IfSome (authority_at w pid) (λ a. AreAccepted a.filters)

-- then they are so after one event
abbrev pub EventKeepsAccepted : Type 0
EventKeepsAccepted = (declared : Images) (w : World) (event : Event) → HasAccepted w → HasAccepted (step_of declared w event).world

-- and after any list of events
abbrev pub RunKeepsAccepted : Type 0
RunKeepsAccepted = (declared : Images) (w : World) (events : List Event) → HasAccepted w → HasAccepted (world_after declared w events)

-- each of these filters returns on the call, in steps that its length bounds: it never meets an absent byte, a
-- scratch word that was not stored, or a missing instruction
abbrev pub AllReturn : List (List Insn) → Record → Type 0
AllReturn [] call = Unit {0}
AllReturn (newest ∷ older) call = ReturnsWithinLength newest call × AllReturn older call

-- accepted filters return on every call
abbrev pub AcceptedReturn : Type 0
AcceptedReturn = (filters : List (List Insn)) → AreAccepted filters → (call : Record) → AllReturn filters call

-- and for no call do they execute more instructions than the path limit
abbrev pub AcceptedAreBounded : Type 0
AcceptedAreBounded = (filters : List (List Insn)) → AreAccepted filters → StepsAreBounded filters

-- whatever happens from the opening on, the filters of every process have been accepted
abbrev pub FiltersInForceAreAccepted : Type 0
FiltersInForceAreAccepted = (declared : Images) (events : List Event) → HasAccepted (world_after declared opening events)

-- so for no call do they execute more instructions than the path limit
abbrev pub StepsInForceAreBounded : Type 0
StepsInForceAreBounded =
    (declared : Images) (events : List Event) (pid : ℕ) → IfSome (authority_at (world_after declared opening events) pid) (λ a. StepsAreBounded a.filters)
