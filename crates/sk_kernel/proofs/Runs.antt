-- What a kernel keeps over an event, and over a list of events.
use Rattle.std.proofs.Common.{◌≡◌, ◌∙◌, ◌<◌, ◌+◌, ℕ, length, ap, sym, refl, subst, append_assoc, List, [], ◌∷◌, ◌++◌, Result, Ok, Err, OnOk, OnErr, take}
use Rattle.sk_kernel.proofs.Common.{take_more, World, IsWorld, Event, Answer, Images, step_of, answers_of, world_after, HasAccepted}
use Rattle.sk_kernel.specs.State.{State}
use Rattle.sk_laws.proofs.KeptEvents.{kept_step}
use Rattle.sk_laws.proofs.Accepted.{event_keeps_accepted}
use lib.ListN.{get_or}

-- an event that was done or not keeps the rules, and the filters accepted
pub kept_by : {A E : Type 0} (declared : Images) (w after : World) (event : Event) (r : Result A E) → OnOk r (after ≡ (step_of declared w event).world) → OnErr r (after ≡ w)
    → IsWorld w × HasAccepted w → IsWorld after × HasAccepted after
kept_by declared w after event (Ok a) done same kept =
    (subst IsWorld (sym done) (kept_step declared w event kept.0), subst HasAccepted (sym done) (event_keeps_accepted declared w event kept.1))
kept_by declared w after event (Err e) done same kept = (subst IsWorld (sym same) kept.0, subst HasAccepted (sym same) kept.1)

-- one event more
pub one_more_answer : (declared : Images) (w : World) (events : List Event) (event : Event)
    → answers_of declared w (events ++ event ∷ []) ≡ answers_of declared w events ++ (step_of declared (world_after declared w events) event).answer ∷ []
one_more_answer declared w [] event = refl
one_more_answer declared w (first ∷ events) event = ap (λ xs. (step_of declared w first).answer ∷ xs) (one_more_answer declared (step_of declared w first).world events event)

pub one_more_world : (declared : Images) (w : World) (events : List Event) (event : Event)
    → world_after declared w (events ++ event ∷ []) ≡ (step_of declared (world_after declared w events) event).world
one_more_world declared w [] event = refl
one_more_world declared w (first ∷ events) event = one_more_world declared (step_of declared w first).world events event

-- one event more of a list, behind what was told before
pub told_more : (declared : Images) (w : World) (events : List Event) (done : ℕ) (other : Event) (before told now : List Answer) → done < length events
    → told ≡ before ++ answers_of declared w (take done events)
    → now ≡ told ++ (step_of declared (world_after declared w (take done events)) (get_or events done other)).answer ∷ []
    → now ≡ before ++ answers_of declared w (take (done + 1) events)
told_more declared w events done other before told now lt is more =
    more ∙ ap (λ xs. xs ++ (step_of declared (world_after declared w (take done events)) (get_or events done other)).answer ∷ []) is
    ∙ append_assoc before (answers_of declared w (take done events)) _
    ∙ ap (λ xs. before ++ xs) (sym (ap (answers_of declared w) (take_more events done other lt) ∙ one_more_answer declared w (take done events) (get_or events done other)))

pub world_more : (declared : Images) (w : World) (events : List Event) (done : ℕ) (other : Event) → done < length events
    → (step_of declared (world_after declared w (take done events)) (get_or events done other)).world ≡ world_after declared w (take (done + 1) events)
world_more declared w events done other lt =
    sym (ap (world_after declared w) (take_more events done other lt) ∙ one_more_world declared w (take done events) (get_or events done other))

-- the same from a state that has done the first of the events
pub more : (declared : Images) (w : World) (events : List Event) (done : ℕ) (other : Event) (state : State) (before told now : List Answer) (after : World) → done < length events
    → told ≡ before ++ answers_of declared w (take done events) → state.world ≡ world_after declared w (take done events) → state.declared ≡ declared
    → now ≡ told ++ (step_of state.declared state.world (get_or events done other)).answer ∷ [] → after ≡ (step_of state.declared state.world (get_or events done other)).world
    → (now ≡ before ++ answers_of declared w (take (done + 1) events)) × (after ≡ world_after declared w (take (done + 1) events))
more declared w events done other state before told now after lt is here same answered stepped =
    let event : Event = get_or events done other in (
      told_more declared w events done other before told now lt is (answered ∙ (λ i. told ++ (step_of (same i) (here i) event).answer ∷ [])),
      stepped ∙ (λ i. (step_of (same i) (here i) event).world) ∙ world_more declared w events done other lt,
    )
