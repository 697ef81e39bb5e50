-- What a kernel is to its callers: what calls name by numbers, and a world. Only code and proofs look at how it is
-- stored.
use Rattle.std.specs.Prelude.{List, take, Result, Ok, Err, refl}
use Rattle.std.specs.Coded.{Coded, code_by, coded×}
use Rattle.sk_laws.specs.Common.{World, Images}
use Rattle.sk_world.specs.views.WorldCode.{world_code}
use Rattle.sk_machine.specs.declared.event.Event.{Event}
use Rattle.sk_machine.specs.Images.{images_code}
use Rattle.sk_kernel.specs.declared.kernel.Stopped.{Stopped}

-- the filters and programs that are declared, which never change, and the processes
pub record State : Type 0 where
  pub declared : Images
  pub world : World

-- a state is stored as the pair of its parts
abbrev pub state_code : Coded State
state_code = code_by (Images × World) (coded× images_code world_code) (λ s. (s.declared, s.world)) (λ p. record { declared = p.0; world = p.1 }) (λ _. refl)

-- the events that a run has done: all of them, or those before it stopped
abbrev pub done_of : List Event → Result (Unit {0}) Stopped → List Event
done_of events (Ok _) = events
done_of events (Err stopped) = take stopped.done events
