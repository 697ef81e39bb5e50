use Rattle.std.proofs.Common.{◌≡◌, ◌++◌, take, flat_map}
use Rattle.sk_document.specs.WhyDocument.{path_step}
use Rattle.sk_document.proofs.why.add_steps.Given as goal

abbrev pub invariant-loop-step : goal.invariant-loop-step
invariant-loop-step l = l.to ≡ l.initial.to ++ flat_map path_step (take l.step-index l.steps)
