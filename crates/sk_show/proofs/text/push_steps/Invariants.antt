use Rattle.std.proofs.Common.{◌≡◌, ◌++◌, length, string_bytes}
use Rattle.sk_show.specs.declared.held.Held.TheVariants.{Other}
use Rattle.sk_show.specs.PathText.{steps_text}
use Rattle.sk_show.proofs.text.push_steps.Given as goal

abbrev pub invariant-loop-step : goal.invariant-loop-step
invariant-loop-step l = string_bytes l.text ++ steps_text l.architecture l.held l.rest ≡ string_bytes l.initial.text ++ steps_text l.architecture Other l.steps

abbrev pub decreases-loop-step : goal.decreases-loop-step
decreases-loop-step l = length l.rest
