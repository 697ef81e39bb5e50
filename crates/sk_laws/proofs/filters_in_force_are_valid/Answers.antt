use Rattle.sk_laws.proofs.Accepted.{event_keeps_accepted, run_keeps_accepted, accepted_return, accepted_are_bounded, filters_in_force_are_accepted, steps_in_force_are_bounded}
use Rattle.sk_laws.proofs.filters_in_force_are_valid.Goals as goal

pub returns : goal.returns
returns c = record {
  event = event_keeps_accepted;
  run = run_keeps_accepted;
  returning = accepted_return;
  bounded = accepted_are_bounded;
  accepted = filters_in_force_are_accepted;
  steps = steps_in_force_are_bounded;
}
