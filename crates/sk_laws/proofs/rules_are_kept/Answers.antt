use Rattle.sk_laws.proofs.KeptEvents.{kept_performed, kept_delivered, kept_resumed, kept_step, kept_run, kept_reached}
use Rattle.sk_laws.proofs.rules_are_kept.Goals as goal

pub returns : goal.returns
returns c = record {
  call = kept_performed;
  delivery = kept_delivered;
  resumption = kept_resumed;
  event = kept_step;
  run = kept_run;
  reached = kept_reached;
}
