use Rattle.sk_laws.proofs.Turns.{next_is_turn, nobodys_turn, runnable_has_event, idle_does_nothing, end_is_final}
use Rattle.sk_laws.proofs.turns_go_to_the_runnable.Goals as goal

pub returns : goal.returns
returns c = record {
  next = next_is_turn;
  nobody = nobodys_turn;
  runnable = runnable_has_event;
  idle = idle_does_nothing;
  end = end_is_final;
}
