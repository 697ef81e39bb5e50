use Rattle.sk_world.proofs.Common.{ltb-true}
use Rattle.sk_laws.specs.Common.{PROCESSES, count}
use Rattle.sk_world.proofs.Fresh.{number_next, fresh_is_next, next_is_unique}
use Rattle.sk_laws.proofs.Locality.{forked_child}
use Rattle.sk_laws.proofs.Numbering.{number_new}
use Rattle.sk_laws.proofs.world.fork_takes_a_new_number.Goals as goal

pub returns : goal.returns
returns c = record {
  child = forked_child;
  number = number_new;
  next = number_next;
  is_next_free = λ w rules room. fresh_is_next w (ltb-true (count w.procs) PROCESSES room) rules.last.0 rules.last.1;
  unique = λ w m n rules. next_is_unique w m n rules.last.0 rules.last.1;
}
