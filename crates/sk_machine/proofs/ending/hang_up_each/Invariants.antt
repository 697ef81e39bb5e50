use Rattle.std.proofs.Common.{◌-◌, ◌<◌, IfSome}
use Rattle.std.specs.Option.{option_map_or}
use Rattle.sk_world.specs.NumberSets.{contains}
use Rattle.sk_machine.proofs.Hanging.{IsHungUpTo}
use Rattle.sk_machine.proofs.ending.hang_up_each.Given as goal

abbrev pub invariant-loop-next : goal.invariant-loop-next
invariant-loop-next g l = record {
  hung : IsHungUpTo (contains l.groups) (g.S.ProcStore.contents l.fn.store) (g.S.ProcStore.contents l.store) l.next;
  within : IfSome l.next (λ n. n < 32768);
}

abbrev pub decreases-loop-next : goal.decreases-loop-next
decreases-loop-next g l = option_map_or (λ n. 32768 - n) l.next 0
