use Rattle.std.proofs.Common.{◌-◌, ◌<◌, ◌&&◌, IfSome}
use Rattle.std.specs.Option.{option_map_or}
use Rattle.sk_machine.specs.Orphans.{is_orphaned, has_stopped_member}
use Rattle.sk_machine.proofs.Ties.{IsJudged}
use Rattle.sk_machine.proofs.ending.keep_orphaned.Given as goal

abbrev pub invariant-loop-next : goal.invariant-loop-next
invariant-loop-next g l = record {
  judged : IsJudged (λ group. is_orphaned (g.S.ProcStore.contents l.store) group && has_stopped_member (g.S.ProcStore.contents l.store) group) l.fn.groups l.groups l.next;
  within : IfSome l.next (λ n. n < 32768);
}

abbrev pub decreases-loop-next : goal.decreases-loop-next
decreases-loop-next g l = option_map_or (λ n. 32768 - n) l.next 0
