use Rattle.std.proofs.Common.{◌≡◌, ◌+◌, ◌-◌, vec_len, vec_capacity}
use Rattle.sk_run.specs.views.Stacks.{stacks_of}
use Rattle.sk_run.proofs.stacks.fill.Given as goal

abbrev pub invariant-loop-alloc : goal.invariant-loop-alloc
invariant-loop-alloc l = record {
  same : stacks_of l.stacks.items ≡ stacks_of l.initial.stacks.items;
  room : vec_capacity l.stacks ≡ vec_capacity l.initial.stacks;
}

abbrev pub decreases-loop-alloc : goal.decreases-loop-alloc
decreases-loop-alloc l = (l.place + 1) - vec_len l.stacks
