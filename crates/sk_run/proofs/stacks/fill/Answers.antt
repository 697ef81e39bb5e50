use Rattle.std.proofs.Common.{◌∙◌, ap}
use Rattle.sk_run.specs.views.Stacks.{stacks_of}
use Rattle.sk_run.proofs.Placing.{more_places}
use Rattle.sk_run.proofs.stacks.fill.Goals as goal

pub loop-alloc-preserved : goal.loop-alloc-preserved
loop-alloc-preserved c = record {
  same =
      ap stacks_of c.push_reserved.ensures.items
      ∙ more_places c.loop-alloc.stacks.items c.at_program.result c.at_program.ensures.stack
      ∙ c.loop-alloc.invariant.same;
  room = c.push_reserved.ensures.capacity ∙ c.loop-alloc.invariant.room;
}
