use Rattle.std.proofs.Common.{◌∙◌, ◌<◌, length, ap, arith}
use Rattle.sk_run.specs.Levels.{Stacks, stacked}
use Rattle.sk_run.specs.views.Stacks.{stack_of}
use Rattle.sk_run.proofs.Placing.{written}
use Rattle.sk_run.proofs.stacks.put.Goals as goal

pub returns : goal.returns
returns c =
    let filled = c.fill.new.stacks in
    let within : c.args.place < length filled.items = omega (arith, filled.ok.0, c.fill.ensures.there) in
    record {
      stacks =
          written filled.items c.args.place c.args.levels within
          ∙ ap (λ (all : Stacks). stacked c.args.place (stack_of c.args.levels) all) c.fill.ensures.stacks;
    }
