use Rattle.std.proofs.Common.{◌≡◌, ◌∙◌, ◌<◌, length, ap, arith}
use Rattle.sk_run.specs.Levels.{stacked}
use Rattle.sk_run.specs.views.Stacks.{stack_of, stacks_of}
use Rattle.sk_run.proofs.Placing.{levels_there, written}
use Rattle.sk_run.proofs.stacks.call_at.Goals as goal

pub returns-clause-stacks : goal.returns-clause-stacks
returns-clause-stacks c line is =
    let old = c.args.stacks.now in
    let before : stack_of c.index_mut.result.now ≡ stacks_of old.items c.args.pid =
    levels_there old.items old.len c.args.pid c.index_mut.result.now old.ok.0 c.requires.there c.index_mut.ensures.value
    in
    let within : c.args.pid < length old.items = omega (arith, old.ok.0, c.requires.there) in
    written old.items c.args.pid c.call.new.self within ∙ ap (λ s. stacked c.args.pid s (stacks_of old.items)) (rw before at (c.call.ensures.stack line is))
