use Rattle.sk_profile.proofs.Clearing.{on_this}
use Rattle.sk_profile.proofs.clash.+on.Goals as goal

pub returns-then-condition-index : goal.returns-then-condition-index
returns-then-condition-index t c = record {
  same = λ n. on_this c.args.index c.args.conditions.now c.in-Some.rest.now c.in-Some.condition.now c.in-Some.ensures.cases.0 c.if-condition-index.true c.requires.asked n;
}
