use Rattle.std.proofs.Common.{◌∙◌, ap}
use Rattle.sk_world.specs.Sets as set
use Rattle.sk_world.proofs.SignalSets.{contains_is}
use Rattle.sk_world.proofs.signal_set.SigSet.contains.Goals as goal

pub returns : goal.returns
returns c =
    c.contains.ensures tt
    ∙ contains_is c.self.inside.flags.0 c.args.signal c.flag.result.0 c.requires c.flag.ensures.bit
    ∙ ap (λ s. set.contains s c.args.signal) c.self.view_is
