use Rattle.sk_ask.proofs.Expecting.{has_none}
use Rattle.sk_ask.proofs.demands.attached.Goals as goal

pub returns-in_err-chain-clause-none : goal.returns-in_err-chain-clause-none
returns-in_err-chain-clause-none c =
    has_none _ _ c.args.made _ c.from_residual.result c.from_residual.ensures.1 c.requires.expected c.in_err-chain.ensures.unattached
