use Rattle.std.proofs.Common.{true≢false, sym, ◌∙◌}
use Rattle.sk_conditions.proofs.Calls.{other_architecture}
use Rattle.sk_conditions.proofs.witness.architecture_on.Goals as goal

pub returns-else-is_met_by-clause-nothing : goal.returns-else-is_met_by-clause-nothing
returns-else-is_met_by-clause-nothing c =
    λ nothing call native meets. other_architecture c.args.path.now (λ met. true≢false (sym (c.is_met_by.ensures.met.1 met) ∙ c.if-is_met_by.false)) call native meets
