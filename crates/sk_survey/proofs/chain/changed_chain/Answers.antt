use Rattle.std.proofs.Common.{subst, sym, arith}
use Rattle.sk_filter.specs.Chains.{IsWithinLimit}
use Rattle.sk_survey.proofs.Chains.{cost_with}
use Rattle.sk_survey.proofs.chain.changed_chain.Goals as goal

pub attached-requires : goal.attached-requires
attached-requires c =
    let same = cost_with c.args.change c.args.chain.now in
    let within = c.requires.limited in
    record { limited = subst IsWithinLimit (sym c.in_ok-programs.ensures.programs) (omega (arith, same, within)) }
