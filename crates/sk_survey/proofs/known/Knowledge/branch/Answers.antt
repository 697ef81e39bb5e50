use Rattle.std.proofs.Common.{subst, sym}
use Rattle.sk_filter.specs.Meaning.{operand}
use Rattle.sk_survey.specs.Following.{Describes}
use Rattle.sk_survey.proofs.KnownStates.{operand_known, branch_leads}
use Rattle.sk_survey.proofs.known.Knowledge.branch.Goals as goal

pub returns-in-None-clause-leads : goal.returns-in-None-clause-leads
returns-in-None-clause-leads c =
    λ call s within is.
    let insn = c.args.insn.now in
    let right = c.args.operand in
    branch_leads c.args.comparison right insn _ c.args.self.now call s is
    (λ holds. c.known_where_it_holds.ensures.value call s.a (operand right insn s) is.a
    (subst (λ known. Describes known call (operand right insn s)) (sym c.right-right.ensures.operand) (operand_known right insn c.args.self.now call s is)) holds)
