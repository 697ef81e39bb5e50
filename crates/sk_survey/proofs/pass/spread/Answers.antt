use Rattle.sk_survey.proofs.KnownStates.{either_spreads}
use Rattle.sk_survey.proofs.pass.spread.Goals as goal

pub returns-in-Either-clause-spread : goal.returns-in-Either-clause-spread
returns-in-Either-clause-spread c =
    either_spreads c.args.next c.in-Either.a c.args.insn.now c.args.knowledge.now c.args.place _ _ c.in-Either.is
    c.join_at-in-Either.ensures.joined c.join_where_it_holds.ensures.kept c.join_where_it_holds.ensures.joined
