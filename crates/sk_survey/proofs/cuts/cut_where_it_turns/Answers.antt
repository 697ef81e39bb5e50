use Rattle.std.proofs.lemmas.Result.{on_ok_weaker}
use Rattle.sk_survey.proofs.Turns.{round_cuts, parts_cut}
use Rattle.sk_survey.proofs.cuts.cut_where_it_turns.Goals as goal

pub returns-in-CommonBits-clause-kept : goal.returns-in-CommonBits-clause-kept
returns-in-CommonBits-clause-kept c = on_ok_weaker c.cut_parts.result (λ kept nr has. kept nr (c.in_ok-cut_round.ensures.kept nr has)) c.cut_parts.ensures.kept

pub returns-in-CommonBits-clause-turns : goal.returns-in-CommonBits-clause-turns
returns-in-CommonBits-clause-turns c =
    rw c.in-CommonBits.is (on_ok_weaker c.cut_parts.result (λ parts. parts_cut _ c.args.k c.ranges.k.fits parts) c.cut_parts.ensures.parts)

pub returns-in_default-clause-turns : goal.returns-in_default-clause-turns
returns-in_default-clause-turns c = round_cuts _ c.args.comparison c.args.k c.in_default.not-CommonBits c.in_ok-cut_round.ensures.round
