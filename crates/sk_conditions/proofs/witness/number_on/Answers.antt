use Rattle.std.proofs.Common.{arith}
use Rattle.sk_conditions.proofs.Calls.{meets_numbers, number_within}
use Rattle.sk_conditions.proofs.witness.number_on.Goals as goal

pub returns-clause-nothing : goal.returns-clause-nothing
returns-clause-nothing c =
    λ nothing call within meets.
    c.other_on.ensures.nothing nothing call
    (meets_numbers c.args.path.now c.args.numbers.first c.args.numbers.last c.on_number-from_first.result c.on_number-beyond_last.result call (omega arith)
    c.on_number-from_first.ensures.test c.on_number-beyond_last.ensures.test within meets)

pub returns-clause-met : goal.returns-clause-met
returns-clause-met c =
    λ word is.
    number_within c.args.path.now c.args.numbers.first c.args.numbers.last word c.on_number-from_first.result c.on_number-beyond_last.result (c.other_on.ensures.fits word is)
    c.on_number-from_first.ensures.test c.on_number-beyond_last.ensures.test (c.other_on.ensures.met word is)
