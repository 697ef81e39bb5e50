use Rattle.std.proofs.Common.{◌*◌, arith}
use Rattle.sk_conditions.proofs.Calls.{no_call, sought_nothing}
use Rattle.sk_conditions.proofs.witness.other_on.Goals as goal

pub returns-clause-nothing : goal.returns-clause-nothing
returns-clause-nothing c =
    λ nothing call meets.
    no_call c.args.path.now (4 * c.args.index) (let inside = c.requires.inside in omega (arith, inside))
    (sought_nothing _ _ _ _ nothing c.word_at.ensures.sought) call meets
