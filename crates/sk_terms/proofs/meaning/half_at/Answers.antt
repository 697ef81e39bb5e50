use Rattle.std.proofs.Common.{◌≡◌, ◌%◌, ◌==◌, not, Some, sym, subst}
use Rattle.sk_insn.specs.Record.{word_of}
use Rattle.sk_terms.specs.Terms.{half_of}
use Rattle.sk_terms.proofs.Halves.{half_there}
use Rattle.sk_terms.proofs.meaning.half_at.Goals as goal

pub returns-clause-half : goal.returns-clause-half
returns-clause-half c =
    λ call.
    let place = c.args.place in
    subst (λ register. word_of call place ≡ Some (half_of (record { register = register; high = not (place % 8 == 0) }) call))
    (sym c.register_at.ensures.register)
    (half_there place c.if-place-ne0.false c.if-place-ge64.false c.if-place-eq4.false call)
