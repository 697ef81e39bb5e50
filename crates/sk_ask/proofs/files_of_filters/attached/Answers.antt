use Rattle.sk_ask.proofs.files_of_filters.attached.Goals as goal

pub returns-in-Err-clause-given : goal.returns-in-Err-clause-given
returns-in-Err-clause-given c = λ count placed.
    let given = c.in_ok-chain.ensures.given count placed in
    rw c.in-Err.is at given
