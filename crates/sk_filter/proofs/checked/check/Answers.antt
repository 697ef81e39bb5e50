use Rattle.sk_filter.proofs.FirstFaults.{valid-first_fault, first-first_fault}
use Rattle.sk_filter.proofs.checked.check.Goals as goal

pub returns-in-None-clause-told : goal.returns-in-None-clause-told
returns-in-None-clause-told c =
    rw (← c.deref.ensures.value) (valid-first_fault c.deref.result.now c.in-None.ensures.none)

pub returns-in-Some-clause-told : goal.returns-in-Some-clause-told
returns-in-Some-clause-told c =
    rw (← c.deref.ensures.value) (first-first_fault c.deref.result.now c.in-Some.fault c.in-Some.ensures.first)
