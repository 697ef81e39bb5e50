use Rattle.sk_filter.proofs.FirstFaults.{first_fault-None, first_fault-Some, valid-first_fault, first-first_fault}
use Rattle.sk_filter.proofs.laws.one_first_fault.Goals as goal

pub returns-clause-valid : goal.returns-clause-valid
returns-clause-valid c = λ insns. (first_fault-None insns, valid-first_fault insns)

pub returns-clause-first : goal.returns-clause-first
returns-clause-first c = λ insns fault. (first_fault-Some insns fault, first-first_fault insns fault)
