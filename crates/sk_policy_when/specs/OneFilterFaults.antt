-- Why no filter is made of a policy, as a fault of what is made of a chain.
use Rattle.sk_policy.specs.declared.fault.CodeFault.{CodeFault}
use Rattle.sk_policy.specs.declared.fault.CodeFault.TheVariants as code
use Rattle.sk_policy_when.specs.declared.smaller.OneFilterFault.{OneFilterFault}
use Rattle.sk_policy_when.specs.declared.smaller.OneFilterFault.TheVariants as fault

abbrev pub fault_of : CodeFault → OneFilterFault
fault_of code.TooLong = fault.TooLong
fault_of code.Memory = fault.Memory
