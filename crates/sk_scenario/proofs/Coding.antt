-- What a fault of the assembler is in a scenario.
use Rattle.std.proofs.Common.{◌≡◌, ◌≢◌, refl, List, Option, Result}
use Rattle.sk_scenario.proofs.Common.{Insn, AsmFault, IsAsmFault, TextFault, Names, Open, coded, held, fault_of}
use Rattle.sk_asm.specs.declared.fault.AsmFault.TheVariants as asm

-- the fault that the assembler tells decides
pub coded_by : (known : Option Names) (fault : AsmFault) (given : Result (List Insn) AsmFault) (answer : Result Open TextFault)
    → fault ≢ asm.Memory → IsAsmFault fault given → held known (fault_of fault) ≡ answer → coded known given ≡ answer
unfolding coded
coded_by known (asm.Line n) given answer not_memory h is = rw h is
coded_by known (asm.Label n) given answer not_memory h is = rw h is
coded_by known (asm.Twice n) given answer not_memory h is = rw h is
coded_by known (asm.Far n) given answer not_memory h is = rw h is
coded_by known (asm.Back n) given answer not_memory h is = rw h is
coded_by known (asm.TooLong n) given answer not_memory h is = rw h is
coded_by known asm.Memory given answer not_memory h is = absurd (not_memory refl)
