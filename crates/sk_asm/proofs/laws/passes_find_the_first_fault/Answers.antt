use Rattle.sk_asm.proofs.FirstFaults.{passes_find_the_first, no_fault_where_assembled}
use Rattle.sk_asm.proofs.OneFault.{one_first_fault, one_first_text_fault, first_is_found}
use Rattle.sk_asm.proofs.laws.passes_find_the_first_fault.Goals as goal

pub returns : goal.returns
returns c = record {
  exact = λ number lines fault. (passes_find_the_first number lines fault, first_is_found number lines fault);
  one = λ number lines. one_first_fault number lines;
  one_of_a_text = one_first_text_fault;
  none = λ number lines insns fault. no_fault_where_assembled number lines insns fault;
}
