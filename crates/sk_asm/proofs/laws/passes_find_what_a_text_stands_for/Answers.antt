use Rattle.std.proofs.Common.{◌≡◌, List, Result, Ok}
use Rattle.sk_insn.specs.declared.insn.Insn.{Insn}
use Rattle.sk_asm.specs.declared.fault.AsmFault.{AsmFault}
use Rattle.sk_asm.proofs.Relation.{assembled-stands, assembled-only}
use Rattle.sk_asm.proofs.laws.passes_find_what_a_text_stands_for.Goals as goal

same_list : (result : Result (List Insn) AsmFault) (insns others : List Insn) → result ≡ Ok insns → result ≡ Ok others → insns ≡ others
same_list result insns others e h = cc

pub returns : goal.returns
returns c = record {
  exact = λ text insns. (assembled-stands text insns, assembled-only text insns);
  one = λ text insns others h g. same_list _ insns others (assembled-only text insns h) (assembled-only text others g);
}
