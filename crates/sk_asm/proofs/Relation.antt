-- From the passes' answer to the relation.
use Rattle.std.proofs.Common.{◌≡◌, refl, ℕ, List, Result, Ok, Err, IfOk, length, inl, inr}
use Rattle.std.proofs.lemmas.Bool.{cases_lt, lt-ltb, le-ltb}
use Rattle.sk_text.specs.Lines.{lines_of}
use Rattle.sk_insn.specs.declared.insn.Insn.{Insn}
use Rattle.sk_asm.specs.declared.fault.AsmFault.{AsmFault}
use Rattle.sk_asm.specs.declared.fault.AsmFault.TheVariants.{Line, Label, Twice, Far, Back, TooLong, Memory}
use Rattle.sk_asm.specs.Faults.{Answers}
use Rattle.sk_asm.specs.Passes.{assembled, assembled_lines}
use Rattle.sk_asm.specs.Assembly.{Assembles, AssemblesText, Finds}
use Rattle.sk_asm.proofs.Meaning.{assembled_lines-stands, assembled_lines-only}

-- what an answer's value is, if the given one is
IfOk-answers : {T : Type 0} (view : T → List Insn) (P : List Insn → Type 0) (answer : Result T AsmFault) (given : Result (List Insn) AsmFault)
    → Answers view answer given → ((insns : List Insn) → given ≡ Ok insns → P insns) → IfOk answer (λ value. P (view value))
IfOk-answers view P (Ok value) given h holds = holds (view value) h
IfOk-answers view P (Err fault) given h holds = tt

Finds-answers : {T : Type 0} (view : T → List Insn) (insns : List Insn) (answer : Result T AsmFault) (given : Result (List Insn) AsmFault)
    → Answers view answer given → given ≡ Ok insns → Finds view answer insns
Finds-answers view insns (Ok value) given h e = cc
Finds-answers view insns (Err (Line n)) given h e = cc
Finds-answers view insns (Err (Label n)) given h e = cc
Finds-answers view insns (Err (Twice n)) given h e = cc
Finds-answers view insns (Err (Far n)) given h e = cc
Finds-answers view insns (Err (Back n)) given h e = cc
Finds-answers view insns (Err (TooLong n)) given h e = cc
Finds-answers view insns (Err Memory) given h e = refl

module _ {T : Type 0} (view : T → List Insn) (answer : Result T AsmFault) where
  -- lines of which n is the first
  pub lines-stand : (n : ℕ) (lines : List (List ℕ)) → Answers view answer (assembled_lines n lines) → IfOk answer (λ value. Assembles lines (view value))
  lines-stand n lines h = IfOk-answers view (Assembles lines) answer (assembled_lines n lines) h (assembled_lines-stands n lines)

  pub lines-only : (n : ℕ) (lines : List (List ℕ)) (insns : List Insn) → Answers view answer (assembled_lines n lines) → Assembles lines insns → Finds view answer insns
  lines-only n lines insns h a = Finds-answers view insns answer (assembled_lines n lines) h (assembled_lines-only n lines insns a)

-- a text, which has a limit
pub assembled-stands : (text : List ℕ) (insns : List Insn) → assembled text ≡ Ok insns → AssemblesText text insns
unfolding assembled
assembled-stands text insns h = elim (cases_lt 1048576 (length text)) [
  | inl long ↦ let t = lt-ltb 1048576 (length text) long in let e = rw t at h in cc
  | inr short ↦ let f = le-ltb 1048576 (length text) short in (short, assembled_lines-stands 1 (lines_of text) insns (rw f at h))
]

pub assembled-only : (text : List ℕ) (insns : List Insn) → AssemblesText text insns → assembled text ≡ Ok insns
unfolding assembled
assembled-only text insns h = let f = le-ltb 1048576 (length text) h.0 in rw f (assembled_lines-only 1 (lines_of text) insns h.1)

module _ {T : Type 0} (view : T → List Insn) (answer : Result T AsmFault) where
  pub text-stands : (text : List ℕ) → Answers view answer (assembled text) → IfOk answer (λ value. AssemblesText text (view value))
  text-stands text h = IfOk-answers view (AssemblesText text) answer (assembled text) h (assembled-stands text)

  pub text-only : (text : List ℕ) (insns : List Insn) → Answers view answer (assembled text) → AssemblesText text insns → Finds view answer insns
  text-only text insns h a = Finds-answers view insns answer (assembled text) h (assembled-only text insns a)
