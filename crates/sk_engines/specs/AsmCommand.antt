-- What `skern asm` answers.
use Rattle.std.specs.Prelude.{ℕ, List, [], codes, flat_map, Result, Ok, Err}
use Rattle.hex.specs.Hex.{encode_lower}
use Rattle.sk_insn.specs.declared.insn.Insn.{Insn}
use Rattle.sk_insn.specs.Instructions.{instruction_bytes}
use Rattle.sk_asm.specs.declared.fault.AsmFault.{AsmFault}
use Rattle.sk_asm.specs.declared.fault.AsmFault.TheVariants.{Line, Label, Twice, Far, Back, TooLong, Memory}
use Rattle.sk_asm.specs.LineFaults.{line_of}
use Rattle.sk_asm.specs.Passes.{assembled}
use Rattle.sk_engines.specs.Output.{Output, done, line, at_line, within_limit}

-- an instruction in 16 digits, a line of its own
abbrev pub digits_line : Insn → List ℕ
digits_line insn = line (encode_lower (instruction_bytes insn))

-- what is wrong with a line, by its fault; no text has that of wanting memory
abbrev pub fault_text : AsmFault → List ℕ
fault_text (Line n) = codes "not understood"
fault_text (Label n) = codes "no such name"
fault_text (Twice n) = codes "name given twice"
fault_text (Far n) = codes "jump too far"
fault_text (Back n) = codes "jump backwards"
fault_text (TooLong n) = codes "over the limit"
fault_text Memory = []

-- the answer on what a text was assembled to
abbrev pub assembled_answer : Result (List Insn) AsmFault → Output
assembled_answer (Ok insns) = done (flat_map digits_line insns)
assembled_answer (Err fault) = at_line (line_of fault) (fault_text fault)

abbrev pub asm_answer : List ℕ → Output
asm_answer input = within_limit (λ text. assembled_answer (assembled text)) input
