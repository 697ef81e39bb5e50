-- What is answered on the image of a program in hexadecimal digits.
use Rattle.std.specs.Prelude.{ℕ, List, codes, Option, Some, None, Result, Ok, Err}
use Rattle.sk_insn.specs.declared.insn.Insn.{Insn}
use Rattle.sk_insn.specs.declared.image.NoImage.{NoImage}
use Rattle.sk_insn.specs.Instructions.{image_instructions}
use Rattle.sk_text.specs.Hexadecimal.{hex_text_bytes}
use Rattle.sk_engines.specs.Output.{Output, refused, line}
use Rattle.sk_engines.specs.Judging.{no_image_text}

-- by its instructions, where it has some
abbrev pub on_instructions : (List Insn → Output) → Result (List Insn) NoImage → Output
on_instructions answer (Ok program) = answer program
on_instructions answer (Err why) = refused (line (no_image_text why))

-- by the bytes that the digits are, where they are some
abbrev pub on_bytes : (List Insn → Output) → Option (List ℕ) → Output
on_bytes answer None = refused (line (codes "skern: not hexadecimal"))
on_bytes answer (Some image) = on_instructions answer (image_instructions image)

-- the input is hexadecimal digits, which spaces and line feeds may part
abbrev pub on_image : (List Insn → Output) → List ℕ → Output
on_image answer digits = on_bytes answer (hex_text_bytes digits)
