-- What the code's answers say of an image that was read.
use Rattle.std.specs.Prelude.{◌≡◌, List, Vec, Result, Ok, Err}
use Rattle.std.specs.Global.{Global}
use Rattle.sk_insn.specs.declared.insn.Insn.{Insn}
use Rattle.sk_engines.specs.Output.{Output}
use Rattle.sk_engines.specs.declared.reply.Reply.{Reply}
use Rattle.sk_engines.specs.Reply.{output_of}

-- what is answered on its instructions is answered on the image, or this refusal
abbrev pub ReadsImage : (List Insn → Output) → Result (Vec Insn Global) Reply → Output → Type 0
ReadsImage answer (Ok insns) given = given ≡ answer insns.items
ReadsImage answer (Err reply) given = given ≡ output_of reply
