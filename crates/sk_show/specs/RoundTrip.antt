-- The text that is shown assembles to the instructions, whatever they are.
use Rattle.std.specs.Prelude.{◌≤◌, All, List, length}
use Rattle.sk_insn.specs.declared.insn.Insn.{Insn}
use Rattle.sk_asm.specs.Assembly.{AssemblesText}
use Rattle.sk_names.specs.declared.architecture.Architecture.{Architecture}
use Rattle.sk_asm.specs.RoundTrip.{IsInRange}
use Rattle.sk_show.specs.Showing.{show_text}

-- the text stands for the instructions, of which an assembler takes at most 4096, whatever architecture is asked about
abbrev pub ShownAssembles : Type 0
ShownAssembles =
    (by : Architecture) (insns : List Insn) → All IsInRange insns → length insns ≤ 4096 → AssemblesText (show_text by insns) insns
