-- What `skern list` answers.
use Rattle.std.specs.Prelude.{ℕ, List}
use Rattle.sk_insn.specs.declared.insn.Insn.{Insn}
use Rattle.sk_asm.specs.Listing.{listing_of}
use Rattle.sk_engines.specs.Output.{Output, done, within_limit}
use Rattle.sk_engines.specs.OnImage.{on_image}

abbrev pub listed_answer : List Insn → Output
listed_answer insns = done (listing_of insns)

-- the input is that of `skern check`
abbrev pub list_answer : List ℕ → Output
list_answer input = within_limit (on_image listed_answer) input
