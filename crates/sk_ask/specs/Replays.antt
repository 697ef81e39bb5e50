-- What `ask replay` tells.
use Rattle.std.specs.Prelude.{ℕ, ◌⊎◌, ◌==◌, ◌++◌, if◌then◌else◌, List, codes, flat_map}
use Rattle.std.specs.Fmt.{decimal}
use Rattle.sk_insn.specs.declared.insn.Insn.{Insn}
use Rattle.sk_names.specs.declared.architecture.Architecture.{Architecture}
use Rattle.sk_text.specs.Lines.{lines_of}
use Rattle.sk_replay.specs.Replaying.{replay_text, replay_denies, distinct_calls, events_in, rows_of, unclear_in, unclear_lines}
use Rattle.sk_document.specs.ReplayDocument.{replay_document}
use Rattle.sk_ask.specs.declared.printing.Printing.{Printing}
use Rattle.sk_ask.specs.declared.printing.Printing.TheVariants.{Text, Document}
use Rattle.sk_ask.specs.Complaints.{about}
use Rattle.sk_ask.specs.Shelves.{Held, IsContent, IsUnread}
use Rattle.sk_ask.specs.Endings.{Ending, answered, refused}
use Rattle.sk_ask.specs.Troubles.{IsTrouble}

-- what is said of a log without a call
abbrev pub no_call_text : List ℕ
no_call_text = codes "holds no call: expected lines as strace -f writes them, or the kernel's with type=1326"

-- what is told of the line with this number, which is not understood
abbrev pub unclear_note : List ℕ → ℕ → List ℕ
unclear_note name number = about name (codes "line " ++ (decimal number ++ codes " is not understood"))

abbrev pub unclear_notes : List ℕ → List ℕ → List ℕ
unclear_notes name numbers = flat_map (unclear_note name) numbers

-- the verdicts on the calls of a log as a text, or as a document
abbrev pub replay_printed : Printing → Architecture → List ℕ → List (List Insn) → List ℕ
replay_printed Text by log chain = replay_text by log chain
replay_printed Document by log chain =
    replay_document by (rows_of by chain (lines_of log)) (events_in by (lines_of log)) (unclear_in by (lines_of log))

-- the verdicts of the chain on the calls of the log with this name, which are of an architecture: no where one of them is not performed, or a line is not
-- understood, of which the first are notes; and no answer where there is no call
abbrev pub replayed : Printing → Architecture → List ℕ → List ℕ → List (List Insn) → List ℕ → Ending
replayed printing by name log chain notes =
    if distinct_calls by log == 0 then refused (about name no_call_text)
    else answered (notes ++ unclear_notes name (unclear_lines by (lines_of log))) (replay_printed printing by log chain) (replay_denies by log chain)

-- what is so of the log in the file with this name, of at most 268435456 bytes; or it is not read
abbrev pub OfLog : (List ℕ → Held) → List ℕ → Ending → (List ℕ → Type 0) → Type 0
OfLog held name ending P =
    ((log : List ℕ) × IsContent 268435456 (held name) log × P log) ⊎ IsTrouble ending (IsUnread 268435456 (held name) name)
