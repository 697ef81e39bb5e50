-- What `ask why` tells.
use Rattle.std.specs.Prelude.{ℕ, ◌≡◌, ◌⊎◌, ◌++◌, false, if◌then◌else◌, List, [], ◌∷◌, codes, Option, Some, None, Ok, Err, ⊤}
use Rattle.std.specs.Fmt.{decimal}
use Rattle.std.specs.List.{zip}
use Rattle.std.specs.Result.{is_ok}
use Rattle.sk_insn.specs.declared.insn.Insn.{Insn}
use Rattle.sk_insn.specs.declared.record.Record.{Record}
use Rattle.sk_engines.specs.Output.{line}
use Rattle.sk_names.specs.declared.architecture.Architecture.{Architecture}
use Rattle.sk_names.specs.Architectures.{text_of}
use Rattle.sk_replay.specs.declared.judged.Judged.{Judged}
use Rattle.sk_replay.specs.declared.judged.Judged.TheVariants.{Verdict, Undecided}
use Rattle.sk_replay.specs.declared.recorded.Recorded.{Recorded}
use Rattle.sk_replay.specs.declared.recorded.Recorded.TheVariants.{NoRecord, Unclear, Of}
use Rattle.sk_replay.specs.Calls.{record_of}
use Rattle.sk_replay.specs.Judging.{judged_of}
use Rattle.sk_replay.specs.Lines.{recorded_of}
use Rattle.sk_replay.specs.Replaying.{logged_name}
use Rattle.sk_replay.specs.CallWords.{call_meant, name_part}
use Rattle.sk_replay.specs.Faults.{Fault, no_call, fault_text, shown_behind}
use Rattle.sk_show.specs.PathText.{TellsWhy}
use Rattle.sk_profile_json.specs.declared.context.Context.{Context}
use Rattle.sk_document.specs.declared.deciding.Decider.{Decider}
use Rattle.sk_document.specs.WhyDocument.{IsWhyDocument}
use Rattle.sk_ask.specs.declared.meant.Meant.{Meant}
use Rattle.sk_ask.specs.declared.meant.Meant.TheVariants.{Whole, Logged}
use Rattle.sk_ask.specs.declared.printing.Printing.{Printing}
use Rattle.sk_ask.specs.declared.printing.Printing.TheVariants.{Text, Document}
use Rattle.sk_ask.specs.declared.trouble.Trouble.{Trouble}
use Rattle.sk_ask.specs.declared.trouble.Trouble.TheVariants.{Refused, Reading, Memory}
use Rattle.sk_ask.specs.Complaints.{of_word}
use Rattle.sk_ask.specs.Deciding.{AreDecided, decision_lines}
use Rattle.sk_ask.specs.Endings.{Ending, answered, refused}
use Rattle.sk_ask.specs.Nearest.{no_call_named}
use Rattle.sk_ask.specs.OtherNames.{bare_name}
use Rattle.sk_ask.specs.Reading.{Read}
use Rattle.sk_ask.specs.Troubles.{IsTrouble}

-- ---- the word before the files

-- a line of the kernel tells the number of a call and not its arguments: kernel/auditsc.c
abbrev pub record_meant : Architecture → Meant → Record
record_meant by (Whole call) = call
record_meant by (Logged call) = record_of by call

-- the line that refuses a word which stands for no call, whose name may be known
abbrev pub other_line : Fault → List ℕ
other_line fault = of_word (codes "why: " ++ fault_text fault) (shown_behind fault)

-- a word names no call. Where the one behind it does, they stand the wrong way round
abbrev pub no_call_line : Architecture → List ℕ → List (List ℕ) → List ℕ
no_call_line by word [] = no_call_named by (name_part word)
no_call_line by word (other ∷ others) =
    if is_ok (call_meant by (bare_name other)) then of_word (codes "why: the call stands before the files: ") other
    else no_call_named by (name_part word)

abbrev pub fault_line : Architecture → List ℕ → List (List ℕ) → Fault → List ℕ
fault_line by word others no_call = no_call_line by word others
fault_line by word others fault = other_line fault

-- a word stands for no call, and the line says so
abbrev pub IsFaultOf : Architecture → List ℕ → List (List ℕ) → Trouble → Type 0
IsFaultOf by word others (Refused line) =
    (fault : Fault) × (call_meant by (bare_name word) ≡ Err fault) × (line.items ≡ fault_line by word others fault)
IsFaultOf by word others (Reading line) = ⊥
IsFaultOf by word others Memory = ⊤

-- a line of the kernel tells of no call of the architecture
abbrev pub unclear_line : Architecture → List ℕ
unclear_line by = of_word (codes "why: the kernel's line has no arch= and syscall= of a call of this architecture: ") (text_of by)

-- a word, or a line of the kernel, stands for no call, and a line says so
abbrev pub IsUnmeant : Architecture → List ℕ → List (List ℕ) → Recorded → Trouble → Type 0
IsUnmeant by word others NoRecord why = IsFaultOf by word others why
IsUnmeant by word others Unclear (Refused line) = line.items ≡ unclear_line by
IsUnmeant by word others Unclear (Reading line) = ⊥
IsUnmeant by word others Unclear Memory = ⊤
IsUnmeant by word others (Of call) why = why ≡ Memory

-- the call that the word stands for
abbrev pub IsMeantBy : Architecture → List ℕ → Recorded → Meant → Type 0
IsMeantBy by word NoRecord (Whole call) = call_meant by (bare_name word) ≡ Ok call
IsMeantBy by word (Of call) meant = meant ≡ Logged call
IsMeantBy by word said meant = ⊥

-- ---- what is told

-- what the kernel did, by its line
abbrev pub logged_in : Meant → Option ℕ
logged_in (Whole call) = None
logged_in (Logged call) = call.logged

abbrev pub logged_line : Option ℕ → List ℕ
logged_line None = []
logged_line (Some value) = codes "logged: " ++ line (logged_name value)

-- a text, or a document, tells the path of the call through the chain, and what decides in the texts that filters are made of
abbrev pub IsWhyPrinted : Printing → Architecture → List (List Insn) → Meant → List (List ℕ × Decider) → List ℕ → Type 0
IsWhyPrinted Text by chain meant decisions text =
    (path : List ℕ) × TellsWhy by chain (record_meant by meant) path × (text ≡ path ++ decision_lines decisions ++ logged_line (logged_in meant))
IsWhyPrinted Document by chain meant decisions text = IsWhyDocument by chain (record_meant by meant) decisions (logged_in meant) text

abbrev pub undecided : Judged → Option ℕ
undecided (Verdict value) = None
undecided (Undecided i) = Some i

-- the argument that the verdict depends on, where the kernel's line does not tell it
abbrev pub hidden_in : Architecture → List (List Insn) → Meant → Option ℕ
hidden_in by chain (Whole call) = None
hidden_in by chain (Logged call) = undecided (judged_of by chain call)

abbrev pub hidden_line : ℕ → List ℕ
hidden_line i =
    of_word (codes "why: the kernel's line does not show the argument that the verdict depends on: write the call with its arguments: ")
    (codes "args[" ++ decimal i ++ codes "]")

-- the answer is one that tells it of files with these names, in which profiles are as they are to hold there
abbrev pub TellsOrHides : Printing → Architecture → Meant → Context → List (List ℕ) → Read → Ending → Option ℕ → Type 0
TellsOrHides printing by meant context names read ending (Some i) = ending ≡ refused (hidden_line i)
TellsOrHides printing by meant context names read ending None =
    (decisions : List (List ℕ × Decider)) × (text : List ℕ) × AreDecided context (record_meant by meant) (zip names read.files) decisions
    × IsWhyPrinted printing by read.chain meant decisions text × (ending ≡ answered read.notes text false)

-- or that the verdict depends on what is not known
abbrev pub TellsWhyOf : Printing → Architecture → Meant → Context → List (List ℕ) → Read → Ending → Type 0
TellsWhyOf printing by meant context names read ending =
    TellsOrHides printing by meant context names read ending (hidden_in by read.chain meant)

-- what is so of the call that the word before others stands for; or it stands for none
abbrev pub OfMeant : Architecture → List ℕ → List (List ℕ) → Ending → (Meant → Type 0) → Type 0
OfMeant by word others ending P =
    ((meant : Meant) × IsMeantBy by word (recorded_of by word) meant × P meant) ⊎ IsTrouble ending (IsUnmeant by word others (recorded_of by word))
