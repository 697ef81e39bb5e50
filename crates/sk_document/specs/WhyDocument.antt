-- What `ask why` tells, as a document.
use Rattle.std.specs.Prelude.{ℕ, ◌≡◌, ◌++◌, List, [], ◌∷◌, codes, flat_map, length, Option}
use Rattle.std.specs.List.{join_with_byte}
use Rattle.json.specs.Token.{Token}
use Rattle.sk_arguments.specs.declared.naming.Naming.TheVariants.{Constants}
use Rattle.sk_insn.specs.declared.insn.Insn.{Insn}
use Rattle.sk_insn.specs.declared.record.Record.{Record}
use Rattle.sk_asm.specs.Listing.{words_for}
use Rattle.sk_filter.specs.Meaning.{meaning_of}
use Rattle.sk_filter.specs.Verdict.{meaning_value, verdict_of}
use Rattle.sk_names.specs.declared.architecture.Architecture.{Architecture}
use Rattle.sk_show.specs.declared.tracing.Registers.{Registers}
use Rattle.sk_show.specs.declared.tracing.Step.{Step}
use Rattle.sk_show.specs.Paths.{path_of}
use Rattle.sk_show.specs.PathText.{IsSource}
use Rattle.sk_when.specs.Naming.{names_of}
use Rattle.sk_document.specs.Documents.{array, at, counted, document, maybe, number_at, object, string_at, word_at}
use Rattle.sk_document.specs.Verdicts.{verdict}
use Rattle.sk_document.specs.Numbers.{architecture_at}
use Rattle.sk_document.specs.Calls.{call}
use Rattle.sk_document.specs.declared.deciding.Decider.{Decider}
use Rattle.sk_document.specs.Deciding.{decisions_at}
use Rattle.sk_document.specs.ReplayDocument.{logged_at}

-- the words of an instruction, and its four numbers
unfoldable pub insn_at : Insn → List Token
insn_at it =
    string_at (codes "text") (join_with_byte 32 (words_for it))
    ++ (number_at (codes "code") it.code
    ++ (number_at (codes "jt") it.jt ++ (number_at (codes "jf") it.jf ++ number_at (codes "k") it.k)))

-- what A and X hold
unfoldable pub held_at : Registers → List Token
held_at it = number_at (codes "a") it.a ++ number_at (codes "x") it.x

-- the place that an instruction led to, if it did not end the filter
unfoldable pub next_at : Option ℕ → List Token
next_at next = at (codes "next") ++ maybe counted next

-- an instruction that was executed, with what the registers hold behind it
unfoldable pub path_step : Step → List Token
path_step it = object (number_at (codes "instruction") it.place ++ (insn_at it.insn ++ (held_at it.behind ++ next_at it.next)))

-- the steps of a path in their order
unfoldable pub steps_at : List Step → List Token
steps_at steps = at (codes "steps") ++ array (flat_map path_step steps)

-- the path through the filter with this number, and its value
unfoldable pub filter_path : ℕ → List Insn → Record → List Token
filter_path number insns call =
    object (number_at (codes "filter") number
    ++ (steps_at (path_of insns call) ++ (at (codes "verdict") ++ verdict (meaning_value (meaning_of insns call)))))

-- the paths from the newest filter to the oldest, whose number is 0
abbrev pub filter_paths : List (List Insn) → Record → List Token
filter_paths [] call = []
filter_paths (newest ∷ older) call = filter_path (length older) newest call ++ filter_paths older call

-- the paths as a member
unfoldable pub filters_at : List (List Insn) → Record → List Token
filters_at programs call = at (codes "filters") ++ array (filter_paths programs call)

-- a filter, and the place in it that a verdict comes from
unfoldable pub found_in : ℕ × ℕ → List Token
found_in it = object (number_at (codes "filter") it.0 ++ number_at (codes "instruction") it.1)

-- the verdict, and where it comes from
unfoldable pub end_at : ℕ → Option (ℕ × ℕ) → List Token
end_at value source = at (codes "verdict") ++ (verdict value ++ (at (codes "source") ++ maybe found_in source))

-- with what decides in the texts that filters are made of, and the action that a line of the kernel tells
unfoldable pub outcome_at : ℕ → Option (ℕ × ℕ) → List (List ℕ × Decider) → Option ℕ → List Token
outcome_at value source decisions logged = end_at value source ++ (decisions_at decisions ++ logged_at logged)

-- the call, with the constants of its arguments
unfoldable pub asked_at : Architecture → Record → List Token
asked_at by it = at (codes "call") ++ call (names_of Constants by) it

-- the path of a call of an architecture through filters, where the verdict comes from, what decides in the texts that filters are made of, and
-- what the kernel did with the call, where its line stands for it
unfoldable pub why_tokens : Architecture → List (List Insn) → Record → Option (ℕ × ℕ) → List (List ℕ × Decider) → Option ℕ → List Token
why_tokens by programs call source decisions logged =
    object (word_at (codes "why")
    ++ (architecture_at by
    ++ (asked_at by call ++ (filters_at programs call ++ outcome_at (verdict_of programs call) source decisions logged))))

-- the text of that
abbrev pub why_document : Architecture → List (List Insn) → Record → Option (ℕ × ℕ) → List (List ℕ × Decider) → Option ℕ → List ℕ
why_document by programs call source decisions logged = document (why_tokens by programs call source decisions logged)

-- the document of a chain and a call, whose source is the one of its text
abbrev pub IsWhyDocument : Architecture → List (List Insn) → Record → List (List ℕ × Decider) → Option ℕ → List ℕ → Type 0
IsWhyDocument by programs call decisions logged text =
    (source : Option (ℕ × ℕ)) × IsSource programs call (verdict_of programs call) source × (text ≡ why_document by programs call source decisions logged)
