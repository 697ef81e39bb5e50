-- The verdict on a call of a log, where it is the same whatever the arguments are that the log does not show. The places are
-- those of `struct seccomp_data`: seccomp(2).
use Rattle.std.specs.Prelude.{ℕ, ◌≡◌, ◌+◌, ◌/◌, ◌%◌, ◌<◌, ◌==◌, ◌&&◌, Bool, false, List, [], ◌∷◌, find, flat_map, Option, Some, None}
use Rattle.std.specs.List.{list_any}
use Rattle.sk_insn.specs.declared.insn.Insn.{Insn}
use Rattle.sk_insn.specs.declared.record.Record.{Record}
use Rattle.sk_insn.specs.declared.operation.Operation.{Operation}
use Rattle.sk_insn.specs.declared.operation.Operation.TheVariants.{LoadRecord}
use Rattle.sk_insn.specs.Operations.{operation_of}
use Rattle.sk_insn.specs.Record.{word_of}
use Rattle.sk_filter.specs.Chains.{AllValid}
use Rattle.sk_filter.specs.Verdict.{verdict_of}
use Rattle.sk_show.specs.declared.tracing.Step.{Step}
use Rattle.sk_show.specs.Paths.{path_of}
use Rattle.sk_names.specs.declared.architecture.Architecture.{Architecture}
use Rattle.sk_replay.specs.declared.call.Call.{Call}
use Rattle.sk_replay.specs.declared.judged.Judged.{Judged}
use Rattle.sk_replay.specs.declared.judged.Judged.TheVariants.{Verdict, Undecided}
use Rattle.sk_replay.specs.Calls.{is_hidden, record_of}

-- ---- what a run reads

-- the place of the word of the record that an instruction loads, if it loads one
abbrev pub word_loaded : Option Operation → Insn → List ℕ
word_loaded (Some LoadRecord) insn = insn.k ∷ []
word_loaded operation insn = []

-- those of the words that the steps of a path load
abbrev pub words_on : List Step → List ℕ
words_on path = flat_map (λ step. word_loaded (operation_of step.insn.code) step.insn) path

-- and those of the paths of a call through all filters
abbrev pub words_read : List (List Insn) → Record → List ℕ
words_read chain call = flat_map (λ insns. words_on (path_of insns call)) chain

-- ---- the verdict

-- the word at a place is a half of this argument, the first of which stands at 16
abbrev pub is_of : ℕ → ℕ → Bool
is_of i place = place / 8 == i + 2

-- the arguments of a call, from 0 on
abbrev pub places : List ℕ
places = 0 ∷ 1 ∷ 2 ∷ 3 ∷ 4 ∷ 5 ∷ []

-- the first that the log does not show, and of which one of the words is
abbrev pub undecided_by : Call → List ℕ → Option ℕ
undecided_by call words = find (λ i. is_hidden call i && list_any (is_of i) words) places

abbrev pub judged_as : Option ℕ → ℕ → Judged
judged_as None value = Verdict value
judged_as (Some i) value = Undecided i

-- the verdict on the call with 0 for what is not known, where the filters read none of that
abbrev pub judged_of : Architecture → List (List Insn) → Call → Judged
judged_of by chain call =
    judged_as (undecided_by call (words_read chain (record_of by call))) (verdict_of chain (record_of by call))

-- ---- the law

-- the word at a place is one that the log does not show
abbrev pub hides : Call → ℕ → Bool
hides call place = list_any (λ i. is_hidden call i && is_of i place) places

-- a call that the log may mean: it has each word that the log shows
abbrev pub IsMeant : Architecture → Call → Record → Type 0
IsMeant by call meant =
    (place : ℕ) → place % 4 ≡ 0 → place < 64 → hides call place ≡ false → word_of meant place ≡ word_of (record_of by call) place

-- a verdict that is told is that of every call that the log may mean
abbrev pub VerdictsAreOfAll : Type 0
VerdictsAreOfAll =
    (by : Architecture) (chain : List (List Insn)) → AllValid chain → (call : Call) (value : ℕ) → judged_of by chain call ≡ Verdict value
    → (meant : Record) → IsMeant by call meant → verdict_of chain meant ≡ value
