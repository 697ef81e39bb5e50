-- What of logs is judged: all, or with `--since-seccomp` the calls that are made under a filter.
use Rattle.std.specs.Prelude.{ℕ, ◌≡◌, ◌⊎◌, Bool, true, false, List, [], ◌∷◌, codes, Some, None, ⊤}
use Rattle.sk_text.specs.Lines.{lines_of}
use Rattle.sk_names.specs.declared.architecture.Architecture.{Architecture}
use Rattle.sk_replay.specs.Since.{since_attached}
use Rattle.sk_ask.specs.declared.trouble.Trouble.{Trouble}
use Rattle.sk_ask.specs.declared.trouble.Trouble.TheVariants.{Refused, Reading, Memory}
use Rattle.sk_ask.specs.Complaints.{about}
use Rattle.sk_ask.specs.Endings.{Ending}
use Rattle.sk_ask.specs.Troubles.{IsTrouble}

-- ---- one log

-- this is judged of a log: its lines from under a filter, or all that it has
abbrev pub IsJudged : Bool → Architecture → List ℕ → List ℕ → Type 0
IsJudged true by log text = since_attached by (lines_of log) ≡ Some (lines_of text)
IsJudged false by log text = text ≡ log

-- what is said of a log in which no line attaches a filter
abbrev pub no_filter_text : List ℕ
no_filter_text = codes "holds no call that attaches a filter: expected seccomp or prctl in lines as strace -f writes them"

-- nothing of the log with this name is judged, and the line says why
abbrev pub IsUnjudged : Bool → Architecture → List ℕ → List ℕ → Trouble → Type 0
IsUnjudged since by name log (Refused line) =
    (since ≡ true) × (since_attached by (lines_of log) ≡ None) × (line.items ≡ about name no_filter_text)
IsUnjudged since by name log (Reading line) = ⊥
IsUnjudged since by name log Memory = ⊤

-- what is so of that; or nothing is judged
abbrev pub OfJudged : Bool → Architecture → List ℕ → List ℕ → Ending → (List ℕ → Type 0) → Type 0
OfJudged since by name log ending P =
    ((text : List ℕ) × IsJudged since by log text × P text) ⊎ IsTrouble ending (IsUnjudged since by name log)

-- ---- several, one for one

abbrev pub AreJudged : Bool → Architecture → List (List ℕ) → List (List ℕ) → Type 0
AreJudged since by [] [] = ⊤
AreJudged since by (log ∷ logs) (text ∷ texts) = IsJudged since by log text × AreJudged since by logs texts
AreJudged since by logs texts = ⊥

-- the first of the logs with these names of which nothing is judged; those before it are
abbrev pub IsUnjudgedOf : Bool → Architecture → List (List ℕ) → List (List ℕ) → Trouble → Type 0
IsUnjudgedOf since by (name ∷ names) (log ∷ logs) why =
    IsUnjudged since by name log why ⊎ ((text : List ℕ) × IsJudged since by log text × IsUnjudgedOf since by names logs why)
IsUnjudgedOf since by names logs why = ⊥

abbrev pub OfAllJudged : Bool → Architecture → List (List ℕ) → List (List ℕ) → Ending → (List (List ℕ) → Type 0) → Type 0
OfAllJudged since by names logs ending P =
    ((texts : List (List ℕ)) × AreJudged since by logs texts × P texts) ⊎ IsTrouble ending (IsUnjudgedOf since by names logs)
