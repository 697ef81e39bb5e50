-- What the program comes to, and what it leaves behind: answers go to standard output, and all else to standard error.
use Rattle.std.specs.Prelude.{ℕ, ◌≡◌, ◌⊎◌, Bool, true, false, Option, Result, Ok, Err, List, [], codes, ⊤}
use Rattle.std.specs.Io.KnownBytes.{Appends}
use Rattle.sk_text.specs.Failures.{one_more}
use Rattle.sk_text.specs.Writing.{AppendsBeginning}
use Rattle.sk_ask.specs.declared.trouble.Trouble.{Trouble}
use Rattle.sk_ask.specs.declared.trouble.Trouble.TheVariants.{Refused, Reading, Memory}
use Rattle.sk_ask.specs.declared.answer.Answer.{Answer}

-- the lines of what is told beside an answer, the answer, and whether it says no; or words or files that are refused, a read
-- that failed, or refused memory
pub data Ending : Type 0 where
  answered : List ℕ → List ℕ → Bool → Ending
  refused : List ℕ → Ending
  unread : List ℕ → Ending
  no_memory : Ending

abbrev pub ending_of : Result Answer Trouble → Ending
ending_of (Ok answer) = answered answer.notes.items answer.text.items answer.denies
ending_of (Err (Refused line)) = refused line.items
ending_of (Err (Reading line)) = unread line.items
ending_of (Err Memory) = no_memory

-- the ending that is wanted; memory may be refused before it is come to
abbrev pub ComesTo : Ending → Ending → Type 0
ComesTo wanted no_memory = ⊤
ComesTo wanted ending = ending ≡ wanted

-- it ends so, or memory is refused before
abbrev pub MayEnd : (Ending → Type 0) → Ending → Type 0
MayEnd P ending = P ending ⊎ (ending ≡ no_memory)

-- ---- the reads

-- the count of failed reads is one more where a read is told to have failed, and else it stays
abbrev pub CountsFailedReads : Ending → ℕ → ℕ → Type 0
CountsFailedReads (unread line) old new = new ≡ one_more old
CountsFailedReads ending old new = new ≡ old

-- ---- the writes

-- what a writer held and how many of its writes had failed, before and after
pub record Written : Type 0 where
  pub held : Option (List ℕ)
  pub failed : ℕ

abbrev pub written : Option (List ℕ) → ℕ → Written
written held failed = record { held = held; failed = failed }

-- the text went out, and no write failed
abbrev pub Puts : List ℕ → Written → Written → Type 0
Puts text old new = Appends old.held new.held text × (new.failed ≡ old.failed)

-- a write failed, which was counted, behind a beginning of the text
abbrev pub Loses : List ℕ → Written → Written → Type 0
Loses text old new = AppendsBeginning old.held new.held text × (new.failed ≡ one_more old.failed)

-- nothing was written
abbrev pub IsUnwritten : Written → Written → Type 0
IsUnwritten old new = (new.held ≡ old.held) × (new.failed ≡ old.failed)

-- a line was written, as far as that went, and the status is that of trouble
abbrev pub Complains : List ℕ → ℕ → Written → Written → Type 0
Complains line status old new = (status ≡ 2) × (Puts line old new ⊎ Loses line old new)

-- as diff(1) and grep(1) have it: 0 yes, 1 no
abbrev pub status_of : Bool → ℕ
status_of false = 0
status_of true = 1

-- the lines of what is told were written, as far as that went; without any, nothing was
abbrev pub Notes : List ℕ → Written → Written → Type 0
Notes [] old new = IsUnwritten old new
Notes notes old new = Puts notes old new ⊎ Loses notes old new

-- what is told beside an answer is written, and then the text of the answer is out, with its status, and nothing else; or a
-- write of that failed, which is told
abbrev pub Answers : List ℕ → List ℕ → Bool → ℕ → Written → Written → Written → Written → Type 0
Answers notes text denies status out out_new err err_new =
    (told : Written) × Notes notes err told
    × (((status ≡ status_of denies) × Puts text out out_new × IsUnwritten told err_new)
    ⊎ (Loses text out out_new × Complains (codes "ask: writing failed\n") status told err_new))

-- why the words of the program are not there
abbrev pub wordless_line : Bool → List ℕ
wordless_line true = codes "ask: out of memory\n"
wordless_line false = codes "ask: a word is not UTF-8\n"

-- trouble leaves no answer
abbrev pub Leaves : Ending → ℕ → Written → Written → Written → Written → Type 0
Leaves (answered notes text denies) status out out_new err err_new = Answers notes text denies status out out_new err err_new
Leaves (refused line) status out out_new err err_new = IsUnwritten out out_new × Complains line status err err_new
Leaves (unread line) status out out_new err err_new = IsUnwritten out out_new × Complains line status err err_new
Leaves no_memory status out out_new err err_new =
    IsUnwritten out out_new × Complains (codes "ask: out of memory\n") status err err_new
