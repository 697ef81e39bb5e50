-- What the code's answers say.
use Rattle.std.specs.Prelude.{◌≡◌, List, [], ◌∷◌, map, Vec, Option, Some, None, Result, Ok, Err}
use Rattle.std.specs.Borrow.{Bor}
use Rattle.sk_policy_text.specs.declared.word.Word.{Word as CodeWord}
use Rattle.sk_policy_text.specs.declared.sentence.ReadFault.{ReadFault}
use Rattle.sk_policy_text.specs.declared.sentence.ReadFault.TheVariants.{Sentence as Failed, Memory}
use Rattle.sk_policy_text.specs.declared.sentence.Sentence.{Sentence}
use Rattle.sk_policy_text.specs.declared.sentence.Sentence.TheVariants as code
use Rattle.sk_policy_text.specs.declared.sentence.SentenceFault.{SentenceFault}
use Rattle.sk_policy_text.specs.declared.sentence.Range.{Range}
use Rattle.sk_policy_text.specs.declared.stop.Stop.{Stop}
use Rattle.sk_policy_text.specs.Words.{Word, seen}
use Rattle.sk_policy_text.specs.Sentences.{Said, Arch, Default, Others, Row, Case, Else, behind_commas}

abbrev pub all_seen : List CodeWord → List Word
all_seen words = map seen words

-- the words that are left
abbrev pub left : Result (Bor (List CodeWord)) Stop → Result (List Word) Stop
left (Ok words) = Ok (all_seen words.now)
left (Err stop) = Err stop

-- a value, and the words that are left behind it
abbrev pub with_left : {X : Type 0} → Result (X × Bor (List CodeWord)) Stop → Result (X × List Word) Stop
with_left (Ok read) = Ok (read.0, all_seen read.1.now)
with_left (Err stop) = Err stop

-- the ranges of items
abbrev pub ranges_read : {A : Type 0} → Result (Vec Range A) Stop → Result (List Range) Stop
ranges_read (Ok ranges) = Ok ranges.items
ranges_read (Err stop) = Err stop

-- what is left behind a comma, and behind each one further on
abbrev pub pieces_left : Option (Bor (List CodeWord)) → List (List Word)
pieces_left None = []
pieces_left (Some words) = all_seen words.now ∷ behind_commas (all_seen words.now)

-- what a sentence says
abbrev pub said : Sentence → Said
said (code.Arch by) = Arch by
said (code.Default value) = Default value
said (code.Others value) = Others value
said (code.Row ranges value) = Row ranges.items value
said (code.Case value words) = Case value (all_seen words.now)
said (code.Else value) = Else value

abbrev pub said_or_stop : Result Sentence Stop → Result Said Stop
said_or_stop (Ok sentence) = Ok (said sentence)
said_or_stop (Err stop) = Err stop

-- an answer whose value, seen by view, is the given one, or whose fault is; memory may be refused at any time
abbrev pub Answers : {X Y : Type 0} → (X → Y) → Result X ReadFault → Result Y SentenceFault → Type 0
Answers view (Ok value) given = given ≡ Ok (view value)
Answers view (Err (Failed fault)) given = given ≡ Err fault
Answers view (Err Memory) given = Unit {0}
