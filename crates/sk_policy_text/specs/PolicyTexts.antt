-- What is said of a policy's text that is refused, behind its file's name: the line, the word, and what was expected there.
use Rattle.std.specs.Prelude.{ℕ, ◌-◌, ◌++◌, ◌==◌, ◌&&◌, nat_le, Bool, false, if◌then◌else◌, List, [], ◌∷◌, codes, length, map, take, slice_get, Option, Some, None}
use Rattle.std.specs.Fmt.{decimal}
use Rattle.std.specs.Str.{bytes_eq}
use Rattle.sk_conditions.specs.declared.expectation.Expectation.{Expectation}
use Rattle.sk_conditions.specs.Comparing.{expectation_name, expectation_of}
use Rattle.sk_names.specs.declared.architecture.Architecture.{Architecture}
use Rattle.sk_names.specs.Architectures.{text_of}
use Rattle.sk_policy_text.specs.declared.condition.ConditionFault.{ConditionFault}
use Rattle.sk_policy_text.specs.declared.condition.ConditionFault.TheVariants as condition
use Rattle.sk_policy_text.specs.declared.policy_fault.Misplaced.{Misplaced}
use Rattle.sk_policy_text.specs.declared.policy_fault.Misplaced.TheVariants as misplaced
use Rattle.sk_policy_text.specs.declared.policy_fault.PolicyFault.{PolicyFault}
use Rattle.sk_policy_text.specs.declared.policy_fault.PolicyFault.TheVariants as fault
use Rattle.sk_policy_text.specs.declared.policy_fault.Twice.{Twice}
use Rattle.sk_policy_text.specs.declared.policy_fault.Wrong.{Wrong}
use Rattle.sk_policy_text.specs.declared.policy_fault.Wrong.TheVariants as wrong
use Rattle.sk_policy_text.specs.declared.refusal.Refusal.{Refusal}
use Rattle.sk_policy_text.specs.declared.refusal.Refusal.TheVariants as refusal
use Rattle.sk_policy_text.specs.declared.sentence.Expected.{Expected as Wanted}
use Rattle.sk_policy_text.specs.declared.sentence.Expected.TheVariants as expected
use Rattle.sk_policy_text.specs.declared.sentence.SentenceFault.{SentenceFault}
use Rattle.sk_policy_text.specs.Words.{Word}
use Rattle.sk_policy_text.specs.PolicyMade.{first_words}

-- ---- words

-- a control character, and what is no ASCII, is a question mark (63)
abbrev pub shown_byte : ℕ → ℕ
shown_byte byte = if nat_le 32 byte && nat_le byte 126 then byte else 63

-- at most 40 bytes of a word
abbrev pub shown : List ℕ → List ℕ
shown word = map shown_byte (take 40 word)

-- the words from the first one of a line on
abbrev pub from_line : ℕ → List Word → List Word
from_line line [] = []
from_line line (word ∷ rest) = if word.line == line then word ∷ rest else from_line line rest

-- those behind `where`
abbrev pub behind_where : List Word → List Word
behind_where [] = []
behind_where (word ∷ rest) = if bytes_eq word.text (codes "where") then rest else behind_where rest

abbrev pub last_of : List Word → Option Word
last_of words = slice_get words (length words - 1)

abbrev pub line_text : ℕ → List ℕ
line_text line = codes "line " ++ (decimal line ++ codes ": ")

-- what stands before and behind what was expected: in place of a word, or behind the last one
abbrev pub before_text : Option Word → Option Word → List ℕ
before_text (Some word) last = line_text word.line ++ (shown word.text ++ codes ": expected ")
before_text None (Some last) = line_text last.line ++ codes "expected "
before_text None None = codes "expected "

abbrev pub behind_text : Option Word → Option Word → List ℕ
behind_text (Some word) last = []
behind_text None (Some last) = codes " behind " ++ shown last.text
behind_text None None = []

abbrev pub place_text : Option Word → Option Word → List ℕ → List ℕ
place_text word last wanted = before_text word last ++ (wanted ++ behind_text word last)

-- ---- sentences

unfoldable pub wanted_text : Wanted → List ℕ
wanted_text expected.Architecture = codes "the name of an architecture"
wanted_text expected.Verdict = codes "a verdict, as allow or errno/EPERM"
wanted_text expected.NameOfError = codes "the name of the error with the number before it"
wanted_text expected.Call = codes "the name of a call on "
wanted_text expected.NameOfCall = codes "the name of the call with the number before it"
wanted_text expected.CommaOrVerdict = codes "a comma, a verdict or the end of the line"
wanted_text expected.WhereOrElse = codes "where CONDITION or else"
wanted_text expected.Condition = codes "a condition"
wanted_text expected.End = codes "the end of the line"

-- a call is one of an architecture
unfoldable pub on_text : Architecture → Wanted → List ℕ
on_text by expected.Call = text_of by
on_text by other = []

unfoldable pub more_text : Wanted → List ℕ
more_text expected.Call = codes ", or its number"
more_text other = []

abbrev pub expected_text : Architecture → Wanted → List ℕ
expected_text by wanted = wanted_text wanted ++ (on_text by wanted ++ more_text wanted)

-- several verdicts stand where one was expected: what `ask` writes where a call may get any of them
abbrev pub is_several : List ℕ → Wanted → Bool
is_several word expected.End = bytes_eq word (codes "|")
is_several word expected.WhereOrElse = bytes_eq word (codes "|")
is_several word expected.Verdict = bytes_eq word (codes "any")
is_several word expected.CommaOrVerdict = bytes_eq word (codes "any")
is_several word other = false

abbrev pub is_several_at : Option Word → Wanted → Bool
is_several_at None wanted = false
is_several_at (Some word) wanted = is_several word.text wanted

abbrev pub several_text : Option Word → List ℕ
several_text None = codes "several verdicts: expected one"
several_text (Some word) = line_text word.line ++ codes "several verdicts: expected one"

abbrev pub sentence_text : Architecture → List Word → SentenceFault → List ℕ
sentence_text by words why =
    if is_several_at (slice_get words why.at) why.expected then several_text (slice_get words why.at)
    else place_text (slice_get words why.at) (last_of words) (expected_text by why.expected)

-- ---- policies

abbrev pub misplaced_text : Misplaced → List ℕ
misplaced_text misplaced.NoRow = codes "a case: expected a row without a verdict above it"
misplaced_text misplaced.BehindElse = codes "a case: expected none behind else"
misplaced_text misplaced.NoElse = codes "expected a line VERDICT else below the row"
misplaced_text misplaced.DefaultTwice = codes "default: stands twice"
misplaced_text misplaced.OthersTwice = codes "others: stands twice"
misplaced_text misplaced.ArchNotFirst = codes "arch: expected before all other lines"

-- of the words of a condition
abbrev pub condition_text : List Word → ConditionFault → List ℕ
condition_text words (condition.NotUnderstood at) = place_text (slice_get words at) (last_of words) (codes "a condition")
condition_text words (condition.TooDeep at) = place_text (slice_get words at) (last_of words) (codes "no more than 64 brackets in each other")
condition_text words condition.Memory = codes "memory was refused"

abbrev pub wrong_text : List Word → ℕ → Wrong → List ℕ
wrong_text words line (wrong.Misplaced why) = line_text line ++ misplaced_text why
wrong_text words line (wrong.Unread why) = condition_text (behind_where (first_words (from_line line words))) why

abbrev pub twice_text : Twice → List ℕ
twice_text it = line_text it.line ++ (decimal it.number ++ (codes " stands in line " ++ (decimal it.earlier ++ codes " already")))

abbrev pub policy_text : List Word → PolicyFault → List ℕ
policy_text words (fault.Wrong line why) = wrong_text words line why
policy_text words (fault.Twice it) = twice_text it
policy_text words (fault.Missing nr) = decimal nr ++ codes ": no row has this number: expected one, or a line default VERDICT"
policy_text words fault.TooLong = codes "its filter would have more than 4096 instructions"
policy_text words fault.Memory = codes "memory was refused"

-- the word of an expectation, before what was expected in its place
abbrev pub before_verdict : Option (List ℕ) → List ℕ
before_verdict None = []
before_verdict (Some name) = name ++ codes ": "

abbrev pub expectation_text : ℕ → Expectation → List ℕ
expectation_text line it = line_text line ++ (before_verdict (expectation_name it) ++ codes "expected a verdict of a filter, as allow or errno/EPERM")

-- of the words of a text
abbrev pub refusal_text : List Word → Refusal → List ℕ
refusal_text words (refusal.Sentence by line why) = sentence_text by (first_words (from_line line words)) why
refusal_text words (refusal.Expectation line value) = expectation_text line (expectation_of value)
refusal_text words (refusal.Policy why) = policy_text words why
refusal_text words refusal.TooLong = codes "its filter would have more than 4096 instructions"
refusal_text words refusal.Memory = codes "memory was refused"
