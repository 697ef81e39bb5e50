-- Which line of a policy's text decides on a call: where the sentence begins whose verdict the text says of it (PolicySays.antt).
use Rattle.std.specs.Prelude.{ℕ, ◌≡◌, ◌⊎◌, ◌==◌, ◌&&◌, nat_le, Bool, true, false, if◌then◌else◌, List, [], ◌∷◌, Option, Some, None, is_some}
use Rattle.std.specs.Bool.{MatchBool}
use Rattle.std.specs.List.{list_any}
use Rattle.sk_insn.specs.declared.record.Record.{Record}
use Rattle.sk_names.specs.declared.architecture.Architecture.{Architecture}
use Rattle.sk_names.specs.Architectures.{audit_of}
use Rattle.sk_policy.specs.Policies.{IsWhole}
use Rattle.sk_policy_text.specs.declared.deciding.Decider.{Decider}
use Rattle.sk_policy_text.specs.declared.deciding.Decider.TheVariants as decider
use Rattle.sk_policy_text.specs.declared.deciding.Telling.{Telling}
use Rattle.sk_policy_text.specs.declared.deciding.Telling.TheVariants as telling
use Rattle.sk_policy_text.specs.declared.policy_fault.Wrong.{Wrong}
use Rattle.sk_policy_text.specs.declared.sentence.Range.{Range}
use Rattle.sk_policy_text.specs.declared.sentence.Sentence.{Sentence}
use Rattle.sk_policy_text.specs.declared.sentence.Sentence.TheVariants as sentence
use Rattle.sk_policy_text.specs.declared.sentence.SentenceFault.{SentenceFault}
use Rattle.sk_policy_text.specs.declared.stated.Stated.{Stated}
use Rattle.sk_policy_text.specs.Words.{words_of_text}
use Rattle.sk_policy_text.specs.PolicyMade.{EndsUnread, IsText, reads_on}
use Rattle.sk_policy_text.specs.Conditions.{Condition, condition_words, holds_condition}
use Rattle.sk_policy_text.specs.ConditionsTokens.{tokens_of}
use Rattle.sk_policy_text.specs.PolicyRows.{default_in, is_of_x32, others_in}
use Rattle.sk_policy_text.specs.PolicyRules.{HasUnread}

-- ---- sentences

abbrev pub is_in : ℕ → Range → Bool
is_in nr range = nat_le range.first nr && nat_le nr range.last

-- the sentence is a row that has the number, or says the verdict of numbers without a row, or of other architectures
abbrev pub tells : Telling → Sentence → Bool
tells (telling.OfNumber nr) (sentence.Row ranges verdict) = list_any (is_in nr) ranges.items
tells (telling.OfNumber nr) other = false
tells telling.OfUnnamed it = is_some (default_in it)
tells telling.OfOthers it = is_some (others_in it)

-- the text from the first sentence on that tells so
abbrev pub from_first : Telling → List Stated → List Stated
from_first what [] = []
from_first what (first ∷ behind) = if tells what first.sentence then first ∷ behind else from_first what behind

abbrev pub line_of : List Stated → Option ℕ
line_of [] = None
line_of (first ∷ behind) = Some first.line

abbrev pub behind_first : List Stated → List Stated
behind_first [] = []
behind_first (first ∷ behind) = behind

-- ---- rows

abbrev pub line_of_else : Sentence → ℕ → Option ℕ
line_of_else (sentence.Else verdict) at = Some at
line_of_else other at = None

-- a case decides where the call, as the machine makes it, meets its condition, and else what stands behind it; `else` always does
abbrev pub CaseDecides : Sentence → ℕ → Type 0 → Record → Option ℕ → Type 0
CaseDecides (sentence.Case verdict words) at Behind call line =
    (written : Condition) × (tokens_of words.now ≡ condition_words written)
    × (IsWhole call → holds_condition written call ≡ true → line ≡ Some at) × (IsWhole call → holds_condition written call ≡ false → Behind)
CaseDecides other at Behind call line = line ≡ line_of_else other at

-- the line of the case that decides
abbrev pub CasesDecide : List Stated → Record → Option ℕ → Type 0
CasesDecide [] call line = line ≡ None
CasesDecide (first ∷ behind) call line = CaseDecides first.sentence first.line (CasesDecide behind call line) call line

-- that of a row's own verdict, or of the case below it that decides
abbrev pub RowDecides : Sentence → ℕ → List Stated → Record → Option ℕ → Type 0
RowDecides (sentence.Row ranges None) at behind call line = CasesDecide behind call line
RowDecides other at behind call line = line ≡ Some at

-- ---- a text

-- of a number that no row has, on the architecture that the text tells of
abbrev pub unnamed_decider : Architecture → ℕ → List Stated → Decider
unnamed_decider by nr text =
    if is_of_x32 by nr then decider.Others (line_of (from_first telling.OfOthers text))
    else decider.Default (line_of (from_first telling.OfUnnamed text))

-- the row that has the number stands first of these, if there is one
abbrev pub NumberDecides : List Stated → Record → List Stated → Decider → Type 0
NumberDecides text call [] it = it ≡ unnamed_decider (reads_on text) call.nr text
NumberDecides text call (row ∷ behind) it =
    (line : Option ℕ) × RowDecides row.sentence row.line behind call line × (it ≡ decider.Row line)

abbrev pub Decides : List Stated → Record → Decider → Type 0
Decides text call it =
    MatchBool (call.arch == audit_of (reads_on text)) (NumberDecides text call (from_first (telling.OfNumber call.nr) text) it)
    (it ≡ decider.Others (line_of (from_first telling.OfOthers text)))

-- ---- bytes

-- the text that bytes are, or nothing, where a condition below the row is none
abbrev pub IsDecided : List Stated → Record → Option Decider → Type 0
IsDecided text call (Some it) = Decides text call it
IsDecided text call None =
    (line : ℕ) × (why : Wrong) × HasUnread (behind_first (from_first (telling.OfNumber call.nr) text)) line why

-- nothing too, where the bytes end with no sentence
abbrev pub IsDeciderIn : List ℕ → Record → Option Decider → Type 0
IsDeciderIn bytes call it =
    ((text : List Stated) × IsText bytes text × IsDecided text call it)
    ⊎ ((it ≡ None) × (by : Architecture) × (line : ℕ) × (why : SentenceFault) × EndsUnread (words_of_text bytes) by line why)
