-- What `ask why` tells of profiles and policies among the files: which entry, or which line, decides on the call.
use Rattle.std.specs.Prelude.{ℕ, ◌≡◌, ◌+◌, ◌++◌, ◌&&◌, Bool, List, [], ◌∷◌, codes, flat_map, Option, Some, None}
use Rattle.std.specs.Bool.{MatchBool}
use Rattle.std.specs.Fmt.{decimal}
use Rattle.std.specs.Option.{is_none, option_map}
use Rattle.sk_forms.specs.Listings.{listing_of}
use Rattle.sk_insn.specs.declared.record.Record.{Record}
use Rattle.sk_profile.specs.Profiles.{Profile}
use Rattle.sk_profile_json.specs.declared.context.Context.{Context}
use Rattle.sk_profile_json.specs.declared.deciding.Decider.{Decider as ProfileDecider}
use Rattle.sk_profile_json.specs.declared.deciding.Decider.TheVariants as profile
use Rattle.sk_profile_json.specs.Deciding.{decider_by}
use Rattle.sk_profile_json.specs.Lines.{IsEntryLine}
use Rattle.sk_profile_json.specs.Partings.{IsSaidBy}
use Rattle.sk_policy_text.specs.declared.deciding.Decider.{Decider as PolicyDecider}
use Rattle.sk_policy_text.specs.declared.deciding.Decider.TheVariants as policy
use Rattle.sk_policy_text.specs.PolicyDeciding.{IsDeciderIn}
use Rattle.sk_document.specs.declared.deciding.Decider.{Decider}
use Rattle.sk_document.specs.declared.deciding.Decider.TheVariants.{Entry, NoEntry, NoCall, Foreign, Row, Default, Others}
use Rattle.sk_ask.specs.Complaints.{shown}
use Rattle.sk_ask.specs.Forms.{is_policy, unmarked}
use Rattle.sk_ask.specs.Kinds.{kind_of}

-- ---- one text

-- an entry is told with the line in which it begins
abbrev pub IsOfProfile : List ℕ → ProfileDecider → Decider → Type 0
IsOfProfile text (profile.Entry entry) it = (line : Option ℕ) × IsEntryLine text entry line × (it ≡ Entry entry line)
IsOfProfile text profile.Default it = it ≡ NoEntry
IsOfProfile text profile.NoCall it = it ≡ NoCall
IsOfProfile text profile.Foreign it = it ≡ Foreign

abbrev pub of_policy : PolicyDecider → Decider
of_policy (policy.Row line) = Row line
of_policy (policy.Default line) = Default line
of_policy (policy.Others line) = Others line

-- a text that is no profile stands for a policy, as in Expanding.antt
abbrev pub stands_for_policy : List ℕ → Bool
stands_for_policy text = is_none (listing_of text) && (is_none (kind_of text) && is_policy text)

abbrev pub PolicyDecides : Record → List ℕ → Option Decider → Type 0
PolicyDecides call text it = (decider : Option PolicyDecider) × IsDeciderIn text call decider × (it ≡ option_map of_policy decider)

-- a profile if it says one, and else a policy if it stands for one
abbrev pub DecidesBy : Record → List ℕ → Option Profile → Option Decider → Type 0
DecidesBy call text (Some profile) it = (decider : Decider) × IsOfProfile text (decider_by profile call) decider × (it ≡ Some decider)
DecidesBy call text None it = MatchBool (stands_for_policy text) (PolicyDecides call text it) (it ≡ None)

abbrev pub Decides : Context → Record → List ℕ → Option Decider → Type 0
Decides context call text it = (profile : Option Profile) × IsSaidBy context text profile × DecidesBy call text profile it

-- ---- files with their names

-- what decides in the file, if it is such a text
abbrev pub in_file : List ℕ → Option Decider → List (List ℕ × Decider)
in_file name None = []
in_file name (Some decider) = (name, decider) ∷ []

abbrev pub AreDecided : Context → Record → List (List ℕ × List ℕ) → List (List ℕ × Decider) → Type 0
AreDecided context call [] decisions = decisions ≡ []
AreDecided context call (file ∷ files) decisions =
    (first : Option Decider) × (more : List (List ℕ × Decider)) × Decides context call (unmarked file.1) first
    × AreDecided context call files more × (decisions ≡ in_file file.0 first ++ more)

-- ---- how it is told

abbrev pub line_text : List ℕ → List ℕ → Option ℕ → List ℕ
line_text what without (Some line) = what ++ (codes "line " ++ (decimal line ++ codes " decides"))
line_text what without None = without

abbrev pub place_text : Option ℕ → List ℕ
place_text (Some line) = codes " in line " ++ decimal line
place_text None = []

-- entries are counted from 1 on, as in all lines on profiles
abbrev pub decider_text : Decider → List ℕ
decider_text (Entry entry line) = codes "entry " ++ (decimal (entry + 1) ++ (codes " of syscalls" ++ (place_text line ++ codes " decides")))
decider_text NoEntry = codes "no entry of syscalls says otherwise than the default"
decider_text NoCall = codes "runc's own instructions decide, which know no such call"
decider_text Foreign = codes "the profile is not for this architecture"
decider_text (Row line) = line_text [] (codes "no line decides") line
decider_text (Default line) = line_text (codes "default in ") (codes "no line says what other numbers get") line
decider_text (Others line) = line_text (codes "others in ") (codes "no line says what other architectures get") line

-- a line, which names the file
unfoldable pub decision_line : List ℕ × Decider → List ℕ
decision_line it = shown it.0 ++ (codes ": " ++ (decider_text it.1 ++ codes "\n"))

abbrev pub decision_lines : List (List ℕ × Decider) → List ℕ
decision_lines decisions = flat_map decision_line decisions
