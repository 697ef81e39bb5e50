-- What `ask expect` tells.
use Rattle.std.specs.Prelude.{ℕ, ◌≡◌, ◌⊎◌, ◌++◌, Bool, true, false, List, [], ◌∷◌, codes, Option, Some, None, unwrap_or, Ok, Err, ⊤}
use Rattle.std.specs.Bool.{MatchBool}
use Rattle.sk_insn.specs.declared.insn.Insn.{Insn}
use Rattle.sk_names.specs.declared.architecture.Architecture.{Architecture}
use Rattle.sk_arguments.specs.declared.naming.Naming.{Naming}
use Rattle.sk_conditions.specs.declared.standing.Relation.TheVariants.{Expected}
use Rattle.sk_engines.specs.declared.filters.Refusal.{Refusal as FilterRefusal}
use Rattle.sk_engines.specs.Filters.{chained}
use Rattle.sk_policy_text.specs.declared.expectation.Expectations.{Expectations}
use Rattle.sk_policy_text.specs.declared.refusal.Refusal.{Refusal as PolicyRefusal}
use Rattle.sk_policy_text.specs.Expecting.{IsExpected, IsNotExpected}
use Rattle.sk_policy_text.specs.PolicyTexts.{refusal_text}
use Rattle.sk_policy_text.specs.Words.{words_of_text}
use Rattle.sk_profile_json.specs.declared.context.Context.{Context}
use Rattle.sk_ask.specs.declared.demands.Demands.{Demands}
use Rattle.sk_ask.specs.declared.fault.FileFault.TheVariants.{Filter}
use Rattle.sk_ask.specs.declared.printing.Printing.{Printing}
use Rattle.sk_ask.specs.declared.trouble.Trouble.{Trouble}
use Rattle.sk_ask.specs.declared.trouble.Trouble.TheVariants.{Refused, Reading, Memory}
use Rattle.sk_ask.specs.declared.word.Word.TheVariants.{Expect}
use Rattle.sk_ask.specs.Architectures.{architecture_of}
use Rattle.sk_ask.specs.Asking.{Question, is_turned, naming_asked, printing_asked, turned_line}
use Rattle.sk_ask.specs.Comparisons.{IsCompared}
use Rattle.sk_ask.specs.Complaints.{about}
use Rattle.sk_ask.specs.Contexts.{IsContextOf}
use Rattle.sk_ask.specs.Endings.{Ending, refused, ComesTo}
use Rattle.sk_ask.specs.Forms.{is_policy, unmarked}
use Rattle.sk_ask.specs.Shelves.{Held, IsContent, IsUnread}
use Rattle.sk_ask.specs.Texts.{fault_text}
use Rattle.sk_ask.specs.Troubles.{IsTrouble, OfFiles}

-- ---- the policy

-- of which architecture's calls a policy's text tells, whether it says what calls of others get, and the chain of the filter that answers,
-- in place of each verdict, what is expected of it
abbrev pub AreDemands : List ℕ → Demands → Type 0
AreDemands text it =
    (is_policy text ≡ true) × (made : Expectations) × IsExpected text made × (it.architecture ≡ made.architecture)
    × (it.says_others ≡ made.says_others) × (chained 0 [] (made.image.items ∷ []) ≡ Ok it.chain)

-- what is said of a file that is no policy's text
abbrev pub no_policy_text : List ℕ
no_policy_text = codes "holds no expectations: expected the text of a policy"

-- the text is no policy's
abbrev pub IsNoPolicy : List ℕ → List ℕ → List ℕ → Type 0
IsNoPolicy name text line = (is_policy text ≡ false) × (line ≡ about name no_policy_text)

-- the policy is refused
abbrev pub IsRefusedPolicy : List ℕ → List ℕ → List ℕ → Type 0
IsRefusedPolicy name text line =
    (is_policy text ≡ true) × (refusal : PolicyRefusal) × IsNotExpected text refusal × (line ≡ about name (refusal_text (words_of_text text) refusal))

-- what is made of it is no filter
abbrev pub IsUnattached : List ℕ → List ℕ → List ℕ → Type 0
IsUnattached name image line =
    (number : ℕ) × (why : FilterRefusal) × (chained 0 [] (image ∷ []) ≡ Err (number, why)) × (line ≡ about name (fault_text (Filter None why)))

-- or memory was refused for it
abbrev pub IsNotAlone : List ℕ → List ℕ → Trouble → Type 0
IsNotAlone name image (Refused line) = IsUnattached name image line.items
IsNotAlone name image (Reading line) = ⊥
IsNotAlone name image Memory = ⊤

abbrev pub IsRefusedFilter : List ℕ → List ℕ → List ℕ → Type 0
IsRefusedFilter name text line = (made : Expectations) × IsExpected text made × IsUnattached name made.image.items line

-- there are none, and a line says why; or memory was refused
abbrev pub HasNoDemands : List ℕ → List ℕ → Trouble → Type 0
HasNoDemands name text (Refused line) = IsNoPolicy name text line.items ⊎ (IsRefusedPolicy name text line.items ⊎ IsRefusedFilter name text line.items)
HasNoDemands name text (Reading line) = ⊥
HasNoDemands name text Memory = ⊤

-- what is so of the demands of the policy in the file with this name, of at most 1048576 bytes; or it is not read, or has none
abbrev pub OfDemands : (List ℕ → Held) → List ℕ → Ending → (Demands → Type 0) → Type 0
OfDemands held name ending P =
    ((text : List ℕ) × IsContent 1048576 (held name) text
    × (((it : Demands) × AreDemands (unmarked text) it × P it) ⊎ IsTrouble ending (HasNoDemands name (unmarked text))))
    ⊎ IsTrouble ending (IsUnread 1048576 (held name) name)

-- ---- the filters

-- what could not be done where some calls are undecided
abbrev pub not_compared : List ℕ
not_compared = codes "expect: the filters could not be compared"

-- what the filters answer is compared with what the policy demands
abbrev pub IsExpect : (ℕ → Bool) → Naming → Printing → Architecture → List (List Insn) → List (List Insn) → List ℕ → Ending → Type 0
IsExpect may_spend naming printing by demands chain notes ending =
    IsCompared may_spend naming printing by (codes "expect") Expected not_compared demands chain notes ending

-- of the architecture that is named; where none is, of that of the policy
abbrev pub asked_by : Question → Demands → Question
asked_by asked it = record asked { arch = Some (unwrap_or asked.arch it.architecture) }

-- where no architecture is named, calls of others than the policy's are not compared, even if it says what they get
abbrev pub others_note : List ℕ → Option Architecture → Bool → List ℕ
others_note name None true = about name (codes "others: calls of other architectures were not compared: expected --arch")
others_note name arch says_others = []

-- the filters of the files behind the policy with this name, where the profiles among them are to hold
abbrev pub OnArchitecture : (List ℕ → Held) → (ℕ → Bool) → Question → Demands → List ℕ → List (List ℕ) → Ending → Type 0
OnArchitecture held may_spend asked it notes names ending =
    (context : Context) × IsContextOf asked context
    × OfFiles (record { big_endian = false; strict = asked.strict }) held context names ending (λ read.
    IsExpect may_spend (naming_asked asked.numbers) (printing_asked asked.json) (architecture_of asked.arch) it.chain read.chain (notes ++ read.notes) ending)

-- arguments with their highest byte first are not followed, though the policy tells of them
abbrev pub IsExpectOf : (List ℕ → Held) → (ℕ → Bool) → Question → List ℕ → Demands → List (List ℕ) → Ending → Type 0
IsExpectOf held may_spend asked name it names ending =
    MatchBool (is_turned (asked_by asked it).arch) (ComesTo (refused (turned_line Expect (codes "arch s390x"))) ending)
    (OnArchitecture held may_spend (asked_by asked it) it (others_note name asked.arch it.says_others) names ending)
