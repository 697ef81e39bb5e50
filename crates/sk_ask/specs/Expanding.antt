-- What files stand for: a profile, a policy and a text in another form for the image of its filter, and any other file for its bytes,
-- where these may be asked to have the highest byte first.
use Rattle.std.specs.Prelude.{ℕ, ◌≡◌, ◌⊎◌, ◌++◌, ◌&&◌, nat_lt, length, Bool, true, false, List, [], ◌∷◌, codes, flat_map, map, string_bytes, Option, Some, None, Ok, Err, ⊤}
use Rattle.std.specs.Bool.{MatchBool}
use Rattle.sk_forms.specs.Decimals.{is_nearly_decimals}
use Rattle.sk_forms.specs.Listings.{listing_of}
use Rattle.sk_profile_json.specs.declared.context.Context.{Context}
use Rattle.sk_profile_json.specs.declared.answer.Made.{Made}
use Rattle.sk_profile_json.specs.declared.answer.Refusal.{Refusal}
use Rattle.sk_profile_json.specs.Forms.{is_profile}
use Rattle.sk_profile_json.specs.Made.{IsMade}
use Rattle.sk_profile_json.specs.Texts.{refusal_text}
use Rattle.sk_policy_text.specs.declared.refusal.Refusal.{Refusal as PolicyRefusal}
use Rattle.sk_policy_text.specs.PolicyMade.{IsMade as IsMadeOfPolicy, IsUnmade}
use Rattle.sk_policy_text.specs.PolicyTexts.{refusal_text as policy_refusal_text}
use Rattle.sk_policy_text.specs.Words.{words_of_text}
use Rattle.sk_ask.specs.declared.manner.Manner.{Manner}
use Rattle.sk_ask.specs.declared.trouble.Trouble.{Trouble}
use Rattle.sk_ask.specs.declared.trouble.Trouble.TheVariants.{Refused, Reading, Memory}
use Rattle.sk_ask.specs.Complaints.{about}
use Rattle.sk_ask.specs.Forms.{is_policy, unmarked}
use Rattle.sk_ask.specs.Kinds.{kind_of}
use Rattle.sk_ask.specs.Orders.{taken_turned, StandsAs}

-- what is told of a profile beside its filter: each note in a line of its own, which names the file
abbrev pub note_lines : List ℕ → List (List ℕ) → List ℕ
note_lines name notes = flat_map (about name) notes

-- something is passed over in a profile of which these lines are told, and nothing may be
abbrev pub is_passed_over : Bool → List ℕ → Bool
is_passed_over strict lines = strict && nat_lt 0 (length lines)

-- the image of the filter that means the profile in the file with this name, and what is told beside it
abbrev pub StandsForFilter : Bool → Context → List ℕ → List ℕ → List ℕ → List ℕ → Type 0
StandsForFilter strict context name file image notes =
    (made : Made) × IsMade context file (Ok made)
    × (image ≡ made.image.items) × (notes ≡ note_lines name (map string_bytes made.notes.items)) × (is_passed_over strict notes ≡ false)

-- the image of the filter that means the policy in a file, of which nothing is told
abbrev pub StandsForPolicy : List ℕ → List ℕ → List ℕ → Type 0
StandsForPolicy file image notes = IsMadeOfPolicy file image × (notes ≡ [])

-- a file that is none of those below: a policy stands for its filter, and any other file for its bytes
abbrev pub StandsForOther : Manner → List ℕ → List ℕ → List ℕ → List ℕ → Type 0
StandsForOther manner name file image notes =
    MatchBool (is_policy file) (StandsForPolicy file image notes) (StandsAs name file (taken_turned manner.big_endian file) image notes)

-- what is known to be no filter stands for none
abbrev pub StandsForKind : Manner → List ℕ → List ℕ → Option (List ℕ) → List ℕ → List ℕ → Type 0
StandsForKind manner name file (Some kind) image notes = ⊥
StandsForKind manner name file None image notes = StandsForOther manner name file image notes

-- a profile is one where it is to hold
abbrev pub StandsForDocument : Manner → Context → List ℕ → List ℕ → List ℕ → List ℕ → Type 0
StandsForDocument manner context name file image notes =
    MatchBool (is_profile file) (StandsForFilter manner.strict context name file image notes) (StandsForKind manner name file (kind_of file) image notes)

-- a text in another form stands for the filter that it writes, of which nothing is told; decimals of which there are not as many as their
-- first number says stand for none
abbrev pub StandsForForm : Manner → Context → List ℕ → List ℕ → Option (List ℕ) → List ℕ → List ℕ → Type 0
StandsForForm manner context name file (Some listed) image notes = (image ≡ listed) × (notes ≡ [])
StandsForForm manner context name file None image notes =
    MatchBool (is_nearly_decimals file) ⊥ (StandsForDocument manner context name file image notes)

-- other forms come first: an array of C may begin as a profile does, and no document of JSON is of such a form
abbrev pub StandsForText : Manner → Context → List ℕ → List ℕ → List ℕ → List ℕ → Type 0
StandsForText manner context name file image notes = StandsForForm manner context name file (listing_of file) image notes

abbrev pub StandsFor : Manner → Context → List ℕ → List ℕ → List ℕ → List ℕ → Type 0
StandsFor manner context name file image notes = StandsForText manner context name (unmarked file) image notes

-- files with these names, one for one, and what is told of them in their order
abbrev pub StandFor : Manner → Context → List (List ℕ) → List (List ℕ) → List (List ℕ) → List ℕ → Type 0
StandFor manner context [] [] [] notes = notes ≡ []
StandFor manner context (name ∷ names) (file ∷ files) (image ∷ images) notes =
    (first more : List ℕ) × StandsFor manner context name file image first × StandFor manner context names files images more × (notes ≡ first ++ more)
StandFor manner context names files images notes = ⊥

-- ---- profiles and policies that have no filter

-- why the profile in a file has none, in a line
abbrev pub ProfileHasNone : Context → List ℕ → List ℕ → List ℕ → Type 0
ProfileHasNone context name file line =
    (listing_of file ≡ None) × (is_profile file ≡ true) × (refusal : Refusal) × IsMade context file (Err refusal) × (line ≡ about name (refusal_text refusal))

-- why the policy in a file has none
abbrev pub PolicyHasNone : List ℕ → List ℕ → List ℕ → Type 0
PolicyHasNone name file line =
    (listing_of file ≡ None) × (kind_of file ≡ None) × (is_policy file ≡ true) × (refusal : PolicyRefusal) × IsUnmade file refusal × (line ≡ about name (policy_refusal_text (words_of_text file) refusal))

-- a file is known to be none
abbrev pub IsOfKind : List ℕ → List ℕ → List ℕ → Type 0
IsOfKind name file line = (kind : List ℕ) × (listing_of file ≡ None) × (is_profile file ≡ false) × (kind_of file ≡ Some kind) × (line ≡ about name kind)

-- what is said of decimals
abbrev pub miscounted_text : List ℕ
miscounted_text = codes "does not have as many rows of decimals as its first number says"

abbrev pub IsMiscounted : List ℕ → List ℕ → List ℕ → Type 0
IsMiscounted name file line = (listing_of file ≡ None) × (is_nearly_decimals file ≡ true) × (line ≡ about name miscounted_text)

-- nothing may be passed over in profiles, and the lines tell what is in this one
abbrev pub IsPassedOver : Bool → Context → List ℕ → List ℕ → List ℕ → Type 0
IsPassedOver strict context name file lines =
    (listing_of file ≡ None) × (is_profile file ≡ true) × (made : Made) × IsMade context file (Ok made)
    × (lines ≡ note_lines name (map string_bytes made.notes.items)) × (is_passed_over strict lines ≡ true)

-- a profile or a policy has none, or a file is none, or has too few or too many rows, or nothing may be passed over, and the lines say
-- why; or memory was refused for it
abbrev pub TextHasNoFilter : Manner → Context → List ℕ → List ℕ → Trouble → Type 0
TextHasNoFilter manner context name file (Refused line) =
    ProfileHasNone context name file line.items ⊎ (PolicyHasNone name file line.items ⊎ (IsOfKind name file line.items
    ⊎ (IsMiscounted name file line.items ⊎ IsPassedOver manner.strict context name file line.items)))
TextHasNoFilter manner context name file (Reading line) = ⊥
TextHasNoFilter manner context name file Memory = ⊤

abbrev pub HasNoFilter : Manner → Context → List ℕ → List ℕ → Trouble → Type 0
HasNoFilter manner context name file why = TextHasNoFilter manner context name (unmarked file) why

-- it is the first of these files that stands for nothing
abbrev pub IsFirstWithout : Manner → Context → List (List ℕ) → List (List ℕ) → Trouble → Type 0
IsFirstWithout manner context (name ∷ names) (file ∷ files) why =
    HasNoFilter manner context name file why
    ⊎ ((image notes : List ℕ) × StandsFor manner context name file image notes × IsFirstWithout manner context names files why)
IsFirstWithout manner context names files why = ⊥
