-- Rows of what is said of the numbers of calls.
use Rattle.std.specs.Prelude.{ℕ, zero, suc, ◌≡◌, ◌+◌, ◌-◌, ◌*◌, ◌^◌, ◌<◌, ◌≤◌, ◌==◌, ◌&&◌, nat_lt, not, Bool, true, false, if◌then◌else◌, List, [], ◌∷◌, ◌++◌, map, flat_map, length, All, Option, Some, None, ⊤}
use Rattle.sk_insn.specs.declared.insn.Insn.{Insn}
use Rattle.sk_profile.specs.declared.saying.Row.{Row}
use Rattle.sk_profile.specs.Sayings.{Arm, Saying}
use Rattle.sk_profile.specs.Code.{Section, guarded_code, filter_code}
use Rattle.sk_profile.specs.CodeRows.{saying_in}
use Rattle.sk_profile.specs.CodeViews.{saying_of, row_of, AreAsked, IsSectionFor}
use Rattle.sk_profile.specs.declared.profile.Part.{Part as PartOfCode}
use Rattle.sk_profile.specs.declared.profile.Profile.{Profile as ProfileOfCode}
use Rattle.sk_profile.specs.declared.profile.Rule.{Rule}
use Rattle.sk_profile.specs.declared.rows.Rows.{Rows}
use Rattle.sk_profile.specs.Profiles.{Rule as RuleOfProfile, Part, Profile, saying_in_part}

-- what is said of a number
abbrev pub said_at : Rows → ℕ → Saying
said_at rows nr = saying_in (map row_of rows.rows.items) (saying_of rows.before) nr

-- each row starts below a number
abbrev pub StartBelow : ℕ → List Row → Type 0
StartBelow number rows = All (λ (row : Row). row.start < number) rows

-- ---- where something else may be said than before: at the number of a rule, behind it, behind those that runc knows, and where
-- bit 30 or x32 begins or ends

abbrev pub marks_of_rule : RuleOfProfile → List ℕ
marks_of_rule rule = rule.number ∷ (rule.number + 1) ∷ []

abbrev pub marks_of : Part → List ℕ
marks_of part =
    flat_map marks_of_rule part.rules ++ ((part.top + 1) ∷ (part.x32_top + 1) ∷ 2 ^ 30 ∷ 2 ^ 31 ∷ (3 * 2 ^ 30) ∷ (2 ^ 32 - 1) ∷ [])

-- the nearer one of two numbers that are above a number and have 32 bits
abbrev pub nearer : ℕ → Option ℕ → ℕ → Option ℕ
nearer from None mark = if nat_lt from mark && nat_lt mark (2 ^ 32) then Some mark else None
nearer from (Some best) mark = if nat_lt from mark && nat_lt mark best then Some mark else Some best

abbrev pub next_of : ℕ → Option ℕ → List ℕ → Option ℕ
next_of from best [] = best
next_of from best (mark ∷ marks) = next_of from (nearer from best mark) marks

-- the nearest mark above a number
abbrev pub next_mark : Part → ℕ → Option ℕ
next_mark part from = next_of from None (marks_of part)

-- ---- how often what is said changes

abbrev pub has_no_arms : List Arm → Bool
has_no_arms [] = true
has_no_arms (arm ∷ arms) = false

abbrev pub are_same : Bool → Bool → Bool
are_same one other = if one then other else not other

-- the same value is said of all calls, in either case
abbrev pub says_same : Saying → Saying → Bool
says_same one other = has_no_arms one.arms && (has_no_arms other.arms && (one.otherwise == other.otherwise && are_same one.narrow other.narrow))

-- at how many numbers up to this one something else is said than at the number before
unfoldable pub changes : ℕ → ℕ → Part → ℕ → ℕ
changes default bad part zero = 0
changes default bad part (suc nr) =
    changes default bad part nr
    + (if says_same (saying_in_part default bad part nr) (saying_in_part default bad part (suc nr)) then 0 else 1)

-- ---- the sections of a filter

-- rows that say what a part says, no more of them than there are changes, which the section's tree cuts
pub record IsSectionOf (default bad : ℕ) (part : Part) (section : Section) : Type 0 where
  pub rows : Rows
  pub says : (nr : ℕ) → nr < 2 ^ 32 → said_at rows nr ≡ saying_in_part default bad part nr
  pub few : length rows.rows.items ≤ changes default bad part (2 ^ 32 - 1)
  pub is : IsSectionFor part.audit rows.before rows.rows.items section

-- a section for each part, in their order
abbrev pub AreSections : ℕ → ℕ → List Part → List Section → Type 0
AreSections default bad [] [] = ⊤
AreSections default bad (part ∷ parts) (section ∷ sections) = IsSectionOf default bad part section × AreSections default bad parts sections
AreSections default bad parts sections = ⊥

-- the code of a part's section stands behind what stood there, and so that of the sections of all parts
pub record PutsSectionOf (default bad : ℕ) (part : Part) (old new : List Insn) : Type 0 where
  pub section : Section
  pub says : IsSectionOf default bad part section
  pub code : new ≡ old ++ guarded_code section

pub record PutsSections (profile : Profile) (old new : List Insn) : Type 0 where
  pub sections : List Section
  pub are : AreSections profile.default profile.bad profile.parts sections
  pub code : new ≡ old ++ flat_map guarded_code sections

-- a section of a part that has more instructions than a filter may have
pub record IsLongPart (default bad : ℕ) (part : Part) : Type 0 where
  pub section : Section
  pub says : IsSectionOf default bad part section
  pub long : 4096 < length (guarded_code section)

-- sections of the first parts have more instructions than a filter may have
pub record HasLongSections (profile : Profile) : Type 0 where
  pub first : List Part
  pub others : List Part
  pub parts : profile.parts ≡ first ++ others
  pub sections : List Section
  pub are : AreSections profile.default profile.bad first sections
  pub long : 4096 < length (filter_code profile.bad sections)

-- ---- a rule with conditions on six arguments, each on another one, and so at most six

pub record IsGood (rule : Rule) : Type 0 where
  pub asked : AreAsked rule.conditions.items
  pub few : length rule.conditions.items ≤ 6

abbrev pub AreGood : PartOfCode → Type 0
AreGood part = All IsGood part.rules.items

abbrev pub AreAllGood : ProfileOfCode → Type 0
AreAllGood profile = All AreGood profile.parts.items
