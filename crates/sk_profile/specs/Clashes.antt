-- When two rules with conditions fit one call and say different things of it. libseccomp follows no rule of the profile there,
-- so such a profile is refused, and such a call is shown.
use Rattle.std.specs.Prelude.{ℕ, ◌≡◌, ◌≢◌, ◌^◌, ◌<◌, Bool, true, List, map, slice_get, Some, Contains}
use Rattle.sk_insn.specs.declared.record.Record.{Record}
use Rattle.sk_profile.specs.declared.condition.Condition.{Condition}
use Rattle.sk_profile.specs.declared.clash.TwoArms.{TwoArms}
use Rattle.sk_profile.specs.declared.fault.Clash.{Clash}
use Rattle.sk_profile.specs.Means.{IsCall}
use Rattle.sk_profile.specs.Sayings.{Arm, Saying, all_hold, seen}
use Rattle.sk_profile.specs.Profiles.{Rule, Part, Profile, rules_for, saying_for, saying_in_part}

-- a call of which all these conditions hold, and all those
pub record FitsBoth (narrow : Bool) (conditions others : List Condition) (call : Record) : Type 0 where
  pub is_call : IsCall call
  pub first : all_hold conditions (seen narrow call) ≡ true
  pub second : all_hold others (seen narrow call) ≡ true

-- two arms say the same of each call that both fit
abbrev pub ClashesWithNone : Bool → Arm → Arm → Type 0
ClashesWithNone narrow one other = (call : Record) → FitsBoth narrow one.conditions other.conditions call → one.value ≡ other.value

-- arms of which two fit a call say the same of it
abbrev pub AreClear : Saying → Type 0
AreClear saying = (one other : Arm) → Contains saying.arms one → Contains saying.arms other → ClashesWithNone saying.narrow one other

-- so it is of the rules with conditions for each number, where none without them goes first
abbrev pub IsClear : Profile → Type 0
IsClear profile = (arch nr : ℕ) → nr < 2 ^ 32 → AreClear (saying_for profile arch nr)

-- the call of an architecture with this number and these arguments
abbrev pub call_of : ℕ → ℕ → List ℕ → Record
call_of arch nr args = record { nr = nr; arch = arch; ip = 0; args = args }

-- the arm at this place fits each call with these arguments that one arm fits, and says something else of it
pub record ClashesWith (narrow : Bool) (one : Arm) (others : List Arm) (place : ℕ) (args : List ℕ) : Type 0 where
  pub other : Arm
  pub at_place : slice_get others place ≡ Some other
  pub fits : (arch nr : ℕ) → arch < 2 ^ 32 → nr < 2 ^ 32 → FitsBoth narrow one.conditions other.conditions (call_of arch nr args)
  pub differ : one.value ≢ other.value

-- the arms at these places both fit the call with these arguments, and say different things of it
pub record AreClashing (arch nr : ℕ) (saying : Saying) (it : TwoArms) : Type 0 where
  pub one : Arm
  pub other : Arm
  pub at_first : slice_get saying.arms it.first ≡ Some one
  pub at_second : slice_get saying.arms it.second ≡ Some other
  pub order : it.first < it.second
  pub fits : FitsBoth saying.narrow one.conditions other.conditions (call_of arch nr it.args)
  pub differ : one.value ≢ other.value

-- the entries of the rules that count for a number, in the order of the rules
abbrev pub entries_for : ℕ → Part → ℕ → List ℕ
entries_for default part nr = map (λ (rule : Rule). rule.entry) (rules_for default part.rules nr)

-- these entries have two rules of the part for the number that both fit the call with these arguments, and say different things
-- of it
pub record IsClashIn (default bad : ℕ) (part : Part) (it : Clash) : Type 0 where
  pub one : ℕ
  pub other : ℕ
  pub arch : it.arch ≡ part.audit
  pub clash : AreClashing it.arch it.number (saying_in_part default bad part it.number) (record { first = one; second = other; args = it.args })
  pub first : slice_get (entries_for default part it.number) one ≡ Some it.first
  pub second : slice_get (entries_for default part it.number) other ≡ Some it.second

abbrev pub IsClash : Profile → Clash → Type 0
IsClash profile it = (part : Part) × Contains profile.parts part × IsClashIn profile.default profile.bad part it

-- what is said of each number of a part is clear
abbrev pub IsClearPart : ℕ → ℕ → Part → Type 0
IsClearPart default bad part = (nr : ℕ) → nr < 2 ^ 32 → AreClear (saying_in_part default bad part nr)
