-- Why a profile has no filter.
use Rattle.std.specs.Prelude.{ℕ, ◌≡◌, ◌&&◌, nat_lt, nat_le, Bool, false, List, length, slice_get, Some, ⊤}
use Rattle.std.specs.List.{list_all}
use Rattle.sk_profile.specs.declared.build.CodeFault.{CodeFault}
use Rattle.sk_profile.specs.declared.build.CodeFault.TheVariants as code
use Rattle.sk_profile.specs.declared.condition.Condition.{Condition}
use Rattle.sk_profile.specs.declared.fault.ProfileFault.{ProfileFault}
use Rattle.sk_profile.specs.declared.fault.ProfileFault.TheVariants.{Rule as WrongRule, Clashes, TooLong, Memory}
use Rattle.sk_profile.specs.declared.fault.RulePlace.{RulePlace}
use Rattle.sk_profile.specs.Clashes.{IsClash, IsClashIn}
use Rattle.sk_profile.specs.Profiles.{Rule, Part, Profile}
use Rattle.sk_profile.specs.Sayings.{are_apart}

abbrev pub of_code : CodeFault → ProfileFault
of_code code.TooLong = TooLong
of_code code.Memory = Memory

-- a rule with conditions on six arguments, each on another one, and so at most six
abbrev pub is_good : Rule → Bool
is_good rule =
    nat_le (length rule.conditions) 6 && (are_apart rule.conditions && list_all (λ (c : Condition). nat_lt c.index 6) rule.conditions)

-- the rule at a place is none
abbrev pub IsWrongIn : List Rule → ℕ → Type 0
IsWrongIn rules place = (rule : Rule) × (slice_get rules place ≡ Some rule) × (is_good rule ≡ false)

abbrev pub IsWrongAt : Profile → RulePlace → Type 0
IsWrongAt profile it = (part : Part) × (slice_get profile.parts it.part ≡ Some part) × IsWrongIn part.rules it.rule

abbrev pub IsFaultOf : Profile → ProfileFault → Type 0
IsFaultOf profile (WrongRule it) = IsWrongAt profile it
IsFaultOf profile (Clashes it) = IsClash profile it
IsFaultOf profile TooLong = ⊤
IsFaultOf profile Memory = ⊤

-- the faults of a part by itself, whose rules are good
abbrev pub IsFaultIn : ℕ → ℕ → Part → ProfileFault → Type 0
IsFaultIn default bad part (Clashes it) = IsClashIn default bad part it
IsFaultIn default bad part Memory = ⊤
IsFaultIn default bad part fault = ⊥
