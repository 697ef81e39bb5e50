-- Which entries of a profile part two calls: of a rule for their number one call meets all conditions and the other does not. Two calls that Linux takes
-- for one differ in bits that it does not read, so such an entry compares more than it reads (seccomp_rule_add(3): all 64 bits of an argument).
use Rattle.std.specs.Prelude.{ℕ, ◌==◌, not, Bool, if◌then◌else◌, List, [], find, Option, Some, None}
use Rattle.std.specs.Bool.{beq}
use Rattle.std.specs.List.{dedup, filter_map}
use Rattle.std.specs.Option.{option_map}
use Rattle.std.specs.Str.{IsUtf8}
use Rattle.sk_insn.specs.declared.record.Record.{Record}
use Rattle.sk_profile.specs.declared.condition.Condition.{Condition}
use Rattle.sk_profile.specs.Profiles.{Rule, Part, Profile, is_for, is_narrow, part_for}
use Rattle.sk_profile.specs.Sayings.{all_hold, holds_of, seen}
use Rattle.sk_profile_json.specs.declared.context.Context.{Context}
use Rattle.sk_profile_json.specs.declared.parting.Parting.{Parting}
use Rattle.sk_profile_json.specs.Wholes.{Says}

-- ---- one rule

-- the condition holds of one of the two calls alone
abbrev pub parts : Record → Record → Condition → Bool
parts one other c = not (beq (holds_of c one) (holds_of c other))

-- all of them hold of one of the two alone
abbrev pub part_together : Record → Record → List Condition → Bool
part_together one other conditions = not (beq (all_hold conditions one) (all_hold conditions other))

abbrev pub parting_at : ℕ → Condition → Parting
parting_at entry c = record { entry = entry; condition = c }

-- the entry of a rule that one call meets and the other does not, and its first condition that does so
abbrev pub parting_by : Record → Record → Rule → Option Parting
parting_by one other rule =
    if part_together one other rule.conditions then option_map (parting_at rule.entry) (find (parts one other) rule.conditions) else None

-- ---- all rules of a part, in their order

-- where the rule is for the number of the calls, and says something else than the default
abbrev pub parting_for : ℕ → Record → Record → Rule → Option Parting
parting_for default one other rule = if is_for default one.nr rule then parting_by one other rule else None

-- rules of one entry stand together, and have the same conditions
abbrev pub is_same_entry : Parting → Parting → Bool
is_same_entry one other = one.entry == other.entry

abbrev pub partings_among : ℕ → Record → Record → List Rule → List Parting
partings_among default one other rules = dedup is_same_entry (filter_map (parting_for default one other) rules)

-- by the calls as conditions see them
abbrev pub partings_in : ℕ → Record → Record → Part → List Parting
partings_in default one other part =
    partings_among default (seen (is_narrow part one.nr) one) (seen (is_narrow part one.nr) other) part.rules

-- ---- a profile

abbrev pub is_of : ℕ → Part → Bool
is_of arch part = part.audit == arch

abbrev pub partings_if : ℕ → Record → Record → Option Part → List Parting
partings_if default one other None = []
partings_if default one other (Some part) = partings_in default one other part

-- those for the architecture and the number of the first call
abbrev pub partings_of : Profile → Record → Record → List Parting
partings_of profile one other = partings_if profile.default one other (part_for profile one.arch)

-- ---- a file

-- its bytes are the text of a profile
abbrev pub SaysInBytes : Context → List ℕ → Profile → Type 0
SaysInBytes context bytes profile = IsUtf8 bytes × Says context bytes profile

-- the profile that they say, or none
abbrev pub IsSaidBy : Context → List ℕ → Option Profile → Type 0
IsSaidBy context bytes (Some profile) = SaysInBytes context bytes profile
IsSaidBy context bytes None = (profile : Profile) → SaysInBytes context bytes profile → ⊥

abbrev pub partings_by : Option Profile → Record → Record → List Parting
partings_by None one other = []
partings_by (Some profile) one other = partings_of profile one other
