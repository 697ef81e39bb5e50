-- The profile of the code as one of the definition.
use Rattle.std.specs.Prelude.{map}
use Rattle.sk_profile.specs.declared.profile.Rule.{Rule as RuleOfCode}
use Rattle.sk_profile.specs.declared.profile.Part.{Part as PartOfCode}
use Rattle.sk_profile.specs.declared.profile.Profile.{Profile as ProfileOfCode}
use Rattle.sk_profile.specs.Profiles.{Rule, Part, Profile}

abbrev pub rule_of : RuleOfCode → Rule
rule_of rule = record { number = rule.number; conditions = rule.conditions.items; value = rule.value; entry = rule.entry }

abbrev pub part_of : PartOfCode → Part
part_of part = record {
  audit = part.audit;
  narrow = part.narrow;
  without_x32 = part.without_x32;
  rules = map rule_of part.rules.items;
  top = part.top;
  x32_top = part.x32_top;
}

abbrev pub profile_of : ProfileOfCode → Profile
profile_of profile = record { parts = map part_of profile.parts.items; default = profile.default; bad = profile.bad }
