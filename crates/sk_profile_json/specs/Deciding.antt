-- What of a profile decides on a call: the entry of the rule by which the profile means its verdict (Profiles.antt of sk_profile, `saying_for`; after
-- seccomp_rule_add(3) and runc). A rule that says what the default says is dropped by runc, and decides on nothing.
use Rattle.std.specs.Prelude.{ℕ, ◌≡◌, ◌&&◌, Bool, true, false, if◌then◌else◌, List, find, Option, Some, None, Contains}
use Rattle.std.specs.Option.{option_or}
use Rattle.sk_insn.specs.declared.record.Record.{Record}
use Rattle.sk_profile.specs.Profiles.{Rule, Part, Profile, is_for, is_narrow, is_unknown, is_x32, no_call, part_for, plain_rule, said_by}
use Rattle.sk_profile.specs.Sayings.{all_hold, seen}
use Rattle.sk_profile_json.specs.declared.deciding.Decider.{Decider}
use Rattle.sk_profile_json.specs.declared.deciding.Decider.TheVariants.{Entry, Default, NoCall, Foreign}

-- ---- one part

-- the rule is for the number, says something else than the default, and its conditions hold of the call
abbrev pub is_met : ℕ → ℕ → Record → Rule → Bool
is_met default nr call rule = is_for default nr rule && all_hold rule.conditions call

-- a rule without conditions goes first, and else the first whose conditions hold
abbrev pub deciding_rule : ℕ → ℕ → Record → List Rule → Option Rule
deciding_rule default nr call rules = option_or (plain_rule default rules nr) (find (is_met default nr call) rules)

abbrev pub decider_of : Option Rule → Decider
decider_of (Some rule) = Entry rule.entry
decider_of None = Default

-- runc's instructions before the filter know the greatest number; and x32's numbers are none of a part that is without them
abbrev pub decider_in : ℕ → Part → Record → Decider
decider_in default part call =
    if is_unknown part call.nr then NoCall
    else if part.without_x32 && is_x32 call.nr then Foreign
    else decider_of (deciding_rule default call.nr (seen (is_narrow part call.nr) call) part.rules)

-- ---- a profile

abbrev pub decider_if : ℕ → Option Part → Record → Decider
decider_if default None call = Foreign
decider_if default (Some part) call = decider_in default part call

abbrev pub decider_by : Profile → Record → Decider
decider_by profile call = decider_if profile.default (part_for profile call.arch) call

-- ---- the law: what decides says what the profile says

-- a rule of the entry is for the call, its conditions hold, and the profile says what it says
pub record Decides (profile : Profile) (call : Record) (entry : ℕ) : Type 0 where
  pub part : Part
  pub of : part_for profile call.arch ≡ Some part
  pub rule : Rule
  pub there : Contains part.rules rule
  pub from : rule.entry ≡ entry
  pub met : is_met profile.default call.nr (seen (is_narrow part call.nr) call) rule ≡ true
  pub says : said_by profile call ≡ rule.value

-- no rule is for the call with conditions that hold, and the profile says the default
pub record DefaultDecides (profile : Profile) (call : Record) : Type 0 where
  pub part : Part
  pub of : part_for profile call.arch ≡ Some part
  pub none : (rule : Rule) → Contains part.rules rule → is_met profile.default call.nr (seen (is_narrow part call.nr) call) rule ≡ false
  pub says : said_by profile call ≡ profile.default

abbrev pub IsDeciderOf : Profile → Record → Decider → Type 0
IsDeciderOf profile call (Entry entry) = Decides profile call entry
IsDeciderOf profile call Default = DefaultDecides profile call
IsDeciderOf profile call NoCall = said_by profile call ≡ no_call
IsDeciderOf profile call Foreign = said_by profile call ≡ profile.bad

abbrev pub DecidersDecide : Type 0
DecidersDecide = (profile : Profile) (call : Record) → IsDeciderOf profile call (decider_by profile call)
