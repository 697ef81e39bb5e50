-- What a profile says of a call: the object `seccomp` of the OCI runtime specification, config-linux.md, once its
-- names are numbers. The specification leaves open what happens where two rules fit one call; this is
-- seccomp_rule_add(3) where that is definite: a rule with the default's action is refused, and so a runtime leaves it
-- out; a rule without conditions goes before those with them; and of several without the first counts.
use Rattle.std.specs.Prelude.{ℕ, ◌/◌, ◌%◌, ◌^◌, ◌&&◌, ◌||◌, ◌==◌, not, nat_le, nat_lt, Bool, true, false, if◌then◌else◌, List, [], ◌∷◌, filter, find, map, Option, Some, None}
use Rattle.sk_insn.specs.declared.record.Record.{Record}
use Rattle.sk_profile.specs.declared.condition.Condition.{Condition}
use Rattle.sk_profile.specs.Sayings.{Arm, Saying, always, said}

-- `action` with its `errnoRet` as a filter's value, for one number of its `names`; and the number of the entry that says so
pub record Rule : Type 0 where
  pub number : ℕ
  pub conditions : List Condition
  pub value : ℕ
  pub entry : ℕ

-- the rules for the calls for which a filter is shown one number of linux/audit.h, in their order. Whether its registers
-- have 32 bits; whether the numbers of x32 are none of its calls; and, where runc has instructions of its own stand before
-- the filter, the greatest number that they know, and the greatest that has bit 30, 0 where there is none
pub record Part : Type 0 where
  pub audit : ℕ
  pub narrow : Bool
  pub without_x32 : Bool
  pub rules : List Rule
  pub top : ℕ
  pub x32_top : ℕ

-- a part for each architecture of a machine, `defaultAction` with `defaultErrnoRet`, and the value for what is no call of theirs
pub record Profile : Type 0 where
  pub parts : List Part
  pub default : ℕ
  pub bad : ℕ

abbrev pub has_none : List Condition → Bool
has_none [] = true
has_none (c ∷ conditions) = false

-- the rules for a number that say something else than the default, in their order: matchCall of
-- libcontainer/seccomp/seccomp_linux.go passes over the others
abbrev pub is_for : ℕ → ℕ → Rule → Bool
is_for default nr rule = rule.number == nr && not (rule.value == default)

-- the first of these that has no conditions
abbrev pub plain_rule : ℕ → List Rule → ℕ → Option Rule
plain_rule default rules nr = find (λ (rule : Rule). is_for default nr rule && has_none rule.conditions) rules

abbrev pub arm_of_rule : Rule → Arm
arm_of_rule rule = record { conditions = rule.conditions; value = rule.value }

abbrev pub rules_for : ℕ → List Rule → ℕ → List Rule
rules_for default rules nr = filter (is_for default nr) rules

abbrev pub arms_for : ℕ → List Rule → ℕ → List Arm
arms_for default rules nr = map arm_of_rule (rules_for default rules nr)

-- a rule without conditions, if there is one, and else those with them
abbrev pub settled : Bool → Option Rule → List Arm → ℕ → Saying
settled narrow (Some rule) arms default = always rule.value
settled narrow None [] default = always default
settled narrow None (arm ∷ arms) default = record { narrow = narrow; arms = arm ∷ arms; otherwise = default }

-- ---- x32, whose numbers are those of x86-64's calls from bit 30 on; -1, by which a tracer passes over a call, is none

abbrev pub is_x32 : ℕ → Bool
is_x32 nr = nat_le 0x40000000 nr && nat_lt nr 0xffffffff

-- its registers have 64 bits, and its calls take 32 of them
abbrev pub is_narrow : Part → ℕ → Bool
is_narrow part nr = part.narrow || nat_le 0x40000000 nr

abbrev pub saying_of_rules : Part → ℕ → ℕ → Saying
saying_of_rules part default nr =
    settled (is_narrow part nr) (plain_rule default part.rules nr) (arms_for default part.rules nr) default

-- ---- runc's stub: libcontainer/seccomp/patchbpf/enosys_linux.go

-- ERRNO with ENOSYS, 38: there is no such call (errno(3))
abbrev pub no_call : ℕ
no_call = 0x50026

-- it tells numbers of x32 by bit 30
abbrev pub has_x32_bit : ℕ → Bool
has_x32_bit nr = nr / 2 ^ 30 % 2 == 1

abbrev pub is_above : ℕ → ℕ → Bool
is_above top nr = nat_lt 0 top && nat_lt top nr

abbrev pub is_unknown : Part → ℕ → Bool
is_unknown part nr = is_above (if has_x32_bit nr then part.x32_top else part.top) nr

-- ---- all calls

abbrev pub saying_in_part : ℕ → ℕ → Part → ℕ → Saying
saying_in_part default bad part nr =
    if is_unknown part nr then always no_call
    else if part.without_x32 && is_x32 nr then always bad
    else saying_of_rules part default nr

abbrev pub part_for : Profile → ℕ → Option Part
part_for profile arch = find (λ (part : Part). part.audit == arch) profile.parts

abbrev pub saying_if : Profile → Option Part → ℕ → Saying
saying_if profile None nr = always profile.bad
saying_if profile (Some part) nr = saying_in_part profile.default profile.bad part nr

-- what the profile says of the calls of an architecture with a number
abbrev pub saying_for : Profile → ℕ → ℕ → Saying
saying_for profile arch nr = saying_if profile (part_for profile arch) nr

-- what it says of a call
abbrev pub said_by : Profile → Record → ℕ
said_by profile call = said (saying_for profile call.arch call.nr) call
