-- The rules of a text's rows.
use Rattle.std.specs.Prelude.{ℕ, ◌≡◌, ◌≢◌, ◌⊎◌, ◌<◌, ◌≤◌, ◌+◌, ◌++◌, ◌&&◌, nat_le, if◌then◌else◌, List, ◌∷◌, All, Contains, None}
use Rattle.sk_insn.specs.declared.record.Record.{Record}
use Rattle.sk_names.specs.declared.architecture.Architecture.{Architecture}
use Rattle.sk_policy.specs.declared.policy.Rule.{Rule}
use Rattle.sk_policy.specs.Policies.{says, said, AreApart, AreWithin, RuleThere, IsWhole}
use Rattle.sk_policy_text.specs.declared.policy_fault.PolicyFault.{PolicyFault}
use Rattle.sk_policy_text.specs.declared.policy_fault.PolicyFault.TheVariants as fault
use Rattle.sk_policy_text.specs.declared.policy_fault.Wrong.{Wrong}
use Rattle.sk_policy_text.specs.declared.policy_fault.Wrong.TheVariants as wrong
use Rattle.sk_policy_text.specs.declared.sentence.Range.{Range}
use Rattle.sk_policy_text.specs.declared.sentence.Sentence.{Sentence}
use Rattle.sk_policy_text.specs.declared.stated.Stated.{Stated}
use Rattle.sk_policy_text.specs.PolicyRows.{Part, times, is_of_x32, sentences_of, else_below}
use Rattle.sk_policy_text.specs.PolicySays.{RowSays, SaysRow}
use Rattle.sk_policy_text.specs.PolicyFaults.{IsUnreadIn}
use Rattle.sk_policy_text.specs.PolicySizes.{parts_bound}

-- the verdict of a number that no row has, where there is a default
abbrev pub fallback : Architecture → ℕ → ℕ → ℕ → ℕ
fallback architecture others default nr = if is_of_x32 architecture nr then others else default

-- a range of all numbers of x32 from one to below another
pub record AreTheX32 (architecture : Architecture) (start end : ℕ) (range : Range) : Type 0 where
  pub some : range.first ≤ range.last
  pub from : start ≤ range.first
  pub to : range.last < end
  pub all : (nr : ℕ) → start ≤ nr → nr < end → (nat_le range.first nr && nat_le nr range.last) ≡ is_of_x32 architecture nr

-- rules of numbers that no row has, from one to below another
pub record IsGap (architecture : Architecture) (others start end : ℕ) (rules : List Rule) : Type 0 where
  pub apart : AreApart rules
  pub within : All (λ (rule : Rule). (start ≤ rule.first) × (rule.last < end)) rules
  pub there : All RuleThere rules
  pub says : (default : ℕ) (call : Record) → start ≤ call.nr → call.nr < end
      → says rules default call ≡ fallback architecture others default call.nr

-- they stand behind others
pub record AddsGap (architecture : Architecture) (others start end : ℕ) (old new : List Rule) : Type 0 where
  pub added : List Rule
  pub behind : new ≡ old ++ added
  pub gap : IsGap architecture others start end added

-- the rule of a range
pub record IsRuleOf (part : Part) (rule : Rule) : Type 0 where
  pub first : rule.first ≡ part.first
  pub last : rule.last ≡ part.last
  pub there : RuleThere rule
  pub says : (call : Record) → IsWhole call → SaysRow part.verdict (sentences_of part.behind) call (said rule.cases.items rule.otherwise call)

-- what the ranges say of a call, with a default
abbrev pub PartsSay : Architecture → ℕ → List Part → ℕ → Record → ℕ → Type 0
PartsSay architecture others parts default call value =
    RowSays parts call value ⊎ ((times parts call.nr ≡ 0) × (value ≡ fallback architecture others default call.nr))

pub record AreRulesOf (architecture : Architecture) (others : ℕ) (parts : List Part) (rules : List Rule) : Type 0 where
  pub apart : AreApart rules
  pub within : AreWithin 0 0xffffffff rules
  pub there : All RuleThere rules
  pub says : (default : ℕ) (call : Record) → IsWhole call → PartsSay architecture others parts default call (says rules default call)

-- a row without a verdict has `else`
abbrev pub HasElse : Part → Type 0
HasElse part = part.verdict ≡ None → else_below (sentences_of part.behind) ≢ None

-- ---- conditions that are not read

abbrev pub IsUnreadWrong : Sentence → Wrong → Type 0
IsUnreadWrong it (wrong.Unread why) = IsUnreadIn it why
IsUnreadWrong it (wrong.Misplaced why) = ⊥

pub record HasUnread (text : List Stated) (line : ℕ) (why : Wrong) : Type 0 where
  pub before : List Stated
  pub it : Stated
  pub behind : List Stated
  pub is : text ≡ before ++ (it ∷ behind)
  pub there : it.line ≡ line
  pub unread : IsUnreadWrong it.sentence why

abbrev pub IsUnreadBelow : List Stated → PolicyFault → Type 0
IsUnreadBelow text (fault.Wrong line why) = HasUnread text line why
IsUnreadBelow text fault.Memory = Unit {0}
IsUnreadBelow text other = ⊥

pub record HasUnreadAmong (parts : List Part) (line : ℕ) (why : Wrong) : Type 0 where
  pub part : Part
  pub there : Contains parts part
  pub unread : HasUnread part.behind line why

abbrev pub IsUnreadAmong : List Part → PolicyFault → Type 0
IsUnreadAmong parts (fault.Wrong line why) = HasUnreadAmong parts line why
IsUnreadAmong parts fault.Memory = Unit {0}
IsUnreadAmong parts other = ⊥

-- ranges that are given no rules: a condition is not read, or the rules may take more than the 4096 instructions that a filter has
abbrev pub AreUnruled : List Part → PolicyFault → Type 0
AreUnruled parts fault.TooLong = 4096 < parts_bound parts + 6
AreUnruled parts other = IsUnreadAmong parts other
