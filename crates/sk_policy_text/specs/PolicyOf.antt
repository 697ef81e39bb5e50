-- The policy of a text, and the faults of a whole text.
use Rattle.std.specs.Prelude.{ℕ, ◌≡◌, ◌≢◌, ◌+◌, ◌<◌, ◌≤◌, ◌^◌, List, [], All, None}
use Rattle.sk_insn.specs.declared.record.Record.{Record}
use Rattle.sk_names.specs.Architectures.{audit_of}
use Rattle.sk_policy.specs.declared.policy.Policy.{Policy}
use Rattle.sk_policy.specs.Policies.{said_by, AreApart, AreWithin, RuleThere, IsWhole}
use Rattle.sk_policy.specs.Sizes.{rules_most}
use Rattle.sk_policy_text.specs.declared.policy_fault.PolicyFault.{PolicyFault}
use Rattle.sk_policy_text.specs.declared.policy_fault.PolicyFault.TheVariants as fault
use Rattle.sk_policy_text.specs.declared.stated.Stated.{Stated}
use Rattle.sk_policy_text.specs.PolicyRows.{sentences_of, parts_of, times, cases_in, architecture_of, default_of, others_of}
use Rattle.sk_policy_text.specs.PolicySays.{Says, unnamed}
use Rattle.sk_policy_text.specs.PolicyFaults.{AreRight, IsFirstFault}
use Rattle.sk_policy_text.specs.PolicyRanges.{IsTwice, IsUnnamed}
use Rattle.sk_policy_text.specs.PolicySizes.{rules_bound}

-- no number stands in two rows, nor twice in one
abbrev pub AreOnce : List Stated → Type 0
AreOnce text = (nr : ℕ) → times (parts_of text) nr ≤ 1

-- such a text says one thing of a call
abbrev pub SayOne : Type 0
SayOne =
    (text : List Stated) (call : Record) (one other : ℕ) → IsWhole call → AreOnce text → Says text call one → Says text call other
    → one ≡ other

-- each number has a verdict
abbrev pub AreNamed : List Stated → Type 0
AreNamed text = (nr : ℕ) → nr < 2 ^ 32 → times (parts_of text) nr ≡ 0 → unnamed text nr ≢ None

-- the policy says of each call what the text says, and takes no more instructions than the text bounds
pub record IsPolicyOf (text : List Stated) (policy : Policy) : Type 0 where
  pub right : AreRight [] text
  pub once : AreOnce text
  pub named : AreNamed text
  pub few : cases_in (parts_of text) ≤ 4096
  pub audit : policy.audit ≡ audit_of (architecture_of (sentences_of text))
  pub others : policy.others ≡ others_of (sentences_of text)
  pub apart : AreApart policy.rules.items
  pub within : AreWithin 0 0xffffffff policy.rules.items
  pub there : All RuleThere policy.rules.items
  pub size : rules_most policy.rules.items ≤ rules_bound text
  pub says : (call : Record) → IsWhole call → Says text call (said_by policy call)

-- the least number that has no verdict
pub record IsMissing (text : List Stated) (nr : ℕ) : Type 0 where
  pub default : default_of (sentences_of text) ≡ None
  pub inside : nr < 2 ^ 32
  pub unnamed : IsUnnamed (architecture_of (sentences_of text)) (parts_of text) nr

-- the first fault of a text: of its sentences, and behind them of the whole
abbrev pub IsFaultOf : List Stated → PolicyFault → Type 0
IsFaultOf text (fault.Wrong line why) = IsFirstFault [] text line why
IsFaultOf text (fault.Twice it) = AreRight [] text × IsTwice (parts_of text) it
IsFaultOf text (fault.Missing nr) = AreRight [] text × AreOnce text × IsMissing text nr
IsFaultOf text fault.TooLong = AreRight [] text × AreOnce text × AreNamed text × (4096 < rules_bound text + 5)
IsFaultOf text fault.Memory = Unit {0}
