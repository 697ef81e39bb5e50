-- What a policy says of a call.
use Rattle.std.specs.Prelude.{ℕ, ◌≡◌, ◌≢◌, ◌≤◌, ◌<◌, ◌^◌, ◌&&◌, nat_le, Bool, if◌then◌else◌, List, [], ◌∷◌, All}
use Rattle.sk_insn.specs.declared.insn.Insn.{Insn}
use Rattle.sk_insn.specs.declared.record.Record.{Record}
use Rattle.sk_filter.specs.Meaning.{meaning_of}
use Rattle.sk_profile.specs.Means.{IsCall, Gives}
use Rattle.sk_terms.specs.declared.choices.Choice.{Choice}
use Rattle.sk_terms.specs.declared.term.Register.{Register}
use Rattle.sk_terms.specs.declared.term.Register.TheVariants.{Number, Pointer, Argument}
use Rattle.sk_terms.specs.declared.term.Term.{Term}
use Rattle.sk_terms.specs.Lines.{meets_choices}
use Rattle.sk_policy.specs.declared.cases.Case.{Case}
use Rattle.sk_policy.specs.declared.policy.Policy.{Policy}
use Rattle.sk_policy.specs.declared.policy.Rule.{Rule}

-- what cases say of a call, and of one that meets none of them
abbrev pub said : List Case → ℕ → Record → ℕ
said [] otherwise call = otherwise
said (first ∷ cases) otherwise call = if meets_choices first.choices.items call then first.value else said cases otherwise call

-- the rule is for the calls with a number
abbrev pub is_for : Rule → ℕ → Bool
is_for rule nr = nat_le rule.first nr && nat_le nr rule.last

-- what the first rule says that is for a call, and else the default
abbrev pub says : List Rule → ℕ → Record → ℕ
says [] default call = default
says (rule ∷ rules) default call =
    if is_for rule call.nr then said rule.cases.items rule.otherwise call else says rules default call

abbrev pub said_by : Policy → Record → ℕ
said_by policy call = says policy.rules.items policy.default call

-- ---- rules

-- they are in the order of their numbers, and no number is in two of them: so which rule is asked first does not matter
abbrev pub AreApart : List Rule → Type 0
AreApart [] = Unit {0}
AreApart (rule ∷ rules) = (rule.first ≤ rule.last) × All (λ (other : Rule). rule.last < other.first) rules × AreApart rules

-- their numbers are among these
abbrev pub AreWithin : ℕ → ℕ → List Rule → Type 0
AreWithin start end rules = All (λ (rule : Rule). (start ≤ rule.first) × (rule.last ≤ end)) rules

-- a register that a call has: struct seccomp_data of seccomp(2) has six arguments
abbrev pub IsThere : Register → Type 0
IsThere Number = Unit {0}
IsThere Pointer = Unit {0}
IsThere (Argument i) = i < 6

abbrev pub AsksThere : Term → Type 0
AsksThere term = IsThere term.register

abbrev pub AllThere : List Choice → Type 0
AllThere choices = All (λ (choice : Choice). All AsksThere choice.terms.items) choices

abbrev pub CaseThere : Case → Type 0
CaseThere it = AllThere it.choices.items

abbrev pub RuleThere : Rule → Type 0
RuleThere rule = All CaseThere rule.cases.items

-- ---- filters

-- a call as the machine makes one, its instruction pointer too
pub record IsWhole (call : Record) : Type 0 where
  pub is_call : IsCall call
  pub pointer : call.ip < 2 ^ 64

-- a filter answers to every call of the policy's architecture what the policy says
abbrev pub MeansPolicy : List Insn → Policy → Type 0
MeansPolicy insns policy =
    (call : Record) → IsWhole call → call.arch ≡ policy.audit → Gives (said_by policy call) (meaning_of insns call)

-- and to every call of another architecture the value for others
abbrev pub AnswersOthers : List Insn → Policy → Type 0
AnswersOthers insns policy =
    (call : Record) → call.arch < 2 ^ 32 → call.arch ≢ policy.audit → Gives policy.others (meaning_of insns call)
