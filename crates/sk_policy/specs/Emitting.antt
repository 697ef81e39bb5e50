-- The instructions of rules.
use Rattle.std.specs.Prelude.{ℕ, ◌≡◌, ◌+◌, ◌≤◌, ◌==◌, ◌&&◌, length, Bool, List, [], ◌∷◌, ◌++◌}
use Rattle.sk_insn.specs.declared.insn.Insn.{Insn}
use Rattle.sk_insn.specs.declared.record.Record.{Record}
use Rattle.sk_filter.specs.Meaning.{State}
use Rattle.sk_profile.proofs.Fitting.{Fit, EndsWithAnswer}
use Rattle.sk_profile.proofs.Steps.{Comes}
use Rattle.sk_policy.specs.declared.policy.Rule.{Rule}
use Rattle.sk_policy.specs.Policies.{says, IsWhole}

-- the rule says what is said without it, as is seen without asking for an argument
abbrev pub adds_nothing : ℕ → Rule → Bool
adds_nothing default rule = (length rule.cases.items == 0) && (rule.otherwise == default)

-- the rule begins one number behind another, and says what that one says, as is seen without asking for an argument
abbrev pub joins : Rule → Rule → Bool
joins rule next =
    (length rule.cases.items == 0) && ((length next.cases.items == 0) && ((rule.last + 1 == next.first) && (rule.otherwise == next.otherwise)))

-- so it is of each of these and the one before it
abbrev pub joins_all : Rule → List Rule → Bool
joins_all rule [] = length rule.cases.items == 0
joins_all rule (next ∷ rules) = joins rule next && joins_all next rules

-- the last number of rules
abbrev pub end_of : Rule → List Rule → ℕ
end_of rule [] = rule.last
end_of rule (next ∷ rules) = end_of next rules

-- instructions before those that stood there, which fit there and end with an answer, and come to what the rules say of each
-- call with one of these numbers
pub record Emits (old new : List Insn) (rules : List Rule) (default start end : ℕ) : Type 0 where
  pub front : List Insn
  pub code : new ≡ front ++ old
  pub fit : (behind : ℕ) → Fit behind front
  pub ends : EndsWithAnswer front
  pub means : (call : Record) → IsWhole call → start ≤ call.nr → call.nr ≤ end → (s : State) → s.a ≡ call.nr
      → Comes new 0 call s (says rules default call)
