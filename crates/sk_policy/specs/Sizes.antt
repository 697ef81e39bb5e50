-- How many instructions the rules of a policy take at most.
use Rattle.std.specs.Prelude.{ℕ, ◌+◌, ◌*◌, nat_lt, if◌then◌else◌, List, [], ◌∷◌, length}
use Rattle.sk_terms.specs.declared.choices.Choice.{Choice}
use Rattle.sk_policy.specs.declared.cases.Case.{Case}
use Rattle.sk_policy.specs.declared.policy.Rule.{Rule}

-- 16 for each term, and a few more for each choice, case and rule
abbrev pub choice_most : Choice → ℕ
choice_most choice = 1 + 16 * length choice.terms.items

abbrev pub line_most : List Choice → ℕ
line_most [] = 1
line_most (choice ∷ choices) = choice_most choice + line_most choices

abbrev pub cases_most : List Case → ℕ
cases_most [] = 1
cases_most (first ∷ cases) = line_most first.choices.items + (1 + cases_most cases)

abbrev pub rules_most : List Rule → ℕ
rules_most [] = 0
rules_most (rule ∷ rules) = (5 + cases_most rule.cases.items) + rules_most rules

-- the numbers before the first rule take three more
abbrev pub gap_most : ℕ → List Rule → ℕ
gap_most start [] = 3
gap_most start (rule ∷ rules) = if nat_lt start rule.first then 3 else 0
