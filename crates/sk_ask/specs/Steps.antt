-- The steps that `ask` gives to an analysis of chains.
use Rattle.std.specs.Prelude.{ℕ, Bool, IsTrue}

-- for all rows of `ask when`, or of `ask calls`, for the picture of one call, and for all rows of `ask diff` and of `ask lint`: a row of
-- numbers takes at most 2 ^ 23
abbrev pub when_steps : ℕ
when_steps = 16777216

abbrev pub picture_steps : ℕ
picture_steps = 67108864

abbrev pub diff_steps : ℕ
diff_steps = 33554432

abbrev pub lint_steps : ℕ
lint_steps = 33554432

-- steps were used up only if the analysis may use up so many; it is known of it which numbers these are
abbrev pub MayBeSpent : (ℕ → Bool) → ℕ → Bool → Type 0
MayBeSpent may_spend steps is_spent = IsTrue is_spent → IsTrue (may_spend steps)
