use Rattle.std.proofs.Common.{◌≡◌, ◌++◌, length}
use Rattle.sk_survey.proofs.chain.attached.Given as goal

-- the filters that wait, and behind them those that are attached, are all
abbrev pub invariant-loop-program : goal.invariant-loop-program
invariant-loop-program l = l.programs.items ++ l.chain ≡ l.fn.programs.items

abbrev pub decreases-loop-program : goal.decreases-loop-program
decreases-loop-program l = length l.programs.items
