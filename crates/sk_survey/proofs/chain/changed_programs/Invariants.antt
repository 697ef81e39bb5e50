use Rattle.std.proofs.Common.{◌≡◌, ◌++◌}
use Rattle.sk_survey.specs.Changes.{all_changed}
use Rattle.sk_survey.proofs.chain.changed_programs.Given as goal

-- the filters that are there, and those of the rest
abbrev pub invariant-loop-program : goal.invariant-loop-program
invariant-loop-program l = l.programs.items ++ all_changed l.change l.program-iterator ≡ all_changed l.change l.chain
