use Rattle.std.proofs.Common.{◌≡◌, ◌++◌, length}
use Rattle.std.specs.Prelude.{IsTrue}
use Rattle.sk_names.specs.Numbers.{runs_in, numbers_in, are_apart}
use Rattle.sk_names.proofs.runs.numbers_in.Given as goal

abbrev pub invariant-loop-run : goal.invariant-loop-run
invariant-loop-run l = record {
  so_far : l.numbers.items ++ numbers_in l.base (runs_in l.rest) ≡ numbers_in l.base (runs_in l.table);
  apart : IsTrue (are_apart 0 (runs_in l.rest));
}

abbrev pub decreases-loop-run : goal.decreases-loop-run
decreases-loop-run l = length (runs_in l.rest)
