use Rattle.std.proofs.Common.{◌≡◌, length}
use Rattle.std.specs.Prelude.{IsTrue}
use Rattle.sk_names.specs.Names.{name_in}
use Rattle.sk_names.specs.Numbers.{runs_in, are_apart}
use Rattle.sk_names.proofs.runs.name_in.Given as goal

abbrev pub invariant-loop-run : goal.invariant-loop-run
invariant-loop-run l = record {
  same : name_in (runs_in l.table) l.nr ≡ name_in (runs_in l.rest) l.nr;
  apart : IsTrue (are_apart 0 (runs_in l.rest));
}

abbrev pub decreases-loop-run : goal.decreases-loop-run
decreases-loop-run l = length (runs_in l.rest)
