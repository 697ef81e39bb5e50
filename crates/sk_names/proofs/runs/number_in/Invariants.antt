use Rattle.std.proofs.Common.{◌≡◌, length}
use Rattle.std.specs.Prelude.{IsTrue}
use Rattle.sk_names.specs.Names.{number_in}
use Rattle.sk_names.specs.Numbers.{runs_in, are_apart}
use Rattle.sk_names.proofs.runs.number_in.Given as goal

abbrev pub invariant-loop-run : goal.invariant-loop-run
invariant-loop-run l = record {
  same : number_in (runs_in l.table) l.wanted ≡ number_in (runs_in l.rest) l.wanted;
  apart : IsTrue (are_apart 0 (runs_in l.rest));
}

abbrev pub decreases-loop-run : goal.decreases-loop-run
decreases-loop-run l = length (runs_in l.rest)
