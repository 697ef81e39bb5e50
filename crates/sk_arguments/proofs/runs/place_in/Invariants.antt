use Rattle.std.proofs.Common.{◌≡◌, length}
use Rattle.std.specs.Prelude.{IsTrue}
use Rattle.sk_arguments.specs.Runs.{follow, names_of_all}
use Rattle.sk_arguments.proofs.Following.{first_from, first_of}
use Rattle.sk_arguments.proofs.runs.place_in.Given as goal

abbrev pub invariant-loop-run : goal.invariant-loop-run
invariant-loop-run l = record {
  same : first_from l.wanted 0 (names_of_all l.text l.runs) ≡ first_from l.wanted (first_of l.rest) (names_of_all l.text l.rest);
  follow : IsTrue (follow l.text (first_of l.rest) l.rest);
}

abbrev pub decreases-loop-run : goal.decreases-loop-run
decreases-loop-run l = length l.rest
