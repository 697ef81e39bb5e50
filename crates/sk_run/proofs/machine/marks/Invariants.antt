-- The loop of `marks`: the marks so far, and those of the programs that are left.
use Rattle.std.proofs.Common.{◌≡◌, ◌++◌, map, drop}
use Rattle.sk_run.specs.Scheduling.{mark_of_script}
use Rattle.sk_run.proofs.machine.marks.Given as goal

abbrev pub invariant-loop-program : goal.invariant-loop-program
invariant-loop-program l = record {
  so_far : l.marks.items ++ map mark_of_script (drop l.program-index l.programs) ≡ map mark_of_script l.programs;
}
