use Rattle.std.proofs.Common.{◌≡◌, ◌+◌, ◌≤◌, length, map}
use Rattle.sk_ask.specs.Filters.{with_files, filters_in}
use Rattle.sk_ask.specs.Finding.{filters_of}
use Rattle.sk_ask.proofs.files.find.Given as goal

abbrev pub invariant-loop-file : goal.invariant-loop-file
invariant-loop-file l = record {
  count : l.number + length l.rest ≤ length l.files;
  so_far : with_files l.number (filters_of l.found) (map (λ file. file.items) l.rest) ≡ filters_in (map (λ file. file.items) l.files);
}

abbrev pub decreases-loop-file : goal.decreases-loop-file
decreases-loop-file l = length l.rest
