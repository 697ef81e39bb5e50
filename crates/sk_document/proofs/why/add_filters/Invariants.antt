use Rattle.std.proofs.Common.{◌≡◌, ◌++◌, length}
use Rattle.sk_document.specs.WhyDocument.{filter_paths}
use Rattle.sk_document.proofs.why.add_filters.Given as goal

-- the filters that are left are to come
abbrev pub invariant-loop-program : goal.invariant-loop-program
invariant-loop-program l = record {
  older : l.older ≡ length l.program-iterator;
  added : l.to ++ filter_paths l.program-iterator l.call ≡ l.initial.to ++ filter_paths l.chain l.call;
}
