use Rattle.std.proofs.Common.{◌<◌, length}
use Rattle.std.specs.List.{All}
use Rattle.sk_terms.specs.Lines.{IsValueOf}
use Rattle.sk_terms.proofs.choice.heaviest.Given as goal

abbrev pub invariant-loop-line : goal.invariant-loop-line
invariant-loop-line l = record {
  values : All (λ weight. IsValueOf l.lines weight.value) l.weights.items;
  some : 0 < l.line-index → 0 < length l.weights.items;
}
