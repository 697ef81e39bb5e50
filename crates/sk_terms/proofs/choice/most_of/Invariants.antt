use Rattle.std.proofs.Common.{List}
use Rattle.std.specs.List.{All}
use Rattle.sk_terms.specs.declared.lines.Line.{Line}
use Rattle.sk_terms.specs.Lines.{IsValueOf}
use Rattle.sk_terms.proofs.choice.most_of.Given as goal

abbrev pub invariant-loop-weight : goal.invariant-loop-weight
invariant-loop-weight l = (lines : List Line) → All (λ weight. IsValueOf lines weight.value) l.weights → IsValueOf lines l.most.value
