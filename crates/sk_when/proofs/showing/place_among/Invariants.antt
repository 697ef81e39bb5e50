use Rattle.std.proofs.Common.{◌≡◌, ◌+◌, ◌*◌, ◌≤◌, false, take}
use Rattle.std.specs.List.{list_any}
use Rattle.sk_terms.specs.Lines.{meets_line}
use Rattle.sk_when.proofs.showing.place_among.Given as goal

abbrev pub invariant-loop-at : goal.invariant-loop-at
invariant-loop-at l = record {
  none : list_any (λ call. meets_line l.line call) (take l.at l.calls) ≡ false;
  left : l.budget.steps ≤ l.initial.budget.steps;
  few : l.initial.budget.steps ≤ l.budget.steps + 64 * l.at;
}
