use Rattle.std.proofs.Common.{◌≡◌, ◌≤◌, ◌++◌, false, map}
use Rattle.std.specs.List.{All}
use Rattle.sk_conditions.specs.Followed.{AreFollowed}
use Rattle.sk_conditions.specs.Steps.{GoOneWay}
use Rattle.sk_show.specs.Lines.{row_of, Shows}
use Rattle.sk_when.specs.Verdicts.{ShowsEach}
use Rattle.sk_when.proofs.lines.show_all.Given as goal

abbrev pub invariant-loop-row : goal.invariant-loop-row
invariant-loop-row l = record {
  rows : map row_of l.lines.items ++ l.row-iterator.rest.items ≡ l.initial.row-iterator.rest.items;
  shows : All (λ line. Shows l.chain l.examples line.row line.shown.items) l.lines.items;
  each : All AreFollowed l.chain → l.budgets.is_spent ≡ false → All (ShowsEach l.chain) l.lines.items;
  one_way : All (λ row. All (GoOneWay row.first row.last) l.chain) l.initial.row-iterator.rest.items
      → All (λ row. All (GoOneWay row.first row.last) l.chain) l.row-iterator.rest.items × (l.initial.budgets.is_spent ≡ false → l.budgets.is_spent ≡ false);
  rest : All (λ row. row.first ≤ row.last) l.row-iterator.rest.items;
}
