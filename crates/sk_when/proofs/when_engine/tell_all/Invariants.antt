use Rattle.std.proofs.Common.{◌≡◌, ◌++◌, false, map}
use Rattle.std.specs.List.{All}
use Rattle.sk_conditions.specs.Followed.{AreFollowed}
use Rattle.sk_conditions.specs.Steps.{GoOneWay}
use Rattle.sk_when.specs.Lines.{IsExact, IsMet, IsTold}
use Rattle.sk_when.specs.Telling.{IsSurveyed, row_told}
use Rattle.sk_when.proofs.when_engine.tell_all.Given as goal

abbrev pub invariant-loop-row : goal.invariant-loop-row
invariant-loop-row l = record {
  rows : map row_told l.told.items ++ l.row-iterator.rest.items ≡ l.initial.row-iterator.rest.items;
  told : All (IsTold l.chain) l.told.items;
  met : All (IsMet l.chain) l.told.items;
  exact : All AreFollowed l.chain → l.budgets.is_spent ≡ false → All (IsExact l.chain) l.told.items;
  one_way : All (λ row. All (GoOneWay row.first row.last) l.chain) l.initial.row-iterator.rest.items
      → All (λ row. All (GoOneWay row.first row.last) l.chain) l.row-iterator.rest.items × (l.initial.budgets.is_spent ≡ false → l.budgets.is_spent ≡ false);
  rest : All (IsSurveyed l.chain) l.row-iterator.rest.items;
}
