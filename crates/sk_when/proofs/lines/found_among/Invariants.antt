use Rattle.std.proofs.Common.{◌≡◌, map, take}
use Rattle.std.specs.List.{All}
use Rattle.sk_show.specs.Lines.{IsShown}
use Rattle.sk_when.specs.Verdicts.{HaveEachVerdict, IsShownOnceMet}
use Rattle.sk_when.proofs.lines.found_among.Given as goal

abbrev pub invariant-loop-value : goal.invariant-loop-value
invariant-loop-value l = record {
  values : map (λ it. it.value) l.shown.items ≡ take l.value-index l.values;
  found : All (IsShown l.chain l.row) l.shown.items;
  each : HaveEachVerdict l.chain l.row.first l.row.last l.judged → All (IsShownOnceMet l.chain l.row) l.shown.items;
}
