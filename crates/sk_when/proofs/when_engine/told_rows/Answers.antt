use Rattle.std.specs.List.{All}
use Rattle.sk_conditions.specs.Steps.{GoOneWay}
use Rattle.sk_show.specs.Lines.{first_told, end_told}
use Rattle.sk_show.proofs.Holding.{each_row}
use Rattle.sk_when.specs.Telling.{IsSurveyed}
use Rattle.sk_when.proofs.when_engine.told_rows.Goals as goal

pub tell_all-requires : goal.tell_all-requires
tell_all-requires c = record {
  holds = each_row (IsSurveyed c.args.chain.now) c.args.chain.now (first_told c.args.call) (end_told c.args.call) c.in_ok-rows.rows.items c.in_ok-rows.ensures.rows
      (λ row above rises below holds. (rises, holds.among));
}

pub returns-clause-one_way : goal.returns-clause-one_way
returns-clause-one_way c = λ never.
    c.tell_all.ensures.one_way
    (each_row (λ row. All (GoOneWay row.first row.last) c.args.chain.now) c.args.chain.now (first_told c.args.call) (end_told c.args.call)
    c.in_ok-rows.rows.items c.in_ok-rows.ensures.rows (λ row above rises below holds. never row.first row.last above rises below))
