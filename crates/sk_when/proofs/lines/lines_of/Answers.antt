use Rattle.std.proofs.Common.{◌≤◌}
use Rattle.std.specs.List.{All}
use Rattle.sk_conditions.specs.Steps.{GoOneWay}
use Rattle.sk_show.specs.Lines.{first_told, end_told}
use Rattle.sk_show.proofs.Holding.{each_row}
use Rattle.sk_when.proofs.lines.lines_of.Goals as goal

pub show_all-requires : goal.show_all-requires
show_all-requires c = record {
  rising = each_row (λ row. row.first ≤ row.last) c.args.chain.now (first_told c.args.options.call) (end_told c.args.options.call) c.in_ok-rows.rows.items c.in_ok-rows.ensures.rows
      (λ row above rises below holds. rises);
}

pub returns-clause-one_way : goal.returns-clause-one_way
returns-clause-one_way c = λ never.
    c.show_all.ensures.one_way
    (each_row (λ row. All (GoOneWay row.first row.last) c.args.chain.now) c.args.chain.now (first_told c.args.options.call) (end_told c.args.options.call)
    c.in_ok-rows.rows.items c.in_ok-rows.ensures.rows (λ row above rises below holds. never row.first row.last above rises below))
