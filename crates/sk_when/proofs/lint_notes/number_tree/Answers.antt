use Rattle.std.proofs.Common.{◌∙◌, arith}
use Rattle.sk_conditions.proofs.Spending.{not_spent, spares}
use Rattle.sk_when.proofs.lint_notes.number_tree.Goals as goal

pub returns-clause-tells : goal.returns-clause-tells
returns-clause-tells c = record {
  tells = c.in_ok-tree.ensures.tells;
  all = λ all none. c.in_ok-tree.ensures.all all (not_spent _ _ _ c.put_back.ensures.spent none).1;
}

pub returns-clause-one_way : goal.returns-clause-one_way
returns-clause-one_way c = λ never fresh.
    let fits = c.ranges.nr.fits in
    let taken = c.in_ok-tree.ensures.one_way (never c.args.nr c.args.nr (omega arith) (omega arith) (omega (arith, fits))) in
    spares _ _ _ _ _ _ _ c.row-left.ensures.row taken (omega arith) c.put_back.ensures.spent (c.row-left.ensures.spent ∙ fresh)
