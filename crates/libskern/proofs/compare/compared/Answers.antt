use Rattle.std.proofs.Common.{◌≡◌, ◌+◌, ◌-◌, ℕ, get_or, arith, subst}
use Rattle.libskern.specs.Comparing.{IsFound}
use Rattle.libskern.proofs.compare.compared.Goals as goal
use Rattle.libskern.proofs.compare.compared.Goals.{then-first-beginning+in_ok-found+in_default, else-first-beginning}

pub returns-in_err-found-clause-one_way : goal.returns-in_err-found-clause-one_way
returns-in_err-found-clause-one_way c = λ never never' fresh.
    let less = c.if-first-beginning.true in
    c.with_row.ensures.one_way (never _ _ (omega arith) (omega (arith, less)) (omega arith), never' _ _ (omega arith) (omega (arith, less)) (omega arith))
    (c.loop-beginning.invariant.one_way never never' fresh)

pub returns-in-Fails-clause-one_way : goal.returns-in-Fails-clause-one_way
returns-in-Fails-clause-one_way c = λ never never' fresh.
    let less = c.if-first-beginning.true in
    c.with_row.ensures.one_way (never _ _ (omega arith) (omega (arith, less)) (omega arith), never' _ _ (omega arith) (omega (arith, less)) (omega arith))
    (c.loop-beginning.invariant.one_way never never' fresh)

pub loop-beginning-preserved : goal.loop-beginning-preserved
loop-beginning-preserved c =
    let so_far = c.loop-beginning.invariant in
    let fits = c.type_inv.beginning-items c.loop-beginning.beginning-index in
    elim c.if-first-beginning.branch [
      | then-first-beginning+in_ok-found+in_default w ↦
          let less = w.if-first-beginning.true in
          let cut = get_or c.deref-beginning-items.result.now c.loop-beginning.beginning-index 0 in
          let next : cut - 1 + 1 ≡ cut = omega (arith, less) in
          let found = w.in_ok-found.ensures in
          rw (w.budgets-is, w.found-is, w.first-is) (record {
            fits = omega (arith, fits);
            found = subst (λ (n : ℕ). IsFound c.args.relation c.args.old.now c.args.new.now 0 n w.in_ok-found.found) next found.found;
            decided = λ follows follows' unspent. found.decided (so_far.decided follows follows' (w.with_row.ensures.spent unspent)) follows follows' unspent;
            one_way = λ never never' fresh.
                w.with_row.ensures.one_way (never _ _ (omega arith) (omega (arith, less)) (omega (arith, fits)), never' _ _ (omega arith) (omega (arith, less)) (omega (arith, fits)))
                (so_far.one_way never never' fresh);
          })
      | else-first-beginning w ↦ rw (w.budgets-is, w.found-is, w.first-is) so_far
    ]

pub returns-clause-one_way : goal.returns-clause-one_way
returns-clause-one_way c = λ never never' fresh.
    let so_far = c.loop-beginning.invariant in
    c.with_row-2.ensures.one_way (never _ _ (omega arith) (omega (arith, so_far.fits)) (omega arith), never' _ _ (omega arith) (omega (arith, so_far.fits)) (omega arith))
    (so_far.one_way never never' fresh)
