use Rattle.std.proofs.Common.{◌≡◌, ◌+◌, ◌-◌, ◌≤◌, ℕ, get_or, arith, subst}
use Rattle.std.proofs.lemmas.List.Elements.{All-from_get_or}
use Rattle.sk_survey.proofs.Cutting.{passed_more}
use Rattle.sk_conditions.specs.declared.numbers.Numbers.{Numbers}
use Rattle.sk_when.specs.Pieces.{AreCompared}
use Rattle.sk_when.proofs.Alone.{named_before}
use Rattle.sk_when.proofs.pieces.push_pieces.Goals as goal
use Rattle.sk_when.proofs.pieces.push_pieces.Goals.{then-first-beginning+in_ok-push_piece, else-first-beginning}

pub loop-beginning-preserved : goal.loop-beginning-preserved
loop-beginning-preserved c =
    let chains = c.args.chains in
    let a = c.args.architecture in
    let cuts = c.args.beginnings.now in
    let i = c.loop-beginning.beginning-index in
    let cut = get_or cuts i 0 in
    let first = c.loop-beginning.first in
    let so_far = c.loop-beginning.invariant in
    let fits = c.type_inv.beginnings i in
    elim c.if-first-beginning.branch [
      | then-first-beginning+in_ok-push_piece w ↦
          let less = w.if-first-beginning.true in
          let numbers : Numbers = record { first = first; last = cut - 1 } in
          let next : cut - 1 + 1 ≡ cut = omega arith in
          let pushed = w.in_ok-push_piece.ensures in
          rw (w.pieces-is, w.first-is, w.budgets-is) (record {
            compared = subst (λ (n : ℕ). AreCompared chains.relation chains.old.now chains.new.now 0 n w.push_piece.new.pieces.items) next
                (pushed.compared 0 so_far.compared);
            fits = omega arith;
            passed = passed_more cuts i first cut so_far.passed (omega arith) (omega arith);
            alone = pushed.alone 0 so_far.compared so_far.alone
                (named_before a cuts numbers i c.requires.rising c.requires.round c.loop-beginning-test.true so_far.passed (omega arith) (omega arith));
            decided = λ follows follows' unspent. pushed.decided follows follows' (so_far.decided follows follows') unspent;
            one_way = λ never never' fresh.
                w.push_piece.ensures.one_way (never first (cut - 1) (omega arith) (omega (arith, less)) (omega (arith, fits)), never' first (cut - 1) (omega arith) (omega (arith, less)) (omega (arith, fits)))
                (so_far.one_way never never' fresh);
            same = λ is. pushed.same is (so_far.same is);
          })
      | else-first-beginning w ↦ rw (w.pieces-is, w.first-is, w.budgets-is) (record {
        compared = so_far.compared;
        fits = so_far.fits;
        passed = passed_more cuts i first first so_far.passed (omega arith) w.if-first-beginning.false;
        alone = so_far.alone;
        decided = so_far.decided;
        one_way = so_far.one_way;
        same = so_far.same;
      })
    ]

pub returns-clause-passed : goal.returns-clause-passed
returns-clause-passed c =
    All-from_get_or (λ beginning. beginning ≤ c.loop-beginning.first) c.args.beginnings.now 0 (λ k inside. c.loop-beginning.invariant.passed k (omega arith))

pub returns-in_err-push_piece-clause-one_way : goal.returns-in_err-push_piece-clause-one_way
returns-in_err-push_piece-clause-one_way c = λ never never' fresh.
    let first = c.loop-beginning.first in
    let cut = get_or c.args.beginnings.now c.loop-beginning.beginning-index 0 in
    let fits = c.type_inv.beginnings c.loop-beginning.beginning-index in
    let less = c.if-first-beginning.true in
    c.push_piece.ensures.one_way (never first (cut - 1) (omega arith) (omega (arith, less)) (omega (arith, fits)), never' first (cut - 1) (omega arith) (omega (arith, less)) (omega (arith, fits)))
    (c.loop-beginning.invariant.one_way never never' fresh)
