use Rattle.std.proofs.Common.{ap, length, arith}
use Rattle.std.proofs.lemmas.Result.{err_from_is_err_and}
use Rattle.sk_asm.specs.Seeing.{seen}
use Rattle.sk_asm.proofs.Blocks.{length-lines_in}
use Rattle.sk_asm.proofs.Turns.{labelled-unchecked, labelled-unnoted, labelled-turn, labelled-end, found-taken, found-among, found-end}
use Rattle.sk_asm.proofs.passes.find.Goals as goal

pub overflow_add-n : goal.overflow_add-n
overflow_add-n c =
    let some = ap length c.in-Some.ensures.next in
    let lines = length-lines_in c.args.is_block c.args.text.now in
    omega (arith, some, lines, c.loop-line.invariant.all, c.requires.numbers)

pub returns-in_err-said : goal.returns-in_err-said
returns-in_err-said c =
    let p = err_from_is_err_and c.from_residual.result c.from_residual.ensures.1 in
    record {
      labels = rw (p.1, p.2) (labelled-unchecked _ _ _ _ _ _ _ c.in-Some.ensures.next c.loop-line.invariant.so_far c.in_err-said.field-0.0 c.in_err-said.ensures.exact);
      among = rw p.1 tt;
      insns = rw p.1 tt;
    }

pub returns-in_err-at : goal.returns-in_err-at
returns-in_err-at c =
    let p = err_from_is_err_and c.from_residual-in_err-at.result c.from_residual-in_err-at.ensures.1 in
    record {
      labels = rw (p.1, p.2) (labelled-unnoted _ _ _ _ _ _ _ c.in-Some.ensures.next c.loop-line.invariant.so_far _ c.in_err-at.field-0.0 c.in_ok-said.ensures.exact c.in_err-at.ensures.taken);
      among = rw p.1 tt;
      insns = rw p.1 tt;
    }

pub loop-line-preserved : goal.loop-line-preserved
loop-line-preserved c =
    let shorter = ap length c.in-Some.ensures.next in
    record {
      all = omega (arith, shorter, c.loop-line.invariant.all);
      so_far = labelled-turn _ _ _ _ _ _ _ c.in-Some.ensures.next c.loop-line.invariant.so_far _ _ _ c.in_ok-said.ensures.exact c.in_ok-at.ensures.taken.0;
      so_many = found-taken _ _ _ _ _ _ _ _ (seen c.loop-line.found) _ _ c.in-Some.ensures.next c.loop-line.invariant.so_many c.in_ok-said.ensures.exact c.in_ok-at.ensures.taken;
    }

pub returns : goal.returns
returns c =
    let none = c.in_default.ensures.next in
    record {
      labels = labelled-end _ _ _ _ _ none c.loop-line.invariant.so_far;
      among = found-among _ _ _ _ _ _ _ c.loop-line.invariant.so_many;
      insns = found-end _ _ _ _ _ _ _ none c.loop-line.invariant.so_many;
    }
