use Rattle.std.proofs.Common.{sym}
use Rattle.sk_forms.proofs.Putting.{turn, refused}
use Rattle.sk_forms.proofs.rows.rows.Goals as goal

pub returns-in_default : goal.returns-in_default
returns-in_default c =
    record { exact = refused c.args.form c.loop-place.place c.args.count c.loop-place.rest.now c.loop-place.insns.items _ c.loop-place-test.true (sym c.in_default.ensures.row) c.loop-place.invariant }

pub loop-place-preserved : goal.loop-place-preserved
loop-place-preserved c =
    turn c.args.form c.loop-place.place c.args.count c.loop-place.rest.now c.in-Some.next.now c.in-Some.insn c.loop-place.insns.items c.push.new.self.items _
    c.loop-place-test.true (sym c.in-Some.ensures.row) c.in_ok-push.ensures.items c.loop-place.invariant
