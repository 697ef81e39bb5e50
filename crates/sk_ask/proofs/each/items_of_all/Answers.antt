use Rattle.sk_ask.proofs.Told.{goes_on, is_whole}
use Rattle.sk_ask.proofs.each.items_of_all.Goals as goal

pub loop-nr-preserved : goal.loop-nr-preserved
loop-nr-preserved g c =
    goes_on (g.T.OfCall.tells c.args.it.now) c.loop-nr.rest.now c.in-Some.left.now c.args.calls.now c.in-Some.nr.now c.loop-nr.items.items _ _
    c.in-Some.ensures.cases.0 c.in_ok-append.ensures.items c.in_ok-first.ensures.told c.loop-nr.invariant

pub returns : goal.returns
returns g c = record { told = is_whole (g.T.OfCall.tells c.args.it.now) c.loop-nr.rest.now _ _ c.in_default.ensures.cases c.loop-nr.invariant }
