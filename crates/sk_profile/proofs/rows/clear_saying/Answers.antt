use Rattle.sk_profile.specs.CodeViews.{saying_of}
use Rattle.sk_profile.specs.Views.{part_of}
use Rattle.sk_profile.proofs.Clearing.{clash_in, has_entry}
use Rattle.sk_profile.proofs.rows.clear_saying.Goals as goal

pub clash_of-requires-clause-first : goal.clash_of-requires-clause-first
clash_of-requires-clause-first c =
    let clash = c.in-Some.ensures.clash in
    has_entry c.args.default c.args.bad (part_of c.args.part.now) c.args.nr c.in-Some.it.first (saying_of c.in_ok-said.said) clash.one c.in_ok-said.ensures.saying clash.at_first

pub clash_of-requires-clause-second : goal.clash_of-requires-clause-second
clash_of-requires-clause-second c =
    let clash = c.in-Some.ensures.clash in
    has_entry c.args.default c.args.bad (part_of c.args.part.now) c.args.nr c.in-Some.it.second (saying_of c.in_ok-said.said) clash.other c.in_ok-said.ensures.saying clash.at_second

pub returns-in-Some-clause-fault : goal.returns-in-Some-clause-fault
returns-in-Some-clause-fault c =
    let entries = c.clash_of.ensures in
    clash_in c.args.default c.args.bad (part_of c.args.part.now) (saying_of c.in_ok-said.said) c.in-Some.it c.args.nr c.clash_of.result c.in_ok-said.ensures.saying entries.arch entries.number entries.args
    c.in-Some.ensures.clash entries.first entries.second
