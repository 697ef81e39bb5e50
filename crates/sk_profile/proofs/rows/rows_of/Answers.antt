use Rattle.std.proofs.Common.{◌+◌, ◌<◌, arith, sym}
use Rattle.std.proofs.lemmas.List.Elements.{All-weaker}
use Rattle.sk_profile.specs.declared.saying.Row.{Row}
use Rattle.sk_profile.specs.Views.{part_of}
use Rattle.sk_profile.proofs.Between.{next_found}
use Rattle.sk_profile.proofs.Starts.{one_more_mark, all_said, all_clear, all_few}
use Rattle.sk_profile.proofs.rows.rows_of.Goals as goal

pub said_from-requires-clause-behind : goal.said_from-requires-clause-behind
said_from-requires-clause-behind c =
    let found = next_found (part_of c.args.part.now) c.loop-start.from c.in-Some.start (sym c.in-Some.ensures.mark) in
    All-weaker (λ (row : Row). row.start < c.loop-start.from + 1) (λ (row : Row). row.start < c.in-Some.start) (λ row below. omega (arith, below, found.0)) c.loop-start.rows.rows.items
    c.loop-start.invariant.start

pub loop-start-smaller : goal.loop-start-smaller
loop-start-smaller c =
    let found = next_found (part_of c.args.part.now) c.loop-start.from c.in-Some.start (sym c.in-Some.ensures.mark) in omega (arith, found.0, found.1)

pub loop-start-preserved : goal.loop-start-preserved
loop-start-preserved c =
    one_more_mark c.args.default c.args.bad (part_of c.args.part.now) c.loop-start.rows c.in_ok-rows.rows c.loop-start.from c.in-Some.start c.in_ok-said.said c.loop-start.invariant (sym c.in-Some.ensures.mark)
    c.in_ok-said.ensures.saying c.in_ok-said.ensures.clear c.in_ok-rows.ensures.says c.in_ok-rows.ensures.start c.in_ok-rows.ensures.few c.in_ok-rows.ensures.rows

pub returns-clause-clear : goal.returns-clause-clear
returns-clause-clear c =
    all_clear c.args.default c.args.bad (part_of c.args.part.now) c.loop-start.rows c.loop-start.from c.loop-start.invariant (sym c.in_default.ensures.mark)

pub returns-clause-says : goal.returns-clause-says
returns-clause-says c =
    all_said c.args.default c.args.bad (part_of c.args.part.now) c.loop-start.rows c.loop-start.from c.loop-start.invariant (sym c.in_default.ensures.mark)

pub returns-clause-few : goal.returns-clause-few
returns-clause-few c = all_few c.args.default c.args.bad (part_of c.args.part.now) c.loop-start.rows c.loop-start.from c.loop-start.invariant (sym c.in_default.ensures.mark)
