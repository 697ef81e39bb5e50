use Rattle.std.proofs.Common.{◌≡◌, ◌+◌, ◌*◌, ◌/◌, ◌-◌, ◌<◌, ℕ, not, ap, sym, ◌∙◌, arith}
use Rattle.sk_arguments.specs.Reading.{kind_of, reads_lower, reads_upper, unread_places}
use Rattle.sk_survey.specs.Without.{is_among}
use Rattle.sk_survey.proofs.TakenCalls.{lower_there, upper_there}
use Rattle.sk_survey.proofs.taken.is_unread.Goals as goal

pub returns-then-place-eq0 : goal.returns-then-place-eq0
returns-then-place-eq0 c =
    let i : ℕ = (c.args.place - 16) / 8 in
    let above = c.requires.range in
    let below = c.requires.inside in
    let even = c.if-place-eq0.true in
    let inside : i < 6 = omega (arith, above, below) in
    let same : 16 + 8 * i ≡ c.args.place = omega (arith, above, below, even) in
    let there = lower_there c.args.nr i inside in
    let kind = c.kind_of-kind.ensures.kind in
    let lower = c.reads_lower.ensures.lower in
    let at : is_among (unread_places c.args.nr) c.args.place ≡ not (reads_lower (kind_of c.args.nr i)) =
    ap (is_among (unread_places c.args.nr)) (sym same) ∙ there in
    record { unread = ap not (lower ∙ ap reads_lower kind) ∙ sym at }

pub returns-else-place-eq0 : goal.returns-else-place-eq0
returns-else-place-eq0 c =
    let i : ℕ = (c.args.place - 16) / 8 in
    let above = c.requires.range in
    let below = c.requires.inside in
    let aligned = c.requires.aligned in
    let odd = c.if-place-eq0.false in
    let inside : i < 6 = omega (arith, above, below) in
    let same : 20 + 8 * i ≡ c.args.place = omega (arith, above, below, aligned, odd) in
    let there = upper_there c.args.nr i inside in
    let kind = c.kind_of-kind.ensures.kind in
    let upper = c.reads_upper.ensures.upper in
    let at : is_among (unread_places c.args.nr) c.args.place ≡ not (reads_upper (kind_of c.args.nr i)) =
    ap (is_among (unread_places c.args.nr)) (sym same) ∙ there in
    record { unread = ap not (upper ∙ ap reads_upper kind) ∙ sym at }
