use Rattle.std.proofs.Common.{rules, ◌-◌, ◌/◌, set, refl, sym, subst, arith}
use Rattle.sk_show.specs.Origins.{HasWord}
use Rattle.sk_show.proofs.OtherWords.{argument_word}
use Rattle.sk_show.proofs.origin.with_argument.Goals as goal

pub returns-clause-word : goal.returns-clause-word
returns-clause-word c =
    λ aligned.
    let call = c.args.call.now in
    let place = c.args.place in
    let word = c.args.word in
    let n = (place - 16) / 8 in
    let below = c.requires.below in
    subst (λ number. HasWord call place word (record call { args = set call.args n number })) (sym c.with_half.ensures.half)
    (argument_word call place word n aligned c.requires.above (omega arith) refl (let fits = c.ranges.word.fits in omega arith) (search rules) (omega arith))
