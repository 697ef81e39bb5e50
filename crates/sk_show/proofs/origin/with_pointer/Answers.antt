use Rattle.std.proofs.Common.{sym, subst, arith}
use Rattle.sk_show.specs.Origins.{HasWord}
use Rattle.sk_show.proofs.OtherWords.{pointer_word}
use Rattle.sk_show.proofs.origin.with_pointer.Goals as goal

pub returns-clause-word : goal.returns-clause-word
returns-clause-word c =
    let call = c.args.call.now in
    let place = c.args.place in
    let word = c.args.word in
    subst (λ ip. HasWord call place word (record call { ip = ip })) (sym c.with_half-ip.ensures.half)
    (pointer_word call place word c.requires.place (let fits = c.ranges.word.fits in omega arith) (omega arith) (omega arith))
