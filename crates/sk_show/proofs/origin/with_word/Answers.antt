use Rattle.std.proofs.Common.{sym, subst, arith}
use Rattle.sk_show.specs.Origins.{HasWord}
use Rattle.sk_show.proofs.OtherWords.{number_word}
use Rattle.sk_show.proofs.origin.with_word.Goals as goal

pub returns-in-0-clause-word : goal.returns-in-0-clause-word
returns-in-0-clause-word c =
    λ is.
    let call = c.args.call.now in
    let word = c.args.word in
    subst (λ place. HasWord call place word (record call { nr = word })) (sym c.in-0.is)
    (number_word call word (let fits = c.ranges.word.fits in omega arith) (omega arith))
