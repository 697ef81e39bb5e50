use Rattle.std.proofs.Common.{arith, refl}
use Rattle.sk_text.proofs.Cuts.{length_lines_of}
use Rattle.sk_policy_text.proofs.reading.words_in.Goals as goal

pub loop-line-init : goal.loop-line-init
loop-line-init c = record {
  few = rw c.into_iter-line-iterator.ensures.into_iter_gives (let few = length_lines_of c.args.text.now in omega (arith, few));
  words = rw (c.into_iter-line-iterator.ensures.into_iter_gives, c.new-words.ensures.items) refl;
}
