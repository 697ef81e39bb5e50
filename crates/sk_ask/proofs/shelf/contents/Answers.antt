use Rattle.sk_ask.proofs.Among.{all_contents}
use Rattle.sk_ask.proofs.shelf.contents.Goals as goal

pub returns-clause-contents : goal.returns-clause-contents
returns-clause-contents g c = all_contents _ _ _ c.loop-name.rest.now _ _ c.in_default.ensures.cases c.loop-name.invariant.so_far
