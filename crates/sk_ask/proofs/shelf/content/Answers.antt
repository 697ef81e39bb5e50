use Rattle.std.proofs.Common.{◌<◌, length, inr, arith, rules}
use Rattle.sk_ask.proofs.Wholes.{is_longer}
use Rattle.sk_ask.proofs.shelf.content.Goals as goal

pub returns-in-Ok-clause-unread : goal.returns-in-Ok-clause-unread
returns-in-Ok-clause-unread g c =
    let long : c.args.most < length c.in-Ok.bytes.items = first_of (omega arith, search rules, grind arith) in
    inr (is_longer _ _ _ c.in-Ok.ensures.taken long, c.in_ok-too_long-in-Ok.ensures.line)

pub returns-clause-unread : goal.returns-clause-unread
returns-clause-unread g c = c.untaken.ensures.unread _ _ c.in-Err.ensures.untaken
