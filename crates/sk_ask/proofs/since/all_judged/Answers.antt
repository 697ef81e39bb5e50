use Rattle.std.proofs.Common.{map}
use Rattle.sk_ask.proofs.Judged.{as_they_are}
use Rattle.sk_ask.proofs.since.all_judged.Goals as goal

pub returns-else-since-clause-judged : goal.returns-else-since-clause-judged
returns-else-since-clause-judged c = rw c.if-since.false (as_they_are c.args.architecture (map (λ log. log.items) c.args.logs.items))
