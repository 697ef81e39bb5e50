use Rattle.std.proofs.Common.{length}
use Rattle.sk_ask.specs.Finding.{filters_of}
use Rattle.sk_ask.specs.Given.{ArePlaced}
use Rattle.sk_ask.proofs.files_of_filters.judged.Goals as goal

pub returns-in-Ok-clause-given : goal.returns-in-Ok-clause-given
returns-in-Ok-clause-given c =
    let all = c.in_ok-found.ensures.given in
    let placed : ArePlaced (length c.args.images.now) (filters_of c.in-Ok.found) = rw c.in-Ok.is at all in
    c.attached.ensures.given (length c.args.images.now) placed
