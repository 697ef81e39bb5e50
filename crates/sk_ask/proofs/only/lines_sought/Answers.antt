use Rattle.std.proofs.Common.{rules}
use Rattle.std.proofs.lemmas.Fn.{filter_same}
use Rattle.sk_ask.specs.Only.{line_has_sought}
use Rattle.sk_ask.proofs.only.lines_sought.Goals as goal

pub returns-then-not-is_empty : goal.returns-then-not-is_empty
returns-then-not-is_empty c =
    let kept = filter_same _ (line_has_sought c.args.only.now) _ (λ x b f k. search rules) _ _ c.retain.ensures.filtered in
    record { kept = rw kept (search rules) }
