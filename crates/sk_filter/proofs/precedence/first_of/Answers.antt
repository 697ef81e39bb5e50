use Rattle.std.proofs.Common.{◌≡◌, ◌∙◌, ap, sym, drop, [], arith}
use Rattle.std.proofs.lemmas.List.{drop_all}
use Rattle.std.specs.Option.{unwrap_or}
use Rattle.sk_insn.specs.Actions.{allow}
use Rattle.sk_filter.specs.Preceding.{preceding_of}
use Rattle.sk_filter.proofs.Verdicts.{preceding_of_none}
use Rattle.sk_filter.proofs.precedence.first_of.Goals as goal

pub returns : goal.returns
returns c =
    let values = c.args.values.now in
    let through : drop c.loop-value.value-index values ≡ [] = drop_all c.loop-value.value-index values (omega arith) in
    record {
      first = c.unwrap_or.ensures
          ∙ ap (λ first. unwrap_or first allow) (sym (ap (preceding_of c.loop-value.first) through) ∙ c.loop-value.invariant)
          ∙ preceding_of_none values;
    }
