use Rattle.std.proofs.Common.{◌==◌, rules}
use Rattle.std.specs.Str.{bytes_eq}
use Rattle.std.proofs.lemmas.Iterator.Search.{position_from_yields_List}
use Rattle.std.proofs.lemmas.Iterator.Splits.{YieldsList-from_slice_split}
use Rattle.sk_arguments.proofs.runs.place_of.Goals as goal
use borrow.Author.Tests.{tests}

pub returns : goal.returns
returns c = record {
  first = position_from_yields_List (λ name. bytes_eq name c.args.wanted.now) _ _ c.position.result c.position.ensures.ran
      (YieldsList-from_slice_split _ (λ byte. byte == 32) c.args.names.now c.split.ensures.rest c.split.ensures.done c.split.ensures.closure (λ x b q k. search (rules, tests)))
      (λ x b q k. search (rules, tests));
}
