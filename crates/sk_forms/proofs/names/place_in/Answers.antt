use Rattle.std.proofs.Common.{lit<, rules}
use Rattle.std.specs.Str.{bytes_eq}
use Rattle.std.proofs.lemmas.Iterator.Search.{position_from_yields_List}
use Rattle.std.proofs.lemmas.Iterator.Splits.{YieldsList-from_str_split}
use Rattle.sk_forms.proofs.names.place_in.Goals as goal
use borrow.Author.Tests.{tests}

pub returns : goal.returns
returns c = record {
  first = position_from_yields_List (λ name. bytes_eq name c.args.wanted.now) _ _ c.position.result c.position.ensures.ran
      (YieldsList-from_str_split 32 c.args.names.now (lit< tt) c.split.ensures.text c.split.ensures.has_more c.split.ensures.pattern)
      (λ x b q k. search (rules, tests));
}
