use Rattle.std.proofs.Common.{refl, rules}
use Rattle.std.specs.Prelude.{not}
use Rattle.std.proofs.lemmas.Iterator.{YieldsList-from_range}
use Rattle.std.proofs.lemmas.Iterator.Search.{any_from_yields_List}
use Rattle.sk_arguments.specs.Reading.{is_narrow, kind_of, reads_upper}
use Rattle.sk_arguments.proofs.reading.is_narrow.Goals as goal
use borrow.Author.Tests.{tests}

pub returns : goal.returns
unfolding is_narrow
returns c = record {
  narrow = any_from_yields_List (λ i. not (reads_upper (kind_of c.args.nr i))) _ _ c.any.result c.any.ensures.ran (YieldsList-from_range 0 6 6 refl refl) (λ x b q k. search (rules, tests));
}
