use Rattle.std.proofs.Common.{lit<}
use Rattle.std.proofs.lemmas.Iterator.Consumers.{nth_from_yields_List}
use Rattle.std.proofs.lemmas.Iterator.Splits.{YieldsList-from_str_split}
use Rattle.sk_arguments.proofs.rows.nth.Goals as goal

pub returns : goal.returns
returns c = record {
  name = nth_from_yields_List c.nth.result _ c.args.place c.nth.ensures.ran
      (YieldsList-from_str_split 32 c.args.names.now (lit< tt) c.split.ensures.text c.split.ensures.has_more c.split.ensures.pattern);
}
