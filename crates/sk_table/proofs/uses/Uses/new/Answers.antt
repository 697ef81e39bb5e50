use Rattle.std.proofs.Common.{◌∙◌, ap, get_or}
use Rattle.sk_table.proofs.Indexing.{zeros}
use Rattle.sk_table.proofs.uses.Uses.new.Goals as goal

pub returns : goal.returns
returns c n = ap (λ xs. get_or xs n 0) (c.in_ok-vec.ensures.items_if_clones_equal (λ y h. h)) ∙ zeros 32768 n
