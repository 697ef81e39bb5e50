-- Which calls come to the ends of a tree.
use Rattle.std.specs.Prelude.{◌<◌, not, List, length, filter}
use Rattle.sk_insn.specs.declared.record.Record.{Record}
use Rattle.sk_conditions.specs.declared.tree.Tree.{Tree}
use Rattle.sk_conditions.specs.declared.tree.Tree.TheVariants.{Is, Untold, Ask'}
use Rattle.sk_conditions.specs.Conditions.{holds_on}

-- one of these calls at least comes to each end of a tree: a test parts them into those on which it holds, and the others
abbrev pub EachEndIsMet : List Record → Tree → Type 0
EachEndIsMet calls (Is value) = 0 < length calls
EachEndIsMet calls Untold = 0 < length calls
EachEndIsMet calls (Ask' test p held q failed) =
    EachEndIsMet (filter (λ call. holds_on test call) calls) held
    × EachEndIsMet (filter (λ call. not (holds_on test call)) calls) failed
