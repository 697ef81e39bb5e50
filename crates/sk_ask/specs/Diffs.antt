-- What `ask diff` tells.
use Rattle.std.specs.Prelude.{ℕ, Bool, true, false, List, codes}
use Rattle.sk_insn.specs.declared.insn.Insn.{Insn}
use Rattle.sk_names.specs.declared.architecture.Architecture.{Architecture}
use Rattle.sk_arguments.specs.declared.naming.Naming.{Naming}
use Rattle.sk_conditions.specs.declared.standing.Relation.{Relation}
use Rattle.sk_conditions.specs.declared.standing.Relation.TheVariants.{Same, AsStrict}
use Rattle.sk_ask.specs.declared.printing.Printing.{Printing}
use Rattle.sk_ask.specs.Comparisons.{IsCompared}
use Rattle.sk_ask.specs.Endings.{Ending}

abbrev pub relation_asked : Bool → Relation
relation_asked false = Same
relation_asked true = AsStrict

-- what could not be done where some calls are undecided
abbrev pub not_compared : List ℕ
not_compared = codes "diff: the filters could not be compared"

-- the new chain is compared with the old one
abbrev pub IsDiff : (ℕ → Bool) → Naming → Printing → Architecture → Bool → List (List Insn) → List (List Insn) → List ℕ → Ending → Type 0
IsDiff may_spend naming printing by stricter old new notes ending =
    IsCompared may_spend naming printing by (codes "diff") (relation_asked stricter) not_compared old new notes ending
