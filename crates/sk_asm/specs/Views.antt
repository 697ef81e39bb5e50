-- The code's values as the definitions see them.
use Rattle.std.specs.Prelude.{ℕ, List, map, Option, Some, None}
use Rattle.std.specs.Borrow.{Bor}
use Rattle.std.specs.declared.hash.FoldHasher.{FoldHasher}
use Rattle.std.specs.declared.hash.BuildHasherDefault.{BuildHasherDefault}
use Rattle.indexmap.specs.IndexMap.{IndexMap}
use Rattle.sk_asm.specs.declared.statement.Said.{Said}
use Rattle.sk_asm.specs.declared.statement.Said.TheVariants as says
use Rattle.sk_asm.specs.declared.statement.Jump.TheVariants as jumps
use Rattle.sk_asm.specs.declared.statement.Pending as waiting
use Rattle.sk_asm.specs.Grammar.{Destination, Further, Labelled, Statement, Silent, Marks, Plain, Jumps, Branches}
use Rattle.sk_asm.specs.Labels.{Labels}
use Rattle.sk_asm.specs.declared.statement.Jump.{Jump}
use Rattle.sk_asm.specs.Drafts.{Pending}

-- so many instructions further, or to the label that stands in place of the count
abbrev pub destination_to : ℕ → Option (Bor (List ℕ)) → Destination
destination_to count None = Further count
destination_to count (Some name) = Labelled name.now

abbrev pub statement : Jump → Statement
statement (jumps.Always given to) = Jumps given.code (destination_to given.k to)
statement (jumps.Branch given jt jf) = Branches given.code given.k (destination_to given.jt jt) (destination_to given.jf jf)

-- what a line says
abbrev pub said : Said → Statement
said says.Silent = Silent
said (says.Label name) = Marks name.now
said (says.Plain given) = Plain given
said (says.Jump jump) = statement jump

abbrev pub labels_in : IndexMap (Bor (List ℕ)) ℕ (BuildHasherDefault FoldHasher) → Labels
labels_in labels = map (λ entry. (entry.0.now, entry.1)) labels.entries

abbrev pub jumps_in : List waiting.Pending → List Pending
jumps_in jumps = map (λ pending. (pending.at, pending.n, statement pending.jump)) jumps
