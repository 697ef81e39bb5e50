-- A told lineage, as the lineage of the definitions. Only code and proofs look at this.
use Rattle.sk_laws.specs.Common.{Lineage}
use Rattle.sk_kernel.specs.declared.laws.Lineage.{Lineage as Told}

abbrev pub lineage_in : Told → Lineage
lineage_in lineage = record { root = lineage.root; calls = lineage.calls.items }
