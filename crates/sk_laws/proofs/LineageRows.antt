-- Each worked lineage is what the definitions compute.
use Rattle.std.proofs.Common.{refl}
use Rattle.sk_laws.proofs.Computing.{worked_runs}
use Rattle.sk_laws.specs.WorkedLineages.{WorkedLineages}

pub worked_lineages : WorkedLineages
unfolding worked_runs
worked_lineages = record {
  lineage_of_child = refl;
  lineage_of_parent = refl;
  lineage_of_nobody = refl;
  authority_of_child = refl;
  lineage_without_refusals = refl;
}
