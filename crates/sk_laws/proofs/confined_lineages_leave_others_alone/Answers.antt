use Rattle.sk_laws.proofs.Confined.{event_is_confined}
use Rattle.sk_laws.proofs.Parents.{confinement_stays, lineage_is_confined}
use Rattle.sk_laws.proofs.confined_lineages_leave_others_alone.Goals as goal

pub returns : goal.returns
returns c = record {
  event = event_is_confined;
  kept = confinement_stays;
  lineage = lineage_is_confined;
}
