use Rattle.sk_laws.proofs.LineageSteps.{event_changes_authority, authority_is_of_lineage, lineage_comes_from_init}
use Rattle.sk_laws.proofs.Growing.{equal_lineages_may_do_the_same}
use Rattle.sk_laws.proofs.authority_is_of_lineage.Goals as goal

pub returns : goal.returns
returns c = record {
  event = event_changes_authority;
  run = authority_is_of_lineage;
  root = lineage_comes_from_init;
  equal = equal_lineages_may_do_the_same;
}
