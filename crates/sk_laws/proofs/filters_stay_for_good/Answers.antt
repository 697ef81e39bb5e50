use Rattle.sk_laws.proofs.Growing.{lineage_keeps_filters, verdict_is_of_lineage, equal_lineages_are_judged_alike, performed_meets_no_refusal}
use Rattle.sk_laws.proofs.filters_stay_for_good.Goals as goal

pub returns : goal.returns
returns c = record {
  kept = lineage_keeps_filters;
  verdict = verdict_is_of_lineage;
  equal = equal_lineages_are_judged_alike;
  performed = performed_meets_no_refusal;
}
