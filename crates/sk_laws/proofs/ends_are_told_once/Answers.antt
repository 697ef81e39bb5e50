use Rattle.sk_laws.proofs.Tellings.{end_is_told_to_parent, end_is_told_once}
use Rattle.sk_laws.proofs.ends_are_told_once.Goals as goal

pub returns : goal.returns
returns c = record {
  parent = end_is_told_to_parent;
  once = end_is_told_once;
}
