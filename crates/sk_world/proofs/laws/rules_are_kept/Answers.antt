use Rattle.sk_world.proofs.Stored.{kept_changed, kept_links, kept_removed}
use Rattle.sk_world.proofs.Kept.{kept_opening, kept_sent, kept_forced}
use Rattle.sk_world.proofs.KeptFork.{kept_forked}
use Rattle.sk_world.proofs.KeptEnd.{kept_reparented, kept_ended}
use Rattle.sk_world.proofs.KeptTold.{kept_told}
use Rattle.sk_world.proofs.laws.rules_are_kept.Goals as goal

pub returns : goal.returns
returns c = record {
  opening = kept_opening;
  change = kept_changed;
  links = kept_links;
  removal = kept_removed;
  signal = kept_sent;
  force = kept_forced;
  fork = kept_forked;
  reparent = kept_reparented;
  end = kept_ended;
  told = kept_told;
}
