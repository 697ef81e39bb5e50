use Rattle.sk_laws.proofs.Locality.{no_orphan}
use Rattle.sk_laws.proofs.Handing.{children_handed_on, zombie_left}
use Rattle.sk_laws.proofs.Announcing.{each_announced}
use Rattle.sk_laws.proofs.world.ends_hand_children_on.Goals as goal

pub returns : goal.returns
returns c = record { no_orphan = no_orphan; children = children_handed_on; zombie = zombie_left; each = each_announced }
