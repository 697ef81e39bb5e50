use Rattle.sk_laws.proofs.Ancestry.{new_parent_lives, without_subreapers, nearest_subreaper, new_parent_up}
use Rattle.sk_laws.proofs.world.orphans_go_to_the_nearest_subreaper.Goals as goal

pub returns : goal.returns
returns c = record { lives = new_parent_lives; unmarked = without_subreapers; nearest = nearest_subreaper; ancestor = new_parent_up }
