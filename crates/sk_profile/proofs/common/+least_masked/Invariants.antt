use Rattle.sk_profile.proofs.common.+least_masked.Given as goal

abbrev pub decreases-least_masked : goal.decreases-least_masked
decreases-least_masked l = l.mask
