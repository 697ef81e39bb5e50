use Rattle.std.proofs.lemmas.Bool.{eqb-false, not-true}
use Rattle.sk_profile.proofs.Least.{masks_apart}
use Rattle.sk_profile.proofs.common.masks_apart.Goals as goal

pub returns-in-Masked-Masked : goal.returns-in-Masked-Masked
returns-in-Masked-Masked c = record {
  apart = λ e number holds also.
      masks_apart c.args.one c.args.other c.in-Masked-Masked.mask c.in-Masked-Masked.other_mask c.in-Masked-Masked.is-0 c.in-Masked-Masked.is-1 (eqb-false _ _ (not-true _ e)) number holds also;
}
