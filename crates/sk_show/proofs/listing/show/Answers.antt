use Rattle.std.proofs.Common.{length, inl, inr}
use Rattle.std.proofs.lemmas.Bool.{cases_lt}
use Rattle.sk_filter.specs.declared.fault.CheckFault.TheVariants.{TooLong}
use Rattle.sk_show.proofs.listing.show.Goals as goal

-- a valid program is not too long
pub shown-requires : goal.shown-requires
shown-requires c = record {
  few = elim (cases_lt 4096 (length c.insns.result.now)) [
    | inl long ↦ absurd (c.insns.ensures.valid TooLong (rw (← c.insns.ensures.insns) long))
    | inr few ↦ few
  ];
}
