-- A fault that is told unless a test holds.
use Rattle.std.proofs.Common.{◌≡◌, Bool, true, false, Some, None, refl}
use Rattle.sk_filter.specs.declared.fault.CheckFault.{CheckFault}
use Rattle.sk_filter.specs.Places.{unless}

pub unless-Some : (test : Bool) (fault told : CheckFault) → unless test fault ≡ Some told → (test ≡ false) × (fault ≡ told)
unless-Some true fault told e = cc
unless-Some false fault told e = (refl, (let same : fault ≡ told = cc in same))

pub unless-None : (test : Bool) (fault : CheckFault) → unless test fault ≡ None → test ≡ true
unless-None true fault e = refl
unless-None false fault e = cc
