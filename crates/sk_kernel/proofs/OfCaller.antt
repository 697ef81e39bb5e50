-- What is said of the process of a pid, if it is there.
use Rattle.std.proofs.Common.{◌≡◌, refl, IfSome, Option, None, Some}

-- it is said where it holds of each process that is there
pub under : {A : Type 0} (o : Option A) (P : A → Type 0) → ((x : A) → o ≡ Some x → P x) → IfSome o P
under None P h = tt
under (Some x) P h = h x refl

-- and holds then of the process that is there
pub of : {A : Type 0} (o : Option A) (P : A → Type 0) (x : A) → IfSome o P → o ≡ Some x → P x
of o P x h is = rw is at h
