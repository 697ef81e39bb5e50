-- What keeps SIGKILL and SIGSTOP out of every mask, and a frame on top of the others.
use Rattle.std.proofs.Common.{[], ◌≡◌, ◌≢◌, ◌∙◌, ◌+◌, ◌<◌, ◌≤◌, ◌==◌, ℕ, zero, suc, arith, ap, sym, refl, true, not, List, ◌∷◌, length, get_or-set_same, get_or-set_other}
use Rattle.std.specs.Prelude.{slice_set}
use Rattle.sk_world.specs.Sets as set
use Rattle.sk_world.proofs.Common.{nat_tests}
use Rattle.sk_world.specs.Common.{Signals, blockable, AllBlockable}
use Rattle.sk_world.specs.views.StateView.{frames_of}
use Rattle.sk_world.proofs.SetLaws.{sets}

pub blockable_empty : AllBlockable set.empty []
blockable_empty = grind (arith, nat_tests, sets)

-- the masks stay lawful where the mask is set,
pub mask_set : (old new : Signals) (frames : List Signals) → AllBlockable old frames → AllBlockable (blockable new) frames
mask_set old new frames h = grind (arith, nat_tests, sets, h)

-- where a signal leaves the mask
pub mask_without : (old : Signals) (n : ℕ) (frames : List Signals) → AllBlockable old frames → AllBlockable (set.remove old n) frames
mask_without old n frames h = grind (arith, nat_tests, sets, h)

-- and where a frame keeps the mask
pub frame_pushed : (old new : Signals) (frames : List Signals) → AllBlockable old frames → AllBlockable (blockable new) (old ∷ frames)
frame_pushed old new frames h = grind (arith, nat_tests, sets, h)

-- a write above the first n masks
frames_of-set_above : (n k : ℕ) (masks : List Signals) (m : Signals) → n ≤ k → frames_of n (slice_set masks k m) ≡ frames_of n masks
frames_of-set_above zero k masks m h = refl
frames_of-set_above (suc n) k masks m h =
    let other : n ≢ k = omega arith in
    (λ i. get_or-set_other masks k n m set.empty other i ∷ frames_of-set_above n k masks m (omega arith) i)

pub frames_of-push : (d : ℕ) (masks : List Signals) (m : Signals) → d < length masks → frames_of (d + 1) (slice_set masks d m) ≡ m ∷ frames_of d masks
frames_of-push d masks m h =
    let next : d + 1 ≡ suc d = omega arith in
    ap (λ n. frames_of n (slice_set masks d m)) next
    ∙ (λ i. get_or-set_same masks d m set.empty h i ∷ frames_of-set_above d d masks m (omega arith) i)

pub length-frames_of : (d : ℕ) (masks : List Signals) → length (frames_of d masks) ≡ d
length-frames_of zero masks = refl
length-frames_of (suc d) masks = ap suc (length-frames_of d masks)

-- whether one more handler can run
pub has_room : (most d : ℕ) (masks frames : List Signals) → frames_of d masks ≡ frames → d ≢ most → true ≡ not (length frames == most)
has_room most d masks frames e room =
    let count : length frames ≡ d = sym (ap length e) ∙ length-frames_of d masks in grind (arith, nat_tests)
