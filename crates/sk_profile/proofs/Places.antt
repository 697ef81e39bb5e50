-- Arms by their places among others.
use Rattle.std.proofs.Common.{◌≡◌, ℕ, zero, suc, ◌+◌, ◌^◌, ◌<◌, Bool, List, [], ◌∷◌, length, drop, map, Some, slice_get, refl, sym, ap, ◌∙◌, subst, arith}
use Rattle.std.specs.List.{All}
use Rattle.std.proofs.lemmas.List.Elements.{All-nil, All-cons}
use Rattle.std.specs.Option.{option_map}
use Rattle.std.proofs.lemmas.Option.{slice_get-map}
use Rattle.sk_profile.specs.declared.saying.Arm.{Arm as ArmOfCode}
use Rattle.sk_profile.specs.Sayings.{Arm}
use Rattle.sk_profile.specs.CodeViews.{arm_of}
use Rattle.sk_profile.specs.declared.clash.TwoArms.{TwoArms}
use Rattle.sk_profile.specs.Clashes.{ClashesWith, ClashesWithNone, AreClashing}

at_drop : {X : Type 0} (n : ℕ) (xs : List X) (k : ℕ) → slice_get (drop n xs) k ≡ slice_get xs (n + k)
at_drop zero xs k = ap (slice_get xs) (omega arith)
at_drop (suc n) [] k = refl
at_drop (suc n) (x ∷ xs) k =
    let e : suc (n + k) ≡ suc n + k = omega arith in at_drop n xs k ∙ ap (slice_get (x ∷ xs)) e

pub drop_more : {X : Type 0} (n : ℕ) (xs rest : List X) (x : X) → drop n xs ≡ x ∷ rest → rest ≡ drop (n + 1) xs
drop_more zero [] rest x is = cc
drop_more zero (y ∷ ys) rest x is = cc
drop_more (suc n) [] rest x is = cc
drop_more (suc n) (y ∷ ys) rest x is =
    let e : suc (n + 1) ≡ suc n + 1 = omega arith in drop_more n ys rest x is ∙ ap (λ k. drop k (y ∷ ys)) e

-- the first of what is left, seen by a view
pub here : {X Y : Type 0} (view : X → Y) (all left rest : List X) (first : X) (place : ℕ) → left ≡ drop place all → left ≡ first ∷ rest → slice_get (map view all) place ≡ Some (view first)
here {X} view all left rest first place is steps =
    slice_get-map view all place
    ∙ ap (option_map view) (ap (slice_get all) (omega arith) ∙ sym (at_drop place all 0) ∙ ap (λ (xs : List X). slice_get xs 0) (sym is ∙ steps))

-- and one behind it

pub behind : (arms rest : List ArmOfCode) (place k : ℕ) → rest ≡ drop place arms → slice_get (map arm_of arms) (place + k) ≡ slice_get (map arm_of rest) k
behind arms rest place k is =
    slice_get-map arm_of arms (place + k)
    ∙ ap (option_map arm_of) (sym (at_drop place arms k) ∙ ap (λ (xs : List ArmOfCode). slice_get xs k) (sym is))
    ∙ sym (slice_get-map arm_of rest k)

pub found : (narrow : Bool) (otherwise : ℕ) (arms left rest : List ArmOfCode) (arm : ArmOfCode) (it : TwoArms) (place : ℕ) → left ≡ drop it.first arms → left ≡ arm ∷ rest → it.second ≡ it.first + 1 + place
    → ClashesWith narrow (arm_of arm) (map arm_of rest) place it.args → (arch nr : ℕ) → arch < 2 ^ 32 → nr < 2 ^ 32
    → AreClashing arch nr (record { narrow = narrow; arms = map arm_of arms; otherwise = otherwise }) it
found narrow otherwise arms left rest arm it place is steps second clash arch nr known small =
    let more : rest ≡ drop (it.first + 1) arms = drop_more it.first arms rest arm (sym is ∙ steps) in record {
      one = arm_of arm;
      other = clash.other;
      at_first = here arm_of arms left rest arm it.first is steps;
      at_second = ap (slice_get (map arm_of arms)) second ∙ behind arms rest (it.first + 1) place more ∙ clash.at_place;
      order = omega (arith, second);
      fits = clash.fits arch nr known small;
      differ = clash.differ;
    }

-- one more that does not clash
pub none_more : (narrow : Bool) (one : Arm) (left rest whole : List ArmOfCode) (other : ArmOfCode) → left ≡ other ∷ rest → ClashesWithNone narrow one (arm_of other)
    → (All (λ (other : ArmOfCode). ClashesWithNone narrow one (arm_of other)) left → All (λ (other : ArmOfCode). ClashesWithNone narrow one (arm_of other)) whole)
    → All (λ (other : ArmOfCode). ClashesWithNone narrow one (arm_of other)) rest → All (λ (other : ArmOfCode). ClashesWithNone narrow one (arm_of other)) whole
none_more narrow one left rest whole other steps free so_far more =
    let P : ArmOfCode → Type 0 = λ other. ClashesWithNone narrow one (arm_of other) in
    so_far (subst (All P) (sym steps) (All-cons P other rest free more))

no_other : (narrow : Bool) (one : Arm) (left : List ArmOfCode) → length left ≡ 0 → All (λ (other : ArmOfCode). ClashesWithNone narrow one (arm_of other)) left
no_other narrow one [] e = All-nil (λ (other : ArmOfCode). ClashesWithNone narrow one (arm_of other))
no_other narrow one (arm ∷ left) e = absurd (omega (arith, e))

pub none_at_all : (narrow : Bool) (one : Arm) (left whole : List ArmOfCode) → length left ≡ 0
    → (All (λ (other : ArmOfCode). ClashesWithNone narrow one (arm_of other)) left → All (λ (other : ArmOfCode). ClashesWithNone narrow one (arm_of other)) whole)
    → All (λ (other : ArmOfCode). ClashesWithNone narrow one (arm_of other)) whole
none_at_all narrow one left whole e so_far = so_far (no_other narrow one left e)
