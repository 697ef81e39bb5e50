-- One image more on top of a chain.
use Rattle.std.proofs.Common.{◌≡◌, ℕ, suc, ◌+◌, ◌<◌, List, ◌∷◌, length, map, drop, get_or, Vec, Global, Result, Ok, Err, sym, ap, ◌∙◌, add-one, refl}
use Rattle.std.proofs.Math.Seq.{drop-cons}
use Rattle.std.proofs.lemmas.List.{drop-map}
use Rattle.sk_insn.specs.declared.insn.Insn.{Insn}
use Rattle.sk_insn.specs.Instructions.{image_instructions}
use Rattle.sk_engines.specs.declared.filters.Refusal.{Refusal}
use Rattle.sk_engines.specs.Filters.{chained, image_attached}

-- the bytes of each image
abbrev pub bytes_of : Vec ℕ Global → List ℕ
bytes_of image = image.items

-- the images from a place on
images_at : (images : List (Vec ℕ Global)) (n : ℕ) (d : Vec ℕ Global) → n < length images → drop n (map bytes_of images) ≡ bytes_of (get_or images n d) ∷ drop (n + 1) (map bytes_of images)
images_at images n d h =
    drop-map bytes_of n images
    ∙ ap (map bytes_of) (drop-cons images n d h)
    ∙ ap (λ rest. bytes_of (get_or images n d) ∷ rest) (sym (drop-map bytes_of (suc n) images) ∙ ap (λ m. drop m (map bytes_of images)) (sym (add-one n)))

-- what a chain comes to, by what its next image does
abbrev pub chained_on : ℕ → List (List ℕ) → Result (List (List Insn)) Refusal → Result (List (List Insn)) (ℕ × Refusal)
chained_on n images (Err refusal) = Err (n, refusal)
chained_on n images (Ok next) = chained (n + 1) next images

pub chained_at : (images : List (Vec ℕ Global)) (n : ℕ) (d : Vec ℕ Global) (chain : List (List Insn)) (attached : Result (List (List Insn)) Refusal) (total : Result (List (List Insn)) (ℕ × Refusal)) → n < length images → attached ≡ image_attached chain (image_instructions (bytes_of (get_or images n d))) → chained n chain (drop n (map bytes_of images)) ≡ total → chained_on n (drop (n + 1) (map bytes_of images)) attached ≡ total
chained_at images n d chain attached total h is so_far =
    ap (chained_on n (drop (n + 1) (map bytes_of images))) is
    ∙ by_result n (drop (n + 1) (map bytes_of images)) (bytes_of (get_or images n d)) chain (image_attached chain (image_instructions (bytes_of (get_or images n d)))) refl
    ∙ ap (chained n chain) (sym (images_at images n d h))
    ∙ so_far
  where
    by_result : (n : ℕ) (rest : List (List ℕ)) (image : List ℕ) (chain : List (List Insn)) (r : Result (List (List Insn)) Refusal) → r ≡ image_attached chain (image_instructions image) → chained_on n rest r ≡ chained n chain (image ∷ rest)
    by_result n rest image chain (Ok next) e = rw (← e, chained) refl
    by_result n rest image chain (Err refusal) e = rw (← e, chained) refl
