-- What the files that are left stand for, and what all do.
use Rattle.std.proofs.Common.{◌≡◌, ℕ, List, [], ◌∷◌, ◌++◌, length, map, refl, arith, subst, inr, append-nil, append_assoc}
use Rattle.std.proofs.lemmas.List.{map-append}
use Rattle.sk_profile_json.specs.declared.context.Context.{Context}
use Rattle.sk_ask.specs.declared.manner.Manner.{Manner}
use Rattle.sk_ask.specs.declared.trouble.Trouble.{Trouble}
use Rattle.sk_ask.specs.Expanding.{StandsFor, StandFor, IsFirstWithout}

pub goes_on : {T U V : Type 0} (f : T → List ℕ) (g : U → List ℕ) (h : V → List ℕ) (manner : Manner) (context : Context) (rest names : List T) (name : T) (left files : List U) (file : U) (done pushed : List V) (image : V) (told telling first : List ℕ) (all others : List (List ℕ)) → rest ≡ name ∷ names → left ≡ file ∷ files → pushed ≡ done ++ image ∷ [] → telling ≡ told ++ first → StandsFor manner context (f name) (g file) (h image) first → ((images : List (List ℕ)) (notes : List ℕ) → StandFor manner context (map f rest) (map g left) images notes → StandFor manner context all others (map h done ++ images) (told ++ notes)) → (images : List (List ℕ)) (notes : List ℕ) → StandFor manner context (map f names) (map g files) images notes → StandFor manner context all others (map h pushed ++ images) (telling ++ notes)
goes_on f g h manner context rest names name left files file done pushed image told telling first all others r l p t stands so_far images notes these =
    let known = rw (r, l) at so_far in
    let step = known (h image ∷ images) (first ++ notes) (first, notes, stands, these, refl) in
    rw (p, t, map-append h done (image ∷ []), append_assoc (map h done) (h image ∷ []) images, append_assoc told first notes) step

pub later : {T U : Type 0} (f : T → List ℕ) (g : U → List ℕ) (manner : Manner) (context : Context) (rest names : List T) (name : T) (left files : List U) (file : U) (image first : List ℕ) (all others : List (List ℕ)) (why : Trouble) → rest ≡ name ∷ names → left ≡ file ∷ files → StandsFor manner context (f name) (g file) image first → ((why : Trouble) → IsFirstWithout manner context (map f rest) (map g left) why → IsFirstWithout manner context all others why) → IsFirstWithout manner context (map f names) (map g files) why → IsFirstWithout manner context all others why
later f g manner context rest names name left files file image first all others why r l stands among it =
    let known = rw (r, l) at among in
    known why (inr (image, first, stands, it))

pub all_stand : {T U : Type 0} (f : T → List ℕ) (g : U → List ℕ) (manner : Manner) (context : Context) (rest : List T) (left : List U) (all others images : List (List ℕ)) (notes : List ℕ) → length rest ≡ 0 → length left ≡ length rest → ((more : List (List ℕ)) (told : List ℕ) → StandFor manner context (map f rest) (map g left) more told → StandFor manner context all others (images ++ more) (notes ++ told)) → StandFor manner context all others images notes
all_stand f g manner context [] [] all others images notes d e so_far =
    subst (λ is. StandFor manner context all others is notes) (append-nil images)
    (subst (λ ns. StandFor manner context all others (images ++ []) ns) (append-nil notes) (so_far [] [] refl))
all_stand f g manner context (name ∷ rest) left all others images notes d e so_far = absurd (omega arith)
all_stand f g manner context [] (file ∷ left) all others images notes d e so_far = absurd (omega arith)
