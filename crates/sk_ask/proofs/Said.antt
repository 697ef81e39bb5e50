-- The profiles of the files that are left, and those of all.
use Rattle.std.proofs.Common.{◌≡◌, ◌⊎◌, ℕ, List, [], ◌∷◌, ◌++◌, length, map, inl, inr, arith, subst, append-nil, append_assoc, Option}
use Rattle.std.proofs.lemmas.List.{map-append}
use Rattle.std.specs.List.{zip}
use Rattle.sk_profile.specs.Profiles.{Profile}
use Rattle.sk_profile_json.specs.declared.context.Context.{Context}
use Rattle.sk_profile_json.specs.Partings.{IsSaidBy}
use Rattle.sk_ask.specs.Forms.{unmarked}
use Rattle.sk_ask.specs.Lints.{AreSaid}

pub goes_on : {T U V : Type 0} (f : T → List ℕ) (g : U → List ℕ) (h : V → List ℕ × Option Profile) (context : Context) (rest names : List T) (name : T) (left files : List U) (file : U) (done pushed : List V) (said : V) (all : List (List ℕ × List ℕ)) → rest ≡ name ∷ names → left ≡ file ∷ files → pushed ≡ done ++ said ∷ [] → (h said).0 ≡ f name → IsSaidBy context (unmarked (g file)) (h said).1 → ((more : List (List ℕ × Option Profile)) → AreSaid context (zip (map f rest) (map g left)) more → AreSaid context all (map h done ++ more)) → (more : List (List ℕ × Option Profile)) → AreSaid context (zip (map f names) (map g files)) more → AreSaid context all (map h pushed ++ more)
goes_on f g h context rest names name left files file done pushed said all r l p n s so_far more these =
    let known = rw (r, l) at so_far in
    rw (p, map-append h done (said ∷ []), append_assoc (map h done) (h said ∷ []) more) (known (h said ∷ more) (n, s, these))

pub all_are_said : {T U V : Type 0} (f : T → List ℕ) (g : U → List ℕ) (h : V → List ℕ × Option Profile) (context : Context) (rest : List T) (left : List U) (done : List V) (all : List (List ℕ × List ℕ)) → (length rest ≡ 0) ⊎ (length left ≡ 0) → ((more : List (List ℕ × Option Profile)) → AreSaid context (zip (map f rest) (map g left)) more → AreSaid context all (map h done ++ more)) → AreSaid context all (map h done)
all_are_said f g h context [] left done all ends so_far = subst (λ these. AreSaid context all these) (append-nil (map h done)) (so_far [] tt)
all_are_said f g h context (name ∷ rest) [] done all ends so_far = subst (λ these. AreSaid context all these) (append-nil (map h done)) (so_far [] tt)
all_are_said f g h context (name ∷ rest) (file ∷ left) done all ends so_far = absurd (elim ends [
  | inl none ↦ omega arith
  | inr none ↦ omega arith
])
