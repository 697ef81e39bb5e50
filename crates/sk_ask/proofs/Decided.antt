-- What decides in the files that are left, and in all.
use Rattle.std.proofs.Common.{◌≡◌, ◌⊎◌, ℕ, List, [], ◌∷◌, ◌++◌, length, map, inl, inr, arith, refl, subst, append-nil, append_assoc, Option}
use Rattle.std.specs.List.{zip}
use Rattle.sk_insn.specs.declared.record.Record.{Record}
use Rattle.sk_profile_json.specs.declared.context.Context.{Context}
use Rattle.sk_document.specs.declared.deciding.Decider.{Decider}
use Rattle.sk_ask.specs.Deciding.{AreDecided, Decides, in_file}
use Rattle.sk_ask.specs.Forms.{unmarked}

pub goes_on : {T U V : Type 0} (f : T → List ℕ) (g : U → List ℕ) (h : V → List ℕ × Decider) (context : Context) (call : Record) (rest names : List T) (name : T) (left files : List U) (file : U) (done pushed : List V) (first : Option Decider) (all : List (List ℕ × List ℕ)) → rest ≡ name ∷ names → left ≡ file ∷ files → map h pushed ≡ map h done ++ in_file (f name) first → Decides context call (unmarked (g file)) first → ((more : List (List ℕ × Decider)) → AreDecided context call (zip (map f rest) (map g left)) more → AreDecided context call all (map h done ++ more)) → (more : List (List ℕ × Decider)) → AreDecided context call (zip (map f names) (map g files)) more → AreDecided context call all (map h pushed ++ more)
goes_on f g h context call rest names name left files file done pushed first all r l p d so_far more these =
    let known = rw (r, l) at so_far in
    rw (p, append_assoc (map h done) (in_file (f name) first) more) (known (in_file (f name) first ++ more) (first, more, d, these, refl))

pub all_are_decided : {T U V : Type 0} (f : T → List ℕ) (g : U → List ℕ) (h : V → List ℕ × Decider) (context : Context) (call : Record) (rest : List T) (left : List U) (done : List V) (all : List (List ℕ × List ℕ)) → (length rest ≡ 0) ⊎ (length left ≡ 0) → ((more : List (List ℕ × Decider)) → AreDecided context call (zip (map f rest) (map g left)) more → AreDecided context call all (map h done ++ more)) → AreDecided context call all (map h done)
all_are_decided f g h context call [] left done all ends so_far = subst (λ these. AreDecided context call all these) (append-nil (map h done)) (so_far [] refl)
all_are_decided f g h context call (name ∷ rest) [] done all ends so_far = subst (λ these. AreDecided context call all these) (append-nil (map h done)) (so_far [] refl)
all_are_decided f g h context call (name ∷ rest) (file ∷ left) done all ends so_far = absurd (elim ends [
  | inl none ↦ omega arith
  | inr none ↦ omega arith
])
