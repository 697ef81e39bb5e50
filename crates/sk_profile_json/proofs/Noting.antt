-- Notes that a loop has gathered up to a place.
use Rattle.std.proofs.Common.{◌≡◌, ℕ, ◌+◌, ◌<◌, ◌≤◌, suc, List, ◌++◌, length, map, drop, get_or, ap, sym, ◌∙◌, add-one, append_assoc, append-nil}
use Rattle.json.specs.Value.{value_view}
use Rattle.json.specs.declared.value.Value.{Value}
use Rattle.sk_profile_json.specs.declared.context.Context.{Context}
use Rattle.sk_profile_json.proofs.Following.{item_next, items_end}
use Rattle.sk_profile_json.specs.Notes.{entry_notes, notes_from}

pub more_notes : {A : Type 0} → (context : Context) (xs : List (Value A)) (i : ℕ) (x : Value A) (done new : List (List ℕ))
    → i < length xs → x ≡ get_or xs i x → new ≡ done ++ entry_notes context i (value_view x)
    → new ++ notes_from context (i + 1) (drop (i + 1) (map value_view xs)) ≡ done ++ notes_from context i (drop i (map value_view xs))
more_notes context xs i x done new h e n =
    ap (λ k. new ++ notes_from context (i + 1) (drop k (map value_view xs))) (add-one i)
    ∙ ap (λ all. all ++ notes_from context (i + 1) (drop (suc i) (map value_view xs))) n
    ∙ append_assoc done (entry_notes context i (value_view x)) (notes_from context (i + 1) (drop (suc i) (map value_view xs)))
    ∙ ap (λ js. done ++ notes_from context i js) (sym (item_next value_view xs i x h e))

pub notes_end : {A : Type 0} → (context : Context) (xs : List (Value A)) (i : ℕ) (done : List (List ℕ)) → length xs ≤ i
    → done ++ notes_from context i (drop i (map value_view xs)) ≡ done
notes_end context xs i done h = ap (λ js. done ++ notes_from context i js) (items_end value_view xs i h) ∙ append-nil done
