-- Lists of values that a loop has read up to a place.
use Rattle.std.proofs.Common.{◌≡◌, ℕ, ◌+◌, ◌<◌, ◌≤◌, zero, suc, List, [], ◌∷◌, ◌++◌, length, map, drop, get_or, Option, Some, None, Ok, Err, ap, sym, ◌∙◌, arith, add-one, append_assoc, append-nil}
use Rattle.std.proofs.Math.ListN.{drop_of_length-le}
use Rattle.std.proofs.lemmas.List.{length-map}
use Rattle.std.specs.List.{cons_option}
use Rattle.std.specs.Option.{option_or}
use Rattle.std.specs.Result.{result_ok}
use Rattle.json.specs.Value.{value_view}
use Rattle.json.specs.declared.value.Value.{Value}
use Rattle.sk_profile.specs.declared.condition.Condition.{Condition}
use Rattle.sk_profile_json.specs.declared.fault.Wrong.{Wrong}
use Rattle.sk_profile_json.specs.Arguments.{condition_of}
use Rattle.sk_profile_json.specs.Conditions.{wrong_argument, wrong_at, conditions_of}

-- what is left of a list at a place that holds x
pub item_next : {X Y : Type 0} → (f : X → Y) (xs : List X) (i : ℕ) (x : X) → i < length xs → x ≡ get_or xs i x
    → drop i (map f xs) ≡ f x ∷ drop (suc i) (map f xs)
item_next f [] i x h e = absurd (omega arith)
item_next f (y ∷ ys) zero x h e = ap (λ v. f v ∷ map f ys) (sym e)
item_next f (y ∷ ys) (suc i) x h e = item_next f ys i x (omega arith) e

-- and past its end
pub items_end : {X Y : Type 0} → (f : X → Y) (xs : List X) (i : ℕ) → length xs ≤ i → drop i (map f xs) ≡ []
items_end f xs i h = drop_of_length-le (map f xs) (omega (arith, length-map xs f))

-- an item that may be there stands at the end of a list, or before the next one
pub option_between : {X : Type 0} → (done : List X) (o : Option X) (rest : List X) → (done ++ cons_option o []) ++ rest ≡ done ++ cons_option o rest
option_between done None rest = ap (λ d. d ++ rest) (append-nil done)
option_between done (Some x) rest = append_assoc done (x ∷ []) rest

pub wrong_here : {A : Type 0} → (xs : List (Value A)) (i : ℕ) (x : Value A) (wrong : Wrong) → i < length xs → x ≡ get_or xs i x
    → Err wrong ≡ condition_of (value_view x) → wrong_argument i (drop i (map value_view xs)) ≡ Some (record { place = i; wrong = wrong })
wrong_here xs i x wrong h e w =
    ap (wrong_argument i) (item_next value_view xs i x h e)
    ∙ ap (λ r. option_or (wrong_at i r) (wrong_argument (i + 1) (drop (suc i) (map value_view xs)))) (sym w)

pub right_here : {A : Type 0} → (xs : List (Value A)) (i : ℕ) (x : Value A) (c : Condition) → i < length xs → x ≡ get_or xs i x
    → Ok c ≡ condition_of (value_view x)
    → wrong_argument i (drop i (map value_view xs)) ≡ wrong_argument (i + 1) (drop (i + 1) (map value_view xs))
right_here xs i x c h e r =
    ap (wrong_argument i) (item_next value_view xs i x h e)
    ∙ ap (λ r. option_or (wrong_at i r) (wrong_argument (i + 1) (drop (suc i) (map value_view xs)))) (sym r)
    ∙ ap (λ k. wrong_argument (i + 1) (drop k (map value_view xs))) (sym (add-one i))

pub none_wrong : {A : Type 0} → (xs : List (Value A)) (i : ℕ) → length xs ≤ i → wrong_argument i (drop i (map value_view xs)) ≡ None
none_wrong xs i h = ap (wrong_argument i) (items_end value_view xs i h)

pub more_conditions : {A : Type 0} → (xs : List (Value A)) (i : ℕ) (x : Value A) (done new : List Condition) → i < length xs → x ≡ get_or xs i x
    → new ≡ done ++ cons_option (result_ok (condition_of (value_view x))) []
    → new ++ conditions_of (drop (i + 1) (map value_view xs)) ≡ done ++ conditions_of (drop i (map value_view xs))
more_conditions xs i x done new h e n =
    ap (λ k. new ++ conditions_of (drop k (map value_view xs))) (add-one i)
    ∙ ap (λ all. all ++ conditions_of (drop (suc i) (map value_view xs))) n
    ∙ option_between done (result_ok (condition_of (value_view x))) (conditions_of (drop (suc i) (map value_view xs)))
    ∙ ap (λ js. done ++ conditions_of js) (sym (item_next value_view xs i x h e))
