-- Values of JSON as lists.
use Rattle.std.proofs.Common.{◌≡◌, ◌&&◌, ◌||◌, ℕ, ◌+◌, ◌<◌, ◌≤◌, suc, Bool, cond, List, [], ◌∷◌, length, map, drop, get_or, Some, None, true, false, refl, ap, sym, ◌∙◌, rules, Vec, add-one, drop-cons}
use Rattle.std.proofs.Math.ListN.{drop_of_length-le}
use Rattle.std.specs.List.{position_from, list_all, list_any}
use Rattle.json.specs.Strict.{keys}
use Rattle.std.specs.Borrow.{Bor}
use Rattle.std.specs.Option.{option_map}
use Rattle.json.specs.Find.{as_array, as_object}
use Rattle.json.specs.Json.{Json}
use Rattle.json.specs.Value.{items_of, members_view, value_view}
use Rattle.json.specs.declared.value.Value.{Value, Array, Object, the_lemmas}
use Rattle.sk_profile_json.specs.declared.fault.Field.{Field}
use Rattle.sk_profile_json.specs.Fields.{list_of, wrong_members, wrong_keys}

pub all_of_map : {X Y : Type 0} → (p : Y → Bool) (f : X → Y) (xs : List X) → list_all p (map f xs) ≡ list_all (λ x. p (f x)) xs
all_of_map p f [] = refl
all_of_map p f (x ∷ xs) = ap (λ b. p (f x) && b) (all_of_map p f xs)

pub any_of_map : {X Y : Type 0} → (p : Y → Bool) (f : X → Y) (xs : List X) → list_any p (map f xs) ≡ list_any (λ x. p (f x)) xs
any_of_map p f [] = refl
any_of_map p f (x ∷ xs) = ap (λ b. p (f x) || b) (any_of_map p f xs)

-- the items of an array are its values, seen as JSON
pub list_of_items : (js : List Json) → list_of (items_of js) ≡ js
list_of_items [] = refl
list_of_items (j ∷ js) = ap (λ rest. j ∷ rest) (list_of_items js)

array_of : {A : Type 0} → (v : Vec (Value A) A) → as_array (value_view (Array v)) ≡ Some (items_of (map value_view v.items))
array_of v = search (rules, the_lemmas)

pub items_of_array : {A : Type 0} → (v : Vec (Value A) A) → option_map list_of (as_array (value_view (Array v))) ≡ Some (map value_view v.items)
items_of_array v = rw (array_of v, list_of_items (map value_view v.items)) refl

members_of_object : {A : Type 0} → (v : Vec (Bor (List ℕ) × Value A) A) → as_object (value_view (Object v)) ≡ Some (members_view v.items)
members_of_object v = search (rules, the_lemmas)

pub wrong_keys_of_object : {A : Type 0} → (known : List Field) (v : Vec (Bor (List ℕ) × Value A) A)
    → wrong_keys known (value_view (Object v)) ≡ wrong_members known (Some (members_view v.items))
wrong_keys_of_object known v = ap (wrong_members known) (members_of_object v)

-- the first key from a place on that passes
key_at : {A : Type 0} → (p : List ℕ → Bool) (ms : List (Bor (List ℕ) × Value A)) (i : ℕ) (m : Bor (List ℕ) × Value A)
    → i < length ms → m ≡ get_or ms i m
    → position_from p i (keys (members_view (drop i ms)))
    ≡ cond (p m.0.now) (Some i) (position_from p (i + 1) (keys (members_view (drop (suc i) ms))))
key_at p ms i m h e =
    ap (λ rest. position_from p i (keys (members_view rest))) (drop-cons ms i m h)
    ∙ ap (λ x. cond (p x.0.now) (Some i) (position_from p (i + 1) (keys (members_view (drop (suc i) ms))))) (sym e)

pub key_passes : {A : Type 0} → (p : List ℕ → Bool) (ms : List (Bor (List ℕ) × Value A)) (i : ℕ) (m : Bor (List ℕ) × Value A)
    → i < length ms → m ≡ get_or ms i m → p m.0.now ≡ true → position_from p i (keys (members_view (drop i ms))) ≡ Some i
key_passes p ms i m h e passes =
    key_at p ms i m h e ∙ ap (λ b. cond b (Some i) (position_from p (i + 1) (keys (members_view (drop (suc i) ms))))) passes

pub key_fails : {A : Type 0} → (p : List ℕ → Bool) (ms : List (Bor (List ℕ) × Value A)) (i : ℕ) (m : Bor (List ℕ) × Value A)
    → i < length ms → m ≡ get_or ms i m → p m.0.now ≡ false
    → position_from p i (keys (members_view (drop i ms))) ≡ position_from p (i + 1) (keys (members_view (drop (i + 1) ms)))
key_fails p ms i m h e fails =
    key_at p ms i m h e ∙ ap (λ b. cond b (Some i) (position_from p (i + 1) (keys (members_view (drop (suc i) ms))))) fails
    ∙ ap (λ k. position_from p (i + 1) (keys (members_view (drop k ms)))) (sym (add-one i))

pub keys_end : {A : Type 0} → (p : List ℕ → Bool) (ms : List (Bor (List ℕ) × Value A)) (i : ℕ) → length ms ≤ i
    → position_from p i (keys (members_view (drop i ms))) ≡ None
keys_end p ms i h = ap (λ rest. position_from p i (keys (members_view rest))) (drop_of_length-le ms h)
