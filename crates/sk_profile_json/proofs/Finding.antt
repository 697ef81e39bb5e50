-- What a loop has found in a list up to a place, by a view of its items.
use Rattle.std.proofs.Common.{◌≡◌, ℕ, ◌+◌, ◌<◌, ◌≤◌, suc, Bool, true, false, cond, List, [], ◌∷◌, length, map, drop, get_or, refl, ap, sym, ◌∙◌, add-one}
use Rattle.std.specs.Prelude.{Option, Some, None, filter, find}
use Rattle.std.specs.List.{cons_option, filter_map, fold}
use Rattle.sk_filter.specs.Preceding.{preceding_of}
use Rattle.sk_profile_json.specs.Entries.{Named}
use Rattle.sk_profile_json.specs.Multiplexed.{is_named, value_in}
use Rattle.sk_profile_json.specs.Runc.{greater}
use Rattle.sk_profile_json.proofs.Following.{item_next, items_end}

-- ---- the first that passes

find_at : {X J : Type 0} → (view : X → J) (p : J → Bool) (xs : List X) (i : ℕ) (x : X) (b : Bool) → i < length xs → x ≡ get_or xs i x → p (view x) ≡ b
    → find p (drop i (map view xs)) ≡ cond b (Some (view x)) (find p (drop (suc i) (map view xs)))
find_at view p xs i x b h e t =
    ap (find p) (item_next view xs i x h e) ∙ ap (λ b. cond b (Some (view x)) (find p (drop (suc i) (map view xs)))) t

pub find_here : {X J : Type 0} → (view : X → J) (p : J → Bool) (xs : List X) (i : ℕ) (x : X) → i < length xs → x ≡ get_or xs i x → p (view x) ≡ true
    → find p (drop i (map view xs)) ≡ Some (view x)
find_here view p xs i x h e t = find_at view p xs i x true h e t

pub find_later : {X J : Type 0} → (view : X → J) (p : J → Bool) (xs : List X) (i : ℕ) (x : X) → i < length xs → x ≡ get_or xs i x → p (view x) ≡ false
    → find p (drop (i + 1) (map view xs)) ≡ find p (drop i (map view xs))
find_later view p xs i x h e t = ap (λ k. find p (drop k (map view xs))) (add-one i) ∙ sym (find_at view p xs i x false h e t)

pub find_none : {X J : Type 0} → (view : X → J) (p : J → Bool) (xs : List X) (i : ℕ) → length xs ≤ i → find p (drop i (map view xs)) ≡ None
find_none view p xs i h = ap (find p) (items_end view xs i h)

-- ---- the first of values by precedence

preceding-one : (name : List ℕ) (first : Option ℕ) (it : Named) (rest : List Named) (b : Bool) → is_named name it ≡ b
    → preceding_of (preceding_of first (map value_in (filter (is_named name) (it ∷ [])))) (map value_in (filter (is_named name) rest))
    ≡ preceding_of first (map value_in (filter (is_named name) (it ∷ rest)))
preceding-one name first it rest true e = rw e refl
preceding-one name first it rest false e = rw e refl

pub more_preceding : {X : Type 0} → (view : X → Named) (name : List ℕ) (xs : List X) (i : ℕ) (x : X) (first new : Option ℕ) → i < length xs → x ≡ get_or xs i x
    → new ≡ preceding_of first (map value_in (filter (is_named name) (view x ∷ [])))
    → preceding_of new (map value_in (filter (is_named name) (drop (i + 1) (map view xs))))
    ≡ preceding_of first (map value_in (filter (is_named name) (drop i (map view xs))))
more_preceding view name xs i x first new h e n =
    ap (λ k. preceding_of new (map value_in (filter (is_named name) (drop k (map view xs))))) (add-one i)
    ∙ ap (λ f. preceding_of f (map value_in (filter (is_named name) (drop (suc i) (map view xs))))) n
    ∙ preceding-one name first (view x) (drop (suc i) (map view xs)) (is_named name (view x)) refl
    ∙ ap (λ its. preceding_of first (map value_in (filter (is_named name) its))) (sym (item_next view xs i x h e))

pub preceding_end : {X : Type 0} → (view : X → Named) (name : List ℕ) (xs : List X) (i : ℕ) (first : Option ℕ) → length xs ≤ i
    → preceding_of first (map value_in (filter (is_named name) (drop i (map view xs)))) ≡ first
preceding_end view name xs i first h = ap (λ its. preceding_of first (map value_in (filter (is_named name) its))) (items_end view xs i h)

-- ---- the greatest number

greater-one : (top : ℕ) (o : Option ℕ) (rest : List ℕ) → fold greater (fold greater top (cons_option o [])) rest ≡ fold greater top (cons_option o rest)
greater-one top None rest = refl
greater-one top (Some nr) rest = refl

pub more_greater : {X J : Type 0} → (view : X → J) (f : J → Option ℕ) (xs : List X) (i : ℕ) (x : X) (top new : ℕ) → i < length xs → x ≡ get_or xs i x
    → new ≡ fold greater top (cons_option (f (view x)) [])
    → fold greater new (filter_map f (drop (i + 1) (map view xs))) ≡ fold greater top (filter_map f (drop i (map view xs)))
more_greater view f xs i x top new h e n =
    ap (λ k. fold greater new (filter_map f (drop k (map view xs)))) (add-one i)
    ∙ ap (λ t. fold greater t (filter_map f (drop (suc i) (map view xs)))) n
    ∙ greater-one top (f (view x)) (filter_map f (drop (suc i) (map view xs)))
    ∙ ap (λ js. fold greater top (filter_map f js)) (sym (item_next view xs i x h e))

pub greater_end : {X J : Type 0} → (view : X → J) (f : J → Option ℕ) (xs : List X) (i : ℕ) (top : ℕ) → length xs ≤ i
    → fold greater top (filter_map f (drop i (map view xs))) ≡ top
greater_end view f xs i top h = ap (λ js. fold greater top (filter_map f js)) (items_end view xs i h)
