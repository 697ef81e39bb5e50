-- What a loop has gathered up to a place.
use Rattle.std.proofs.Common.{◌≡◌, ℕ, ◌+◌, ◌<◌, ◌≤◌, zero, suc, List, [], ◌∷◌, ◌++◌, length, map, drop, get_or, Result, Ok, Err, refl, ap, sym, ◌∙◌, add-one, append_assoc, append-nil, arith}
use Rattle.std.specs.Prelude.{Option}
use Rattle.std.specs.List.{cons_option, filter_map}
use Rattle.json.specs.Value.{value_view}
use Rattle.json.specs.declared.value.Value.{Value}
use Rattle.sk_profile_json.specs.Entries.{Named}
use Rattle.sk_profile_json.specs.declared.context.Context.{Context}
use Rattle.sk_profile_json.specs.declared.fault.Fault.{Fault}
use Rattle.sk_profile_json.specs.declared.fault.ReadFault.{ReadFault}
use Rattle.sk_profile_json.specs.declared.fault.ReadFault.TheVariants as read
use Rattle.sk_profile_json.specs.Fields.{result_then}
use Rattle.sk_profile_json.specs.Wholes.{before, entry_named, named_from, IsFault}
use Rattle.sk_profile_json.proofs.Following.{item_next, items_end, option_between}

-- ---- what is found in a list, by a view of its items

pub more_found : {A J X : Type 0} → (view : A → J) (f : J → Option X) (xs : List A) (i : ℕ) (x : A) (done new : List X)
    → i < length xs → x ≡ get_or xs i x → new ≡ done ++ cons_option (f (view x)) []
    → new ++ filter_map f (drop (i + 1) (map view xs)) ≡ done ++ filter_map f (drop i (map view xs))
more_found view f xs i x done new h e n =
    ap (λ k. new ++ filter_map f (drop k (map view xs))) (add-one i)
    ∙ ap (λ all. all ++ filter_map f (drop (suc i) (map view xs))) n
    ∙ option_between done (f (view x)) (filter_map f (drop (suc i) (map view xs)))
    ∙ ap (λ js. done ++ filter_map f js) (sym (item_next view xs i x h e))

-- an item within is the same whatever stands for one past the end
same_item : {X : Type 0} → (xs : List X) (i : ℕ) (d e : X) → i < length xs → get_or xs i d ≡ get_or xs i e
same_item [] i d e h = absurd (omega arith)
same_item (x ∷ xs) zero d e h = refl
same_item (x ∷ xs) (suc i) d e h = same_item xs i d e (omega arith)

pub more_found_at : {A J X : Type 0} → (view : A → J) (f : J → Option X) (xs : List A) (i : ℕ) (d : A) (done new : List X)
    → i < length xs → new ≡ done ++ cons_option (f (view (get_or xs i d))) []
    → new ++ filter_map f (drop (i + 1) (map view xs)) ≡ done ++ filter_map f (drop i (map view xs))
more_found_at view f xs i d done new h n = more_found view f xs i (get_or xs i d) done new h (same_item xs i d (get_or xs i d) h) n

-- ---- what entries say

pub before_none : (told : Result (List Named) Fault) → before [] told ≡ told
before_none (Ok rules) = refl
before_none (Err fault) = refl

before_both : (rules more : List Named) (told : Result (List Named) Fault) → before (rules ++ more) told ≡ before rules (before more told)
before_both rules more (Ok rest) = ap (λ all. Ok all) (append_assoc rules more rest)
before_both rules more (Err fault) = refl

-- an entry's rules go between those of the entries before it and after it
between : (done new : List Named) (told rest : Result (List Named) Fault) → before done told ≡ Ok new
    → before new rest ≡ before done (result_then (λ named. before named rest) told)
between done new (Ok rules) rest e =
    let same : done ++ rules ≡ new = cc in ap (λ all. before all rest) (sym same) ∙ before_both done rules rest
between done new (Err fault) rest e = cc

pub more_entries : {A : Type 0} → (context : Context) (xs : List (Value A)) (i : ℕ) (x : Value A) (done new : List Named)
    → i < length xs → x ≡ get_or xs i x → before done (entry_named context i (value_view x)) ≡ Ok new
    → before new (named_from context (i + 1) (drop (i + 1) (map value_view xs))) ≡ before done (named_from context i (drop i (map value_view xs)))
more_entries context xs i x done new h e n =
    ap (λ k. before new (named_from context (i + 1) (drop k (map value_view xs)))) (add-one i)
    ∙ between done new (entry_named context i (value_view x)) (named_from context (i + 1) (drop (suc i) (map value_view xs))) n
    ∙ ap (λ js. before done (named_from context i js)) (sym (item_next value_view xs i x h e))

pub wrong_entry : {A : Type 0} → (context : Context) (xs : List (Value A)) (i : ℕ) (x : Value A) (done : List Named) (fault : Fault)
    → i < length xs → x ≡ get_or xs i x → entry_named context i (value_view x) ≡ Err fault
    → before done (named_from context i (drop i (map value_view xs))) ≡ Err fault
wrong_entry context xs i x done fault h e w =
    ap (λ js. before done (named_from context i js)) (item_next value_view xs i x h e)
    ∙ ap (λ told. before done (result_then (λ named. before named (named_from context (i + 1) (drop (suc i) (map value_view xs)))) told)) w

pub entries_end : {A : Type 0} → (context : Context) (xs : List (Value A)) (i : ℕ) (done : List Named) → length xs ≤ i
    → before done (named_from context i (drop i (map value_view xs))) ≡ Ok done
entries_end context xs i done h =
    ap (λ js. before done (named_from context i js)) (items_end value_view xs i h) ∙ ap (λ all. Ok all) (append-nil done)

pub fault_here : {A : Type 0} → (context : Context) (xs : List (Value A)) (i : ℕ) (x : Value A) (done : List Named) (fault : ReadFault)
    → i < length xs → x ≡ get_or xs i x
    → before done (named_from context i (drop i (map value_view xs))) ≡ named_from context 0 (map value_view xs)
    → IsFault (entry_named context i (value_view x)) fault → IsFault (named_from context 0 (map value_view xs)) fault
fault_here context xs i x done (read.Profile fault) h e same w = sym same ∙ wrong_entry context xs i x done fault h e w
fault_here context xs i x done read.Memory h e same w = tt
fault_here context xs i x done (read.NotJson slip) h e same w = w
fault_here context xs i x done read.KeyTwice h e same w = w
fault_here context xs i x done (read.NoProfile why) h e same w = w
