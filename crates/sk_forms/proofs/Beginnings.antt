-- No constant has a name that begins otherwise than all of their names do.
use Rattle.std.proofs.Common.{◌≡◌, ℕ, zero, suc, ◌<◌, ◌&&◌, List, [], ◌∷◌, get_or, length, Bool, true, false, Option, Some, None, slice_get, position, arith, rules, ap, refl, sym, ◌∙◌}
use Rattle.std.specs.List.{list_all}
use Rattle.std.specs.Option.{option_and_then}
use Rattle.std.specs.Str.{bytes_eq}
use Rattle.std.proofs.lemmas.List.Quantifiers.{position-Some}
use Rattle.std.proofs.lemmas.Slice.Eq.{bytes_eq-Decides}
use Rattle.sk_forms.specs.Names.{all_names, all_numbers, constant_named, may_be_constant}

both : (a b : Bool) → (a && b) ≡ true → (a ≡ true) × (b ≡ true)
both true b h = (refl, h)
both false b h = cc

holds_at : (test : List ℕ → Bool) (names : List (List ℕ)) (k : ℕ) → list_all test names ≡ true → k < length names → test (get_or names k []) ≡ true
holds_at test [] k all less = absurd (omega (arith, less))
holds_at test (name ∷ names) zero all less = (both (test name) (list_all test names) all).0
holds_at test (name ∷ names) (suc k) all less = holds_at test names k (both (test name) (list_all test names) all).1 (omega (arith, less))

by_option : {X : Type 0} (o : Option X) (P : Type 0) → (o ≡ None → P) → ((x : X) → o ≡ Some x → P) → P
by_option None P none some = none refl
by_option (Some x) P none some = some x refl

not_there : (test : List ℕ → Bool) (names : List (List ℕ)) (word : List ℕ) → list_all test names ≡ true → test word ≡ false → position (λ name. bytes_eq name word) names ≡ None
not_there test names word all apart =
    by_option (position (λ name. bytes_eq name word) names) (position (λ name. bytes_eq name word) names ≡ None) (λ none. none)
    (λ k there.
    let first = position-Some (λ name. bytes_eq name word) names k [] there in
    let same : get_or names k [] ≡ word = search (rules, bytes_eq-Decides (get_or names k []) word, first.1) in
    let holds : test word ≡ true = ap test (sym same) ∙ holds_at test names k all first.0 in
    absurd (search (rules, holds, apart)))

all_may_be : list_all may_be_constant all_names ≡ true
unfolding all_names may_be_constant
all_may_be = refl

pub no_constant : (word : List ℕ) → may_be_constant word ≡ false → constant_named word ≡ None
unfolding constant_named
no_constant word apart = ap (option_and_then (slice_get all_numbers)) (not_there may_be_constant all_names word all_may_be apart)
