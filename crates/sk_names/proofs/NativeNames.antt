-- The name of a number and the number of a name, by the two tables.
use Rattle.std.proofs.Common.{◌≡◌, ◌≢◌, ℕ, ◌+◌, ◌-◌, ◌<◌, ◌≤◌, List, length, map, slice_get, Some, None, arith, ap, sym, refl, ◌∙◌}
use Rattle.std.proofs.Math.Logic.{⊎_elim}
use Rattle.std.proofs.lemmas.Bool.{cases_lt, lt-ltb, le-ltb}
use Rattle.sk_names.specs.declared.x86_64.names.TheConstants.{EARLY, LATE}
use Rattle.sk_names.specs.X86_64.{name_of, number_named}
use Rattle.sk_names.proofs.Places.{at, is_at, nowhere}

abbrev early : List (List ℕ)
early = map (λ name. name.now) EARLY

abbrev late : List (List ℕ)
late = map (λ name. name.now) LATE

early_name : (nr : ℕ) → nr < 424 → name_of nr ≡ slice_get early nr
unfolding name_of
early_name nr h = rw (lt-ltb nr 424 h) refl

late_name : (nr : ℕ) → 424 ≤ nr → name_of nr ≡ slice_get late (nr - 424)
unfolding name_of
late_name nr h = rw (le-ltb nr 424 h) refl

-- ---- a name of the first table

pub number_early : (place : ℕ) (wanted : List ℕ) → at early wanted ≡ Some place → number_named wanted ≡ Some place
unfolding number_named
number_early place wanted h = rw h refl

pub named_early : (place : ℕ) (wanted : List ℕ) → at early wanted ≡ Some place → name_of place ≡ Some wanted
named_early place wanted h =
    let there = is_at early wanted place h in
    let few : length early ≤ 424 = omega arith in
    early_name place (omega arith) ∙ there.1

-- ---- a name of the second

pub number_late : (place : ℕ) (wanted : List ℕ) → at early wanted ≡ None → at late wanted ≡ Some place → number_named wanted ≡ Some (424 + place)
unfolding number_named
number_late place wanted none h = rw (none, h) refl

pub named_late : (place : ℕ) (wanted : List ℕ) → at late wanted ≡ Some place → name_of (424 + place) ≡ Some wanted
named_late place wanted h =
    let e : (424 + place) - 424 ≡ place = omega arith in
    late_name (424 + place) (omega arith) ∙ ap (slice_get late) e ∙ (is_at late wanted place h).1

-- ---- no name

pub no_number : (wanted : List ℕ) → at early wanted ≡ None → at late wanted ≡ None → number_named wanted ≡ None
unfolding number_named
no_number wanted none_early none_late = rw (none_early, none_late) refl

pub unnamed : (wanted : List ℕ) → at early wanted ≡ None → at late wanted ≡ None → (nr : ℕ) → name_of nr ≢ Some wanted
unnamed wanted none_early none_late nr is =
    ⊎_elim (λ low. nowhere early wanted none_early nr (sym (early_name nr low) ∙ is)) (λ high. nowhere late wanted none_late (nr - 424) (sym (late_name nr high) ∙ is)) (cases_lt nr 424)
