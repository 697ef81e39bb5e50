-- Names in runs: a run whose names begin otherwise has no such name, and what a run has not stands in the later ones.
use Rattle.std.proofs.Common.{◌≡◌, ℕ, zero, suc, ◌+◌, ◌^◌, ◌==◌, ◌&&◌, ◌<◌, ◌≤◌, ◌++◌, nat_le, List, [], ◌∷◌, get_or, length, Bool, true, false, cond, Option, Some, None, slice_get, arith, ap, refl, subst, sym, ◌∙◌}
use Rattle.std.specs.List.{list_all, position_from, slice_range}
use Rattle.std.specs.Option.{option_map, option_or}
use Rattle.std.specs.Str.{bytes_eq}
use Rattle.std.proofs.lemmas.Bool.{eqb-true, leb-true}
use Rattle.std.proofs.lemmas.Iterator.Adapters.{position_from-zero}
use Rattle.std.proofs.lemmas.Option.{get_or_from_slice_get, slice_get_within}
use Rattle.sk_names.proofs.Places.{at, is_at}
use Rattle.sk_arguments.specs.Runs.{Run, begins_alike, follow, names_of, names_of_all}

pub both : (a b : Bool) → (a && b) ≡ true → (a ≡ true) × (b ≡ true)
both true b h = (refl, h)
both false b h = cc

pub one_of : (test : List ℕ → Bool) (names : List (List ℕ)) (k : ℕ) (name : List ℕ) → list_all test names ≡ true → slice_get names k ≡ Some name → test name ≡ true
one_of test names k name all is =
    ap test (sym (get_or_from_slice_get names k name [] is)) ∙ at_place names k all (slice_get_within names k name is)
  where
    at_place : (names : List (List ℕ)) (k : ℕ) → list_all test names ≡ true → k < length names → test (get_or names k []) ≡ true
    at_place [] k all less = absurd (omega (arith, less))
    at_place (name ∷ names) zero all less = (both (test name) (list_all test names) all).0
    at_place (name ∷ names) (suc k) all less = at_place names k (both (test name) (list_all test names) all).1 (omega (arith, less))

-- ---- a run that is passed over

pub nothing_alike : (text wanted : List ℕ) (names : List (List ℕ)) → list_all (begins_alike text) names ≡ true → begins_alike text wanted ≡ false → at names wanted ≡ None
nothing_alike text wanted names alike other = by_place (at names wanted) refl
  where
    by_place : (found : Option ℕ) → at names wanted ≡ found → at names wanted ≡ None
    by_place None is = is
    by_place (Some k) is = let there = one_of (begins_alike text) names k wanted alike (is_at names wanted k is).1 in cc

-- ---- places in a list of names, from that of its first

abbrev pub first_from : List ℕ → ℕ → List (List ℕ) → Option ℕ
first_from wanted place names = position_from (λ name. bytes_eq name wanted) place names

found_or : (b : Bool) (x r s t : Option ℕ) → option_or x t ≡ x → r ≡ option_or s t → cond b x r ≡ option_or (cond b x s) t
found_or true x r s t here later = sym here
found_or false x r s t here later = later

from_append : {X : Type 0} (test : X → Bool) (place : ℕ) (xs ys : List X)
    → position_from test place (xs ++ ys) ≡ option_or (position_from test place xs) (position_from test (place + length xs) ys)
from_append test place [] ys = ap (λ n. position_from test n ys) (omega arith)
from_append test place (x ∷ xs) ys =
    found_or (test x) (Some place) _ _ (position_from test (place + suc (length xs)) ys) refl
    (from_append test (place + 1) xs ys ∙ ap (λ n. option_or (position_from test (place + 1) xs) (position_from test n ys)) (omega arith))

mapped : (b : Bool) (first place : ℕ) (r s : Option ℕ) → r ≡ option_map (λ k. first + k) s → cond b (Some (first + place)) r ≡ option_map (λ k. first + k) (cond b (Some place) s)
mapped true first place r s later = refl
mapped false first place r s later = later

moved : {X : Type 0} (test : X → Bool) (first place : ℕ) (xs : List X) → position_from test (first + place) xs ≡ option_map (λ k. first + k) (position_from test place xs)
moved test first place [] = refl
moved test first place (x ∷ xs) =
    mapped (test x) first place _ _ (ap (λ n. position_from test n xs) (omega arith) ∙ moved test first (place + 1) xs)

pub from_zero : (wanted : List ℕ) (names : List (List ℕ)) → at names wanted ≡ first_from wanted 0 names
from_zero wanted names = position_from-zero (λ name. bytes_eq name wanted) names

from_first : (wanted : List ℕ) (first : ℕ) (names : List (List ℕ)) → first_from wanted first names ≡ option_map (λ k. first + k) (at names wanted)
from_first wanted first names =
    ap (λ n. first_from wanted n names) (omega arith) ∙ moved (λ name. bytes_eq name wanted) first 0 names ∙ ap (option_map (λ k. first + k)) (sym (from_zero wanted names))

-- ---- runs that follow each other

-- where the names of some runs begin
abbrev pub first_of : List Run → ℕ
first_of [] = 0
first_of (run ∷ runs) = run.0

parts_of : (text : List ℕ) (place : ℕ) (run : Run) (runs : List Run) → follow text place (run ∷ runs) ≡ true
    → (run.1 ≤ run.2) × (run.2 ≤ length text) × (run.0 ≡ place) × (place + length (names_of text run) ≤ 2 ^ 32)
    × (list_all (begins_alike (slice_range text run.1 run.2)) (names_of text run) ≡ true) × (follow text (place + length (names_of text run)) runs ≡ true)
unfolding follow
parts_of text place (first, start, end) runs h =
    let run : Run = (first, start, end) in
    let ordered = nat_le start end in
    let within = nat_le end (length text) in
    let here = first == place in
    let low = nat_le (place + length (names_of text run)) (2 ^ 32) in
    let alike = list_all (begins_alike (slice_range text start end)) (names_of text run) in
    let a = both (ordered && within && here && low && alike) (follow text (place + length (names_of text run)) runs) h in
    let b = both (ordered && within && here && low) alike a.0 in
    let c = both (ordered && within && here) low b.0 in
    let d = both (ordered && within) here c.0 in
    let e = both ordered within d.0 in
    (leb-true _ _ e.0, leb-true _ _ e.1, eqb-true _ _ d.1, leb-true _ _ c.1, b.1, a.1)

-- the runs behind one follow from where they begin
goes_on : (text : List ℕ) (place : ℕ) (runs : List Run) → follow text place runs ≡ true → follow text (first_of runs) runs ≡ true
unfolding follow
goes_on text place [] h = refl
goes_on text place (run ∷ runs) h = subst (λ n. follow text n (run ∷ runs) ≡ true) (sym (parts_of text place run runs h).2) h

pub starts : (text : List ℕ) (runs : List Run) → follow text 0 runs ≡ true → first_of runs ≡ 0
starts text [] h = refl
starts text (run ∷ runs) h = (parts_of text 0 run runs h).2

behind : (text : List ℕ) (run : Run) (runs : List Run) → follow text run.0 (run ∷ runs) ≡ true → (wanted : List ℕ)
    → first_from wanted (run.0 + length (names_of text run)) (names_of_all text runs) ≡ first_from wanted (first_of runs) (names_of_all text runs)
unfolding names_of_all
behind text run [] h wanted = refl
behind text run (next ∷ runs) h wanted =
    let follows = (parts_of text run.0 run (next ∷ runs) h).5 in
    ap (λ n. first_from wanted n (names_of_all text (next ∷ runs))) (sym (parts_of text _ next runs follows).2)

later_in : (text : List ℕ) (run : Run) (runs : List Run) (wanted : List ℕ) (found : Option ℕ) → at (names_of text run) wanted ≡ found
    → first_from wanted run.0 (names_of_all text (run ∷ runs))
    ≡ option_or (option_map (λ k. run.0 + k) found) (first_from wanted (run.0 + length (names_of text run)) (names_of_all text runs))
unfolding names_of_all
later_in text run runs wanted found is =
    from_append (λ name. bytes_eq name wanted) run.0 (names_of text run) (names_of_all text runs)
    ∙ ap (λ o. option_or o (first_from wanted (run.0 + length (names_of text run)) (names_of_all text runs)))
    (from_first wanted run.0 (names_of text run) ∙ ap (option_map (λ k. run.0 + k)) is)

-- ---- the first of the runs that are left

followed : (text : List ℕ) (rest runs : List Run) (run : Run) → rest ≡ run ∷ runs → follow text (first_of rest) rest ≡ true → follow text run.0 (run ∷ runs) ≡ true
followed text rest runs run is h = subst (λ rest. follow text (first_of rest) rest ≡ true) is h

pub run_is : (text : List ℕ) (rest runs : List Run) (run : Run) → rest ≡ run ∷ runs → follow text (first_of rest) rest ≡ true
    → (run.1 ≤ run.2) × (run.2 ≤ length text) × (run.0 + length (names_of text run) ≤ 2 ^ 32)
    × (list_all (begins_alike (slice_range text run.1 run.2)) (names_of text run) ≡ true) × (follow text (first_of runs) runs ≡ true)
run_is text rest runs run is h =
    let parts = parts_of text run.0 run runs (followed text rest runs run is h) in
    (parts.0, parts.1, parts.3, parts.4, goes_on text _ runs parts.5)

pub found_here : (text : List ℕ) (rest runs : List Run) (run : Run) (wanted : List ℕ) (k : ℕ) → rest ≡ run ∷ runs → at (names_of text run) wanted ≡ Some k
    → first_from wanted (first_of rest) (names_of_all text rest) ≡ Some (run.0 + k)
found_here text rest runs run wanted k is there =
    ap (λ rest. first_from wanted (first_of rest) (names_of_all text rest)) is ∙ later_in text run runs wanted (Some k) there

pub found_later : (text : List ℕ) (rest runs : List Run) (run : Run) (wanted : List ℕ) → rest ≡ run ∷ runs → follow text (first_of rest) rest ≡ true
    → at (names_of text run) wanted ≡ None
    → first_from wanted (first_of rest) (names_of_all text rest) ≡ first_from wanted (first_of runs) (names_of_all text runs)
found_later text rest runs run wanted is h none =
    ap (λ rest. first_from wanted (first_of rest) (names_of_all text rest)) is
    ∙ later_in text run runs wanted None none
    ∙ behind text run runs (followed text rest runs run is h) wanted

pub nothing_left : (text : List ℕ) (rest : List Run) (wanted : List ℕ) → length rest ≡ 0 → first_from wanted (first_of rest) (names_of_all text rest) ≡ None
unfolding names_of_all
nothing_left text [] wanted none = refl
nothing_left text (run ∷ runs) wanted none = absurd (omega (arith, none))
