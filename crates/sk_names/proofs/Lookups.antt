-- Tables of runs: a number's name, a name's number, and runs that are apart.
use Rattle.std.proofs.Common.{◌≡◌, ◌≢◌, ℕ, ◌+◌, ◌-◌, ◌^◌, ◌<◌, ◌≤◌, ◌&&◌, nat_le, Bool, true, false, List, [], ◌∷◌, slice_get, Option, Some, None, arith, ap, sym, refl, ◌∙◌}
use Rattle.std.specs.Prelude.{IsTrue}
use Rattle.std.specs.Option.{option_or, option_map_or, is_some}
use Rattle.std.specs.Cmp.Derive.{both_true}
use Rattle.std.proofs.Math.Logic.{⊎_elim}
use Rattle.std.proofs.Math.Dec.{leb-zero}
use Rattle.std.proofs.lemmas.Bool.{cases_lt, lt-ltb, le-ltb, le-leb, leb-true, leb-false, false≢true}
use Rattle.std.proofs.lemmas.Option.{slice_get_past}
use Rattle.sk_names.proofs.Places.{at, is_at, nowhere}
use Rattle.sk_names.specs.Names.{Run, name_at, name_in, number_at, number_in}
use Rattle.sk_names.specs.Numbers.{end_of, are_apart}

-- ---- a run

named_low : (run : Run) (nr : ℕ) → nr < run.0 → name_at run nr ≡ None
unfolding name_at
named_low run nr h = rw (lt-ltb nr run.0 h) refl

named_from_first : (run : Run) (nr : ℕ) → run.0 ≤ nr → name_at run nr ≡ slice_get run.1 (nr - run.0)
unfolding name_at
named_from_first run nr h = rw (le-ltb nr run.0 h) refl

pub none_at : (run : Run) (wanted : List ℕ) → at run.1 wanted ≡ None → number_at run wanted ≡ None
unfolding number_at
none_at run wanted h = rw h refl

pub some_at : (run : Run) (wanted : List ℕ) (place : ℕ) → at run.1 wanted ≡ Some place → number_at run wanted ≡ Some (run.0 + place)
unfolding number_at
some_at run wanted place h = rw h refl

-- ---- a table, run by run

name_first : (run : Run) (runs : List Run) (nr : ℕ) → name_in (run ∷ runs) nr ≡ option_or (name_at run nr) (name_in runs nr)
unfolding name_in
name_first run runs nr = refl

number_first : (run : Run) (runs : List Run) (wanted : List ℕ) → number_in (run ∷ runs) wanted ≡ option_or (number_at run wanted) (number_in runs wanted)
unfolding number_in
number_first run runs wanted = refl

pub no_name : (nr : ℕ) → name_in [] nr ≡ None
unfolding name_in
no_name nr = refl

pub no_number : (wanted : List ℕ) → number_in [] wanted ≡ None
unfolding number_in
no_number wanted = refl

pub number_here : (all later : List Run) (run : Run) (wanted : List ℕ) (nr : ℕ) → all ≡ run ∷ later → Some nr ≡ number_at run wanted → number_in all wanted ≡ Some nr
number_here all later run wanted nr first is =
    ap (λ runs. number_in runs wanted) first ∙ number_first run later wanted ∙ ap (λ found. option_or found (number_in later wanted)) (sym is)

pub number_later : (all later : List Run) (run : Run) (wanted : List ℕ) → all ≡ run ∷ later → None ≡ number_at run wanted → number_in all wanted ≡ number_in later wanted
number_later all later run wanted first is =
    ap (λ runs. number_in runs wanted) first ∙ number_first run later wanted ∙ ap (λ found. option_or found (number_in later wanted)) (sym is)

-- ---- runs that are apart

both : (a b : Bool) → (a && b) ≡ true → (a ≡ true) × (b ≡ true)
both true b h = (refl, h)
both false b h = absurd (false≢true h)

apart_first : (from : ℕ) (run : Run) (runs : List Run) → IsTrue (are_apart from (run ∷ runs)) → (from ≤ run.0) × IsTrue (are_apart (end_of run) runs)
apart_first from run runs h =
    let parts = both (nat_le from run.0) (are_apart (end_of run) runs) h in
    (leb-true from run.0 parts.0, parts.1)

pub apart_low : (from : ℕ) (runs : List Run) → IsTrue (are_apart from runs) → from ≤ 2 ^ 30
apart_low from [] h = leb-true from (2 ^ 30) h
apart_low from (run ∷ runs) h =
    let parts = apart_first from run runs h in
    let low = apart_low (end_of run) runs parts.1 in
    omega (arith, parts.0, low)

apart_from_zero : (from : ℕ) (runs : List Run) → IsTrue (are_apart from runs) → IsTrue (are_apart 0 runs)
apart_from_zero from [] h = leb-zero (2 ^ 30)
apart_from_zero from (run ∷ runs) h = both_true (leb-zero run.0) (apart_first from run runs h).1

-- the first run ends low enough, and those behind it are apart
pub apart_next : (all later : List Run) (run : Run) → all ≡ run ∷ later → IsTrue (are_apart 0 all) → (end_of run ≤ 2 ^ 30) × IsTrue (are_apart 0 later)
apart_next all later run first apart =
    let parts = apart_first 0 run later (rw first at apart) in
    (apart_low (end_of run) later parts.1, apart_from_zero (end_of run) later parts.1)

unnamed_below : (from : ℕ) (runs : List Run) (nr : ℕ) → IsTrue (are_apart from runs) → nr < from → name_in runs nr ≡ None
unnamed_below from [] nr h less = no_name nr
unnamed_below from (run ∷ runs) nr h less =
    let parts = apart_first from run runs h in
    let low : nr < run.0 = omega (arith, parts.0, less) in
    name_first run runs nr
    ∙ ap (λ found. option_or found (name_in runs nr)) (named_low run nr low)
    ∙ unnamed_below (end_of run) runs nr parts.1 (omega (arith, low))

-- ---- the name of the number that was found

pub none≢some : {X : Type 0} (x : X) → ◌≡◌ {A = Option X} None (Some x) → ⊥
none≢some x e = false≢true (ap is_some e)

some_is : {X : Type 0} (x y : X) → Some x ≡ Some y → x ≡ y
some_is x y e = ap (λ o. option_map_or (λ z. z) o x) e

by_option : {X : Type 0} (o : Option X) (P : Type 0) → (o ≡ None → P) → ((x : X) → o ≡ Some x → P) → P
by_option None P none some = none refl
by_option (Some x) P none some = some x refl

unnamed_past : (run : Run) (nr : ℕ) → end_of run ≤ nr → name_at run nr ≡ None
unnamed_past run nr h =
    named_from_first run nr (omega arith) ∙ slice_get_past run.1 (nr - run.0) (omega arith)

-- a number of a run has the name there
named_place : (run : Run) (wanted : List ℕ) (place : ℕ) → at run.1 wanted ≡ Some place → name_at run (run.0 + place) ≡ Some wanted
named_place run wanted place h =
    let e : (run.0 + place) - run.0 ≡ place = omega arith in
    named_from_first run (run.0 + place) (omega arith) ∙ ap (slice_get run.1) e ∙ (is_at run.1 wanted place h).1

number_here_first : (run : Run) (runs : List Run) (wanted : List ℕ) (place : ℕ) → at run.1 wanted ≡ Some place → number_in (run ∷ runs) wanted ≡ Some (run.0 + place)
number_here_first run runs wanted place h =
    number_first run runs wanted ∙ ap (λ found. option_or found (number_in runs wanted)) (some_at run wanted place h)

number_not_first : (run : Run) (runs : List Run) (wanted : List ℕ) → at run.1 wanted ≡ None → number_in (run ∷ runs) wanted ≡ number_in runs wanted
number_not_first run runs wanted h =
    number_first run runs wanted ∙ ap (λ found. option_or found (number_in runs wanted)) (none_at run wanted h)

name_not_first : (run : Run) (runs : List Run) (nr : ℕ) → name_at run nr ≡ None → name_in (run ∷ runs) nr ≡ name_in runs nr
name_not_first run runs nr h = name_first run runs nr ∙ ap (λ found. option_or found (name_in runs nr)) h

some_or_none : (found : Option (List ℕ)) → option_or found None ≡ found
some_or_none None = refl
some_or_none (Some name) = refl

-- where no run behind the first begins by a number, the first has its name or none has
pub name_here : (all later : List Run) (run : Run) (nr : ℕ) → all ≡ run ∷ later → IsTrue (are_apart 0 all)
    → ((next : Run) (more : List Run) → later ≡ next ∷ more → false ≡ nat_le next.0 nr) → name_in all nr ≡ name_at run nr
name_here all later run nr first apart behind =
    ap (λ runs. name_in runs nr) first ∙ name_first run later nr
    ∙ ap (option_or (name_at run nr)) (none_behind later (apart_first 0 run later (rw first at apart)).1 behind)
    ∙ some_or_none (name_at run nr)
  where
    none_behind : (later : List Run) → IsTrue (are_apart (end_of run) later)
        → ((next : Run) (more : List Run) → later ≡ next ∷ more → false ≡ nat_le next.0 nr) → name_in later nr ≡ None
    none_behind [] apart behind = no_name nr
    none_behind (next ∷ more) apart behind =
        let less : nr < next.0 = leb-false next.0 nr (sym (behind next more refl)) in
        let parts = apart_first (end_of run) next more apart in
        unnamed_below next.0 (next ∷ more) nr (both_true (le-leb next.0 next.0 (omega arith)) parts.1) less

-- and where the next one begins by it, the first has not
pub name_later : (all later : List Run) (run : Run) (nr : ℕ) → all ≡ run ∷ later → IsTrue (are_apart 0 all) → (later ≡ [] → true ≡ false)
    → ((next : Run) (more : List Run) → later ≡ next ∷ more → true ≡ nat_le next.0 nr) → name_in all nr ≡ name_in later nr
name_later all later run nr first apart some behind =
    ap (λ runs. name_in runs nr) first ∙ name_not_first run later nr (unnamed_past run nr (past later (apart_first 0 run later (rw first at apart)).1 some behind))
  where
    past : (later : List Run) → IsTrue (are_apart (end_of run) later) → (later ≡ [] → true ≡ false)
        → ((next : Run) (more : List Run) → later ≡ next ∷ more → true ≡ nat_le next.0 nr) → end_of run ≤ nr
    past [] apart some behind = absurd (false≢true (sym (some refl)))
    past (next ∷ more) apart some behind =
        let begins : next.0 ≤ nr = leb-true next.0 nr (sym (behind next more refl)) in
        let low = (apart_first (end_of run) next more apart).0 in
        omega (arith, begins, low)

name_by_first : (run : Run) (runs : List Run) (nr : ℕ) (name : List ℕ) → name_at run nr ≡ Some name → name_in (run ∷ runs) nr ≡ Some name
name_by_first run runs nr name h = name_first run runs nr ∙ ap (λ found. option_or found (name_in runs nr)) h

named_here : (run : Run) (runs : List Run) (wanted : List ℕ) (nr place : ℕ) → number_in (run ∷ runs) wanted ≡ Some nr → at run.1 wanted ≡ Some place → name_in (run ∷ runs) nr ≡ Some wanted
named_here run runs wanted nr place is there =
    let e : run.0 + place ≡ nr = some_is (run.0 + place) nr (sym (number_here_first run runs wanted place there) ∙ is) in
    ap (name_in (run ∷ runs)) (sym e) ∙ name_by_first run runs (run.0 + place) wanted (named_place run wanted place there)

-- a number with a name among the runs behind has none in the first one
named_later : (run : Run) (runs : List Run) (wanted : List ℕ) (nr : ℕ) → IsTrue (are_apart (end_of run) runs) → name_in runs nr ≡ Some wanted → name_in (run ∷ runs) nr ≡ Some wanted
named_later run runs wanted nr apart named =
    let past : end_of run ≤ nr =
    ⊎_elim (λ less. absurd (none≢some wanted (sym (unnamed_below (end_of run) runs nr apart less) ∙ named))) (λ more. more) (cases_lt nr (end_of run))
    in
    name_not_first run runs nr (unnamed_past run nr past) ∙ named

pub number_is_named : (from : ℕ) (runs : List Run) (wanted : List ℕ) (nr : ℕ) → IsTrue (are_apart from runs) → number_in runs wanted ≡ Some nr → name_in runs nr ≡ Some wanted
number_is_named from [] wanted nr h is = absurd (none≢some nr (sym (no_number wanted) ∙ is))
number_is_named from (run ∷ runs) wanted nr h is =
    let apart = (apart_first from run runs h).1 in
    by_option (at run.1 wanted) (name_in (run ∷ runs) nr ≡ Some wanted)
    (λ none. named_later run runs wanted nr apart (number_is_named (end_of run) runs wanted nr apart (sym (number_not_first run runs wanted none) ∙ is)))
    (λ place there. named_here run runs wanted nr place is there)

number_is_low : (run : Run) (wanted : List ℕ) (nr : ℕ) → number_at run wanted ≡ Some nr → nr < end_of run
number_is_low run wanted nr is =
    by_option (at run.1 wanted) (nr < end_of run)
    (λ none. absurd (none≢some nr (sym (none_at run wanted none) ∙ is)))
    (λ place there.
    let e : run.0 + place ≡ nr = some_is (run.0 + place) nr (sym (some_at run wanted place there) ∙ is) in
    let less = (is_at run.1 wanted place there).0 in
    omega (arith, e, less))

pub number_here_is_low : (all later : List Run) (run : Run) (wanted : List ℕ) (nr : ℕ) → all ≡ run ∷ later → IsTrue (are_apart 0 all) → Some nr ≡ number_at run wanted → nr < 2 ^ 30
number_here_is_low all later run wanted nr first apart is =
    let low = (apart_next all later run first apart).0 in
    let within = number_is_low run wanted nr (sym is) in
    omega (arith, low, within)

-- ---- a name without a number

not_named : (run : Run) (wanted : List ℕ) (nr : ℕ) → at run.1 wanted ≡ None → name_at run nr ≢ Some wanted
not_named run wanted nr none is =
    ⊎_elim (λ less. none≢some wanted (sym (named_low run nr less) ∙ is))
    (λ more. nowhere run.1 wanted none (nr - run.0) (sym (named_from_first run nr more) ∙ is)) (cases_lt nr run.0)

unnamed_here : (run : Run) (runs : List Run) (wanted : List ℕ) (nr : ℕ) → at run.1 wanted ≡ None → name_in runs nr ≢ Some wanted → name_in (run ∷ runs) nr ≢ Some wanted
unnamed_here run runs wanted nr none later is =
    by_option (name_at run nr) ⊥
    (λ unnamed. later (sym (name_not_first run runs nr unnamed) ∙ is))
    (λ name named. not_named run wanted nr none (named ∙ sym (name_by_first run runs nr name named) ∙ is))

pub none_is_named : (runs : List Run) (wanted : List ℕ) → number_in runs wanted ≡ None → (nr : ℕ) → name_in runs nr ≢ Some wanted
none_is_named [] wanted h nr is = none≢some wanted (sym (no_name nr) ∙ is)
none_is_named (run ∷ runs) wanted h nr is =
    by_option (at run.1 wanted) ⊥
    (λ none. unnamed_here run runs wanted nr none (none_is_named runs wanted (sym (number_not_first run runs wanted none) ∙ h) nr) is)
    (λ place there. none≢some (run.0 + place) (sym h ∙ number_here_first run runs wanted place there))
