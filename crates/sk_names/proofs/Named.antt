-- Each number that has a name is among the numbers of its architecture.
use Rattle.std.proofs.Common.{◌≡◌, ℕ, zero, suc, ◌+◌, ◌-◌, ◌^◌, ◌<◌, ◌≤◌, ◌⊎◌, Bool, true, false, cond, is_some, IsTrue, inl, inr, List, [], ◌∷◌, length, None, Option, Some, slice_get, arith, ap, refl, sym, subst, ◌∙◌}
use Rattle.std.specs.List.{Contains, range_with_len}
use Rattle.std.specs.Option.{option_map, option_or}
use Rattle.std.proofs.lemmas.Bool.{cases_lt, lt-ltb, le-ltb}
use Rattle.std.proofs.lemmas.Option.{slice_get-map, slice_get_past}
use Rattle.std.proofs.lemmas.List.Elements.{Contains-append_left, Contains-append_right}
use Rattle.sk_names.specs.declared.x86_64.names.TheConstants.{LATE}
use Rattle.sk_names.specs.X86_64.{name_of, named_from, names_end}
use Rattle.sk_names.specs.declared.architecture.Architecture.{Architecture}
use Rattle.sk_names.specs.declared.architecture.Architecture.TheVariants as architecture
use Rattle.sk_names.specs.Names.{Run, name_at, name_in, name_on, runs_of}
use Rattle.sk_names.specs.Numbers.{end_of, numbers_at, numbers_in, numbers_on}

-- ---- x86-64

unnamed : (nr : ℕ) → names_end ≤ nr → name_of nr ≡ None
unfolding name_of
unnamed nr high =
    let past : slice_get LATE (nr - 424) ≡ None = slice_get_past LATE (nr - 424) (omega arith) in
    rw (le-ltb nr 424 (omega arith)) (slice_get-map (λ name. name.now) LATE (nr - 424) ∙ ap (option_map (λ name. name.now)) past)

is_below : (nr : ℕ) → IsTrue (is_some (name_of nr)) → nr < names_end
is_below nr named =
    elim (cases_lt nr names_end) [
      | inl low ↦ low
      | inr high ↦ let none = ap is_some (unnamed nr high) in cc
    ]

by_test : (b : Bool) (nr : ℕ) (numbers : List ℕ) (other : ℕ) → Contains numbers other → Contains (cond b (nr ∷ numbers) numbers) other
by_test true nr numbers other has = let below = has.1 in (suc has.0, omega arith, has.2)
by_test false nr numbers other has = has

-- each number with a name is among those from one on that is not above it
is_among : (count from nr : ℕ) → from ≤ nr → nr < from + count → IsTrue (is_some (name_of nr)) → Contains (named_from count from) nr
unfolding named_from
is_among zero from nr low high named = absurd (omega arith)
is_among (suc count) from nr low high named =
    elim (cases_lt from nr) [
      | inl more ↦ by_test (is_some (name_of from)) from (named_from count (from + 1)) nr (is_among count (from + 1) nr (omega arith) (omega arith) named)
      | inr same ↦
          let is : nr ≡ from = omega arith in
          let named' : is_some (name_of from) ≡ true = subst (λ n. is_some (name_of n) ≡ true) is named in
          rw named' (0, omega arith, sym is)
    ]

-- ---- tables of runs

in_range : (first count nr : ℕ) → first ≤ nr → nr < first + count → Contains (range_with_len first count) nr
in_range first zero nr low high = absurd (omega arith)
in_range first (suc count) nr low high =
    elim (cases_lt first nr) [
      | inl more ↦ let has = in_range (first + 1) count nr (omega arith) (omega arith) in let below = has.1 in (suc has.0, omega arith, has.2)
      | inr same ↦ (0, omega arith, omega arith)
    ]

-- a number that a run gives a name is one of its numbers
in_run : (run : Run) (nr : ℕ) → IsTrue (is_some (name_at run nr)) → (run.0 ≤ nr) × (nr < end_of run)
unfolding name_at
in_run run nr named =
    elim (cases_lt nr run.0) [
      | inl less ↦ let none : is_some (name_at run nr) ≡ false = rw (lt-ltb nr run.0 less) refl in cc
      | inr low ↦ elim (cases_lt nr (end_of run)) [
        | inl high ↦ (low, high)
        | inr past ↦
            let none : is_some (name_at run nr) ≡ false = rw (le-ltb nr run.0 low) (ap is_some (slice_get_past run.1 (nr - run.0) (omega arith))) in cc
      ]
    ]

by_first : (found : Option (List ℕ)) (later : Option (List ℕ)) → IsTrue (is_some (option_or found later)) → (IsTrue (is_some found)) ⊎ (IsTrue (is_some later))
by_first None later named = inr named
by_first (Some name) later named = inl refl

in_runs : (base : ℕ) (runs : List Run) (nr : ℕ) → IsTrue (is_some (name_in runs nr)) → Contains (numbers_in base runs) (base + nr)
unfolding name_in
in_runs base [] nr named = cc
in_runs base (run ∷ runs) nr named =
    elim (by_first (name_at run nr) (name_in runs nr) named) [
      | inl here ↦
          let is = in_run run nr here in
          let low = is.0 in
          let high = is.1 in
          Contains-append_left (numbers_at base run) (numbers_in base runs) (base + nr) (in_range (base + run.0) (length run.1) (base + nr) (omega arith) (omega arith))
      | inr later ↦ Contains-append_right (numbers_at base run) (numbers_in base runs) (base + nr) (in_runs base runs nr later)
    ]

plain_runs : (runs : List Run) (nr : ℕ) → IsTrue (is_some (name_in runs nr)) → Contains (numbers_in 0 runs) nr
plain_runs runs nr named =
    let same : 0 + nr ≡ nr = omega arith in
    subst (Contains (numbers_in 0 runs)) same (in_runs 0 runs nr named)

with_bit : (runs : List Run) (nr : ℕ) → 2 ^ 30 ≤ nr → IsTrue (is_some (name_in runs (nr - 2 ^ 30))) → Contains (numbers_in (2 ^ 30) runs) nr
with_bit runs nr high named =
    let same : 2 ^ 30 + (nr - 2 ^ 30) ≡ nr = omega arith in
    subst (Contains (numbers_in (2 ^ 30) runs)) same (in_runs (2 ^ 30) runs (nr - 2 ^ 30) named)

-- ---- an architecture

pub each_is_there : (by : Architecture) (nr : ℕ) → IsTrue (is_some (name_on by nr)) → Contains (numbers_on by) nr
unfolding name_on numbers_on
each_is_there architecture.X86_64 nr named = is_among names_end 0 nr (omega arith) (is_below nr named) named
each_is_there architecture.X32 nr named =
    elim (cases_lt nr (2 ^ 30)) [
      | inl low ↦ let none : is_some (name_on architecture.X32 nr) ≡ false = rw (lt-ltb nr (2 ^ 30) low) refl in cc
      | inr high ↦ with_bit (runs_of architecture.X32) nr high (rw (le-ltb nr (2 ^ 30) high) at named)
    ]
each_is_there architecture.I386 nr named = plain_runs (runs_of architecture.I386) nr named
each_is_there architecture.Aarch64 nr named = plain_runs (runs_of architecture.Aarch64) nr named
each_is_there architecture.Arm nr named = plain_runs (runs_of architecture.Arm) nr named
each_is_there architecture.Riscv64 nr named = plain_runs (runs_of architecture.Riscv64) nr named
each_is_there architecture.Ppc64le nr named = plain_runs (runs_of architecture.Ppc64le) nr named
each_is_there architecture.S390x nr named = plain_runs (runs_of architecture.S390x) nr named
each_is_there architecture.Loongarch64 nr named = plain_runs (runs_of architecture.Loongarch64) nr named
