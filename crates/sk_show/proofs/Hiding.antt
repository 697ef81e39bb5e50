-- A call with a name has a row by itself, and no name is the sign of a row without one.
use Rattle.std.proofs.Common.{◌≡◌, ℕ, zero, suc, ◌+◌, ◌-◌, ◌^◌, nat_lt, Bool, true, inl, inr, List, [], ◌∷◌, length, map, codes, Option, Some, None, slice_get, arith, rules, refl, sym, subst, ◌∙◌}
use Rattle.std.specs.List.{All, list_all}
use Rattle.std.specs.Option.{unwrap_or, option_or}
use Rattle.std.proofs.lemmas.Bool.{cases_lt, lt-ltb, le-ltb}
use Rattle.std.proofs.lemmas.List.Elements.{All-head, All-tail}
use Rattle.std.proofs.lemmas.List.Sums.{AllPass-from_list_all}
use Rattle.sk_names.specs.declared.x86_64.names.TheConstants.{EARLY, LATE}
use Rattle.sk_names.specs.X86_64.{name_of}
use Rattle.sk_names.specs.declared.architecture.Architecture.{Architecture}
use Rattle.sk_names.specs.declared.architecture.Architecture.TheVariants as architecture
use Rattle.sk_names.specs.Names.{Run, name_at, name_in, name_on, runs_of}
use Rattle.sk_show.specs.Lines.{TellsNamedAlone}
use Rattle.sk_show.specs.NamesLaws.{NameIsOfEach, NoNameIsHidden, NamedHasARow}

abbrev has_more : List ℕ → Bool
has_more name = nat_lt 1 (length name)

more_at : (names : List (List ℕ)) (k : ℕ) (name : List ℕ) → All (λ it. has_more it ≡ true) names → slice_get names k ≡ Some name → has_more name ≡ true
more_at [] k name all here = cc
more_at (first ∷ names) zero name all here =
    let is : first ≡ name = cc in subst (λ (n : List ℕ). has_more n ≡ true) is (all 0 first (omega arith))
more_at (first ∷ names) (suc k) name all here = more_at names k name (λ n d less. all (suc n) d (omega arith)) here

-- ---- x86-64

more_of : (nr : ℕ) (name : List ℕ) → name_of nr ≡ Some name → has_more name ≡ true
unfolding name_of
more_of nr name is =
    elim (cases_lt nr 424) [
      | inl low ↦ more_at (map (λ it. it.now) EARLY) nr name (AllPass-from_list_all has_more (map (λ it. it.now) EARLY) refl) (rw (lt-ltb nr 424 low) at is)
      | inr high ↦ more_at (map (λ it. it.now) LATE) (nr - 424) name (AllPass-from_list_all has_more (map (λ it. it.now) LATE) refl) (rw (le-ltb nr 424 high) at is)
    ]

-- ---- the others, by their runs

abbrev has_more_names : Run → Bool
has_more_names run = list_all has_more run.1

all_have_more : (a : Architecture) → list_all has_more_names (runs_of a) ≡ true
unfolding runs_of
all_have_more architecture.X86_64 = refl
all_have_more architecture.X32 = refl
all_have_more architecture.I386 = refl
all_have_more architecture.Aarch64 = refl
all_have_more architecture.Arm = refl
all_have_more architecture.Riscv64 = refl
all_have_more architecture.Ppc64le = refl
all_have_more architecture.S390x = refl
all_have_more architecture.Loongarch64 = refl

more_in_run : (run : Run) (nr : ℕ) (name : List ℕ) → has_more_names run ≡ true → name_at run nr ≡ Some name → has_more name ≡ true
unfolding name_at
more_in_run run nr name all is =
    elim (cases_lt nr run.0) [
      | inl low ↦ let none = rw (lt-ltb nr run.0 low) at is in cc
      | inr high ↦ more_at run.1 (nr - run.0) name (AllPass-from_list_all has_more run.1 all) (rw (le-ltb nr run.0 high) at is)
    ]

by_first : (first rest : Option (List ℕ)) (name : List ℕ) → (first ≡ Some name → has_more name ≡ true) → (rest ≡ Some name → has_more name ≡ true)
    → option_or first rest ≡ Some name → has_more name ≡ true
by_first None rest name here later is = later is
by_first (Some it) rest name here later is = here is

more_in : (runs : List Run) (nr : ℕ) (name : List ℕ) → All (λ run. has_more_names run ≡ true) runs → name_in runs nr ≡ Some name → has_more name ≡ true
unfolding name_in
more_in [] nr name all is = cc
more_in (run ∷ runs) nr name all is =
    by_first (name_at run nr) (name_in runs nr) name (more_in_run run nr name (All-head (λ run. has_more_names run ≡ true) run runs all))
    (more_in runs nr name (All-tail (λ run. has_more_names run ≡ true) run runs all)) is

more_by_runs : (a : Architecture) (nr : ℕ) (name : List ℕ) → name_in (runs_of a) nr ≡ Some name → has_more name ≡ true
more_by_runs a nr name is = more_in (runs_of a) nr name (AllPass-from_list_all has_more_names (runs_of a) (all_have_more a)) is

name_has_more : (a : Architecture) (nr : ℕ) (name : List ℕ) → name_on a nr ≡ Some name → has_more name ≡ true
unfolding name_on
name_has_more architecture.X86_64 nr name is = more_of nr name is
name_has_more architecture.X32 nr name is =
    elim (cases_lt nr (2 ^ 30)) [
      | inl low ↦ let none = rw (lt-ltb nr (2 ^ 30) low) at is in cc
      | inr high ↦ more_by_runs architecture.X32 (nr - 2 ^ 30) name (rw (le-ltb nr (2 ^ 30) high) at is)
    ]
name_has_more architecture.I386 nr name is = more_by_runs architecture.I386 nr name is
name_has_more architecture.Aarch64 nr name is = more_by_runs architecture.Aarch64 nr name is
name_has_more architecture.Arm nr name is = more_by_runs architecture.Arm nr name is
name_has_more architecture.Riscv64 nr name is = more_by_runs architecture.Riscv64 nr name is
name_has_more architecture.Ppc64le nr name is = more_by_runs architecture.Ppc64le nr name is
name_has_more architecture.S390x nr name is = more_by_runs architecture.S390x nr name is
name_has_more architecture.Loongarch64 nr name is = more_by_runs architecture.Loongarch64 nr name is

-- ---- the laws

by_name : (a : Architecture) (nr : ℕ) (name : Option (List ℕ)) → name_on a nr ≡ name → unwrap_or name (codes "-") ≡ codes "-" → name_on a nr ≡ None
by_name a nr None is none = is
by_name a nr (Some name) is none =
    let more = subst (λ (n : List ℕ). has_more n ≡ true) none (name_has_more a nr name is) in cc

pub name_of_each : NameIsOfEach
name_of_each a row nr alone low high = search rules

pub none_hidden : NoNameIsHidden
none_hidden a row nr alone low high none = by_name a nr (name_on a nr) refl (sym (name_of_each a row nr alone low high) ∙ none)

pub row_of_named : NamedHasARow
row_of_named a programs from end nr [] told all low high named = absurd (omega arith)
row_of_named a programs from end nr (row ∷ rows) told all low high named =
    elim (cases_lt row.last nr) [
      | inl behind ↦
          let it = row_of_named a programs (row.last + 1) end nr rows told.4 (All-tail (TellsNamedAlone a) row rows all) (omega arith) high named in
          let below = it.2 in (suc it.0, it.1, omega arith, it.3, it.4)
      | inr here ↦
          let begins = told.0 in
          (0, row, omega arith, refl, All-head (TellsNamedAlone a) row rows all nr named (omega arith) here)
    ]
