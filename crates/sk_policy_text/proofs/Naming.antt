-- The names of calls are words, begin as names do, and are no verdicts'.
use Rattle.std.proofs.Common.{◌≡◌, ◌-◌, ◌^◌, ◌&&◌, ◌∙◌, refl, subst, inl, inr, ℕ, zero, suc, List, [], ◌∷◌, map, Bool, true, not, Option, Some, None}
use Rattle.std.proofs.lemmas.Bool.{and_parts, cases_Bool}
use Rattle.std.specs.Prelude.{nat_lt, slice_get}
use Rattle.std.specs.List.{list_all}
use Rattle.std.specs.Option.{option_or}
use Rattle.sk_text.specs.Words.{is_letter}
use Rattle.sk_names.specs.declared.architecture.Architecture.{Architecture}
use Rattle.sk_names.specs.declared.architecture.Architecture.TheVariants as architecture
use Rattle.sk_names.specs.Names.{Run, name_at, name_in, name_on, runs_of}
use Rattle.sk_names.specs.X86_64.{name_of}
use Rattle.sk_names.specs.declared.x86_64.names.TheConstants.{EARLY, LATE}
use Rattle.sk_policy_text.specs.Words.{is_letter_or_digit, is_word_byte}
use Rattle.sk_policy_text.specs.Verdicts.{names_verdict}
use Rattle.sk_policy_text.specs.Sentences.{begins_name}
use Rattle.sk_policy_text.proofs.Spelling.{is_word}

unfoldable pub is_call : List ℕ → Bool
is_call name = is_word name && (begins_name name && not (names_verdict name))

among : (texts : List (List ℕ)) (place : ℕ) (text : List ℕ) → list_all is_call texts ≡ true → slice_get texts place ≡ Some text → is_call text ≡ true
among [] place text all h = cc
among (first ∷ texts) zero text all h =
    let same : first ≡ text = cc in
    subst (λ (t : List ℕ). is_call t ≡ true) same (and_parts (is_call first) (list_all is_call texts) all).0
among (first ∷ texts) (suc place) text all h = among texts place text (and_parts (is_call first) (list_all is_call texts) all).1 h

early : list_all is_call (map (λ name. name.now) EARLY) ≡ true
unfolding is_call is_word is_word_byte is_letter_or_digit is_letter
early = refl

late : list_all is_call (map (λ name. name.now) LATE) ≡ true
unfolding is_call is_word is_word_byte is_letter_or_digit is_letter
late = refl

native : (nr : ℕ) (name : List ℕ) → name_of nr ≡ Some name → is_call name ≡ true
unfolding name_of
native nr name h = elim (cases_Bool (nat_lt nr 424)) [
  | inl t ↦ among (map (λ n. n.now) EARLY) nr name early (rw t at h)
  | inr f ↦ among (map (λ n. n.now) LATE) (nr - 424) name late (rw f at h)
]

are_calls : List Run → Bool
are_calls runs = list_all (λ run. list_all is_call run.1) runs

tables : (by : Architecture) → are_calls (runs_of by) ≡ true
unfolding are_calls is_call is_word is_word_byte is_letter_or_digit is_letter runs_of
tables architecture.X86_64 = refl
tables architecture.X32 = refl
tables architecture.I386 = refl
tables architecture.Aarch64 = refl
tables architecture.Arm = refl
tables architecture.Riscv64 = refl
tables architecture.Ppc64le = refl
tables architecture.S390x = refl
tables architecture.Loongarch64 = refl

in_run : (run : Run) (nr : ℕ) (name : List ℕ) → list_all is_call run.1 ≡ true → name_at run nr ≡ Some name → is_call name ≡ true
unfolding name_at
in_run run nr name all h = elim (cases_Bool (nat_lt nr run.0)) [
  | inl t ↦ let e : None ≡ Some name = rw t at h in cc
  | inr f ↦ among run.1 (nr - run.0) name all (rw f at h)
]

in_first : (run : Run) (runs : List Run) (nr : ℕ) (name : List ℕ) (found : Option (List ℕ)) → list_all is_call run.1 ≡ true
    → (name_in runs nr ≡ Some name → is_call name ≡ true) → name_at run nr ≡ found → option_or found (name_in runs nr) ≡ Some name → is_call name ≡ true
in_first run runs nr name None all later is h = later h
in_first run runs nr name (Some text) all later is h = in_run run nr name all (is ∙ h)

in_runs : (runs : List Run) (nr : ℕ) (name : List ℕ) → are_calls runs ≡ true → name_in runs nr ≡ Some name → is_call name ≡ true
unfolding are_calls name_in
in_runs [] nr name all h = cc
in_runs (run ∷ runs) nr name all h =
    let parts = and_parts (list_all is_call run.1) (are_calls runs) all in
    in_first run runs nr name (name_at run nr) parts.0 (in_runs runs nr name parts.1) refl h

pub call_named : (by : Architecture) (nr : ℕ) (name : List ℕ) → name_on by nr ≡ Some name → is_call name ≡ true
unfolding name_on
call_named architecture.X86_64 nr name h = native nr name h
call_named architecture.X32 nr name h = elim (cases_Bool (nat_lt nr (2 ^ 30))) [
  | inl t ↦ let e : None ≡ Some name = rw t at h in cc
  | inr f ↦ in_runs (runs_of architecture.X32) (nr - 2 ^ 30) name (tables architecture.X32) (rw f at h)
]
call_named architecture.I386 nr name h = in_runs (runs_of architecture.I386) nr name (tables architecture.I386) h
call_named architecture.Aarch64 nr name h = in_runs (runs_of architecture.Aarch64) nr name (tables architecture.Aarch64) h
call_named architecture.Arm nr name h = in_runs (runs_of architecture.Arm) nr name (tables architecture.Arm) h
call_named architecture.Riscv64 nr name h = in_runs (runs_of architecture.Riscv64) nr name (tables architecture.Riscv64) h
call_named architecture.Ppc64le nr name h = in_runs (runs_of architecture.Ppc64le) nr name (tables architecture.Ppc64le) h
call_named architecture.S390x nr name h = in_runs (runs_of architecture.S390x) nr name (tables architecture.S390x) h
call_named architecture.Loongarch64 nr name h = in_runs (runs_of architecture.Loongarch64) nr name (tables architecture.Loongarch64) h
