-- The filter at a place of a chain, where those before it are passed.
use Rattle.std.proofs.Common.{◌≡◌, ◌≢◌, ℕ, zero, suc, ◌+◌, ◌<◌, ◌≤◌, inl, inr, List, [], ◌∷◌, length, drop, slice_get, Some, arith, sym, ap, ◌∙◌}
use Rattle.std.proofs.lemmas.Bool.{cases_eq, cases_order}
use Rattle.std.specs.Option.{option_map}
use Rattle.std.proofs.lemmas.List.{length-drop, drop-drop}
use Rattle.std.proofs.lemmas.Option.{slice_get-map, slice_get_past}
use Rattle.sk_insn.specs.declared.insn.Insn.{Insn}
use Rattle.sk_insn.specs.declared.record.Record.{Record}
use Rattle.sk_filter.specs.Meaning.{meaning_of}
use Rattle.sk_filter.specs.Verdict.{meaning_value, values_of}
use Rattle.sk_show.specs.Runs.{EndsAt}
use Rattle.sk_show.proofs.Runs.{ends_with}

-- at no place before this one is the value
abbrev pub IsNotBefore : List ℕ → ℕ → ℕ → Type 0
IsNotBefore values value place = (earlier : ℕ) → earlier < place → slice_get values earlier ≢ Some value

-- one place more with another value
pub nor_here : (values : List ℕ) (value other n : ℕ) → slice_get values n ≡ Some other → other ≢ value → IsNotBefore values value n → IsNotBefore values value (n + 1)
nor_here values value other n here differs before earlier less e =
    elim (cases_eq earlier n) [
      | inl same ↦ differs (let there = ap (slice_get values) same in cc)
      | inr not ↦ before earlier (omega arith) e
    ]

at_front : {X : Type 0} (xs : List X) (n : ℕ) (x : X) (rest : List X) → drop n xs ≡ x ∷ rest → slice_get xs n ≡ Some x
at_front [] zero x rest e = cc
at_front [] (suc n) x rest e = cc
at_front (y ∷ ys) zero x rest e = cc
at_front (y ∷ ys) (suc n) x rest e = at_front ys n x rest e

pub is_at : {X : Type 0} (xs : List X) (n : ℕ) (x : X) (left rest : List X) → left ≡ drop n xs → left ≡ x ∷ rest → slice_get xs n ≡ Some x
is_at xs n x left rest at next = at_front xs n x rest (sym at ∙ next)

-- how many are passed where so many are left
pub is_within : {X : Type 0} (xs : List X) (n : ℕ) (x : X) (left rest : List X) → left ≡ drop n xs → left ≡ x ∷ rest → n < length xs
is_within xs n x left rest at next =
    let e = sym at ∙ next in
    let l = length-drop n xs in
    let m = ap length e in
    omega (arith, l, m)

pub passed : {X : Type 0} (xs : List X) (n : ℕ) (x : X) (left rest : List X) → left ≡ drop n xs → left ≡ x ∷ rest → rest ≡ drop (n + 1) xs
passed xs n x left rest at next = ap (drop 1) (sym next ∙ at) ∙ drop-drop 1 n xs

pub answers_at : (programs : List (List Insn)) (call : Record) (n : ℕ) (program : List Insn) (left rest : List (List Insn)) (value place : ℕ) → left ≡ drop n programs → left ≡ program ∷ rest → EndsAt program call value place → slice_get (values_of programs call) n ≡ Some value
answers_at programs call n program left rest value place at next ends =
    slice_get-map (λ insns. meaning_value (meaning_of insns call)) programs n
    ∙ ap (option_map (λ insns. meaning_value (meaning_of insns call))) (is_at programs n program left rest at next)
    ∙ ap Some (ends_with program call value place ends)

-- where nothing is left all are passed
pub all_passed : {X : Type 0} (xs : List X) (n : ℕ) (left : List X) → left ≡ drop n xs → left ≡ [] → length xs ≤ n
all_passed xs n left at none =
    let e = sym at ∙ none in
    let l = length-drop n xs in
    let m = ap length e in
    omega (arith, l, m)

-- where no program up to the last one answers the value none does
pub none_answers : (programs : List (List Insn)) (call : Record) (value n : ℕ) → length programs ≤ n → IsNotBefore (values_of programs call) value n
    → (newer : ℕ) → slice_get (values_of programs call) newer ≢ Some value
none_answers programs call value n past before newer e =
    elim (cases_order newer n) [
      | inl same ↦ beyond (omega arith)
      | inr (inl less) ↦ before newer less e
      | inr (inr more) ↦ beyond (omega arith)
    ]
  where
    beyond : length programs ≤ newer → ⊥
    beyond far =
        let none = slice_get-map (λ insns. meaning_value (meaning_of insns call)) programs newer
        ∙ ap (option_map (λ insns. meaning_value (meaning_of insns call))) (slice_get_past programs newer far) in
        cc
