-- An example names one filter, and one place of it.
use Rattle.std.proofs.Common.{◌≡◌, ◌≢◌, ℕ, ℤ, zero, suc, ◌+◌, ◌<◌, ◌≤◌, inl, inr, List, [], length, Some, slice_get, sym, ap, ◌∙◌, subst, arith}
use Rattle.std.proofs.lemmas.Bool.{cases_order}
use Rattle.sk_insn.specs.declared.insn.Insn.{Insn}
use Rattle.sk_insn.specs.declared.record.Record.{Record}
use Rattle.sk_insn.specs.Operations.{operation_of}
use Rattle.sk_filter.specs.Meaning.{Returned, State, effect, GoesOn, meaning_of}
use Rattle.sk_filter.proofs.Meanings.{ends}
use Rattle.sk_filter.specs.Verdict.{IsAtMost, verdict_of, values_of, precedence_of}
use Rattle.sk_filter.proofs.Verdicts.{verdict_of_least}
use Rattle.sk_show.specs.Runs.{ComesTo, EndsAt}
use Rattle.sk_show.specs.Examples.{IsFirstAt}
use Rattle.sk_show.specs.ExamplesLaws.{EndsAreMeanings, RunsEndOnce, ValuesComeFromOne, VerdictsComeFromTheLeast}
use Rattle.sk_show.proofs.Runs.{means_what_is_left}

counted : (insns : List Insn) (call : Record) (value place : ℕ) (end : EndsAt insns call value place) → meaning_of insns call ≡ Returned value (end.0 + 1)
counted insns call value place (steps, s, comes, (insn, here, does)) =
    ends insns place insn call s value steps (meaning_of insns call) here does (means_what_is_left insns call steps place s comes)

pub ends_are_meanings : EndsAreMeanings
ends_are_meanings insns call value place end = (end.0 + 1, counted insns call value place end)

-- from one place in one state the run goes on to one place, in one state
goes_to_one : (insns : List Insn) (call : Record) (before before' : ℕ) (s s' : State) (insn insn' : Insn) (skip skip' : ℕ) (after after' : State)
    → before ≡ before' → s ≡ s' → slice_get insns before ≡ Some insn → slice_get insns before' ≡ Some insn'
    → effect (operation_of insn.code) insn call s ≡ GoesOn skip after → effect (operation_of insn'.code) insn' call s' ≡ GoesOn skip' after'
    → (skip ≡ skip') × (after ≡ after')
goes_to_one insns call before before' s s' insn insn' skip skip' after after' place state here here' does does' =
    let insn-same : insn ≡ insn' = let there = sym here ∙ ap (slice_get insns) place ∙ here' in cc in
    let same : GoesOn skip after ≡ GoesOn skip' after' =
    sym does ∙ ap (λ (i : Insn). effect (operation_of i.code) i call s) insn-same ∙ ap (λ s. effect (operation_of insn'.code) insn' call s) state ∙ does' in
    (cc, cc)

comes_to_one : (insns : List Insn) (call : Record) (steps place elsewhere : ℕ) (s s' : State) → ComesTo insns call steps place s → ComesTo insns call steps elsewhere s'
    → (place ≡ elsewhere) × (s ≡ s')
comes_to_one insns call zero place elsewhere s s' comes comes' = (comes.0 ∙ sym comes'.0, comes.1 ∙ sym comes'.1)
comes_to_one insns call (suc steps) place elsewhere s s' (before, earlier, comes, (insn, here, (skip, does, lands))) (before', earlier', comes', (insn', here', (skip', does', lands'))) =
    let one = comes_to_one insns call steps before before' earlier earlier' comes comes' in
    let next = goes_to_one insns call before before' earlier earlier' insn insn' skip skip' s s' one.0 one.1 here here' does does' in
    let places = one.0 in
    let skips = next.0 in
    (omega arith, next.1)

pub runs_end_once : RunsEndOnce
runs_end_once insns call value other place elsewhere end end' =
    let same : Returned value (end.0 + 1) ≡ Returned other (end'.0 + 1) = sym (counted insns call value place end) ∙ counted insns call other elsewhere end' in
    let more : end.0 + 1 ≡ end'.0 + 1 = cc in
    let count : end.0 ≡ end'.0 = omega arith in
    (comes_to_one insns call end'.0 place elsewhere end.1 end'.1 (subst (λ n. ComesTo insns call n place end.1) count end.2) end'.2).0

-- the first place of a value is one
first_is_one : (values : List ℕ) (value place other : ℕ) → IsFirstAt values value place → IsFirstAt values value other → place ≡ other
first_is_one values value place other first first' =
    elim (cases_order place other) [
      | inl same ↦ same
      | inr (inl less) ↦ absurd (first'.1 place less first.0)
      | inr (inr less) ↦ absurd (first.1 other less first'.0)
    ]

pub values_come_from_one : ValuesComeFromOne
values_come_from_one programs call value filter place other elsewhere (newer, counts, first, (insns, here, end)) (newer', counts', first', (insns', here', end')) =
    let same = first_is_one (values_of programs call) value newer newer' first first' in
    let there : insns ≡ insns' = let both = sym here ∙ ap (slice_get programs) same ∙ here' in cc in (
      omega (arith, same, counts, counts'),
      runs_end_once insns' call value value place elsewhere (subst (λ i. EndsAt i call value place) there end) end',
    )

-- what comes first of several places with one value
at_most_from : (precedence other_precedence : ℤ) (place later other : ℕ) → place ≤ later → IsAtMost precedence later other_precedence other → IsAtMost precedence place other_precedence other
at_most_from precedence other_precedence place later other le (inl less) = inl less
at_most_from precedence other_precedence place later other le (inr same) = inr (same.0, let more = same.1 in omega arith)

pub verdicts_come_from_the_least : VerdictsComeFromTheLeast
verdicts_come_from_the_least programs call newer filter place (newer', counts', first, source) counts other value there =
    let some : programs ≢ [] = λ none. let n = ap length none in let count = counts in omega (arith, n, count) in
    let least = verdict_of_least programs call some in
    let same : newer ≡ newer' = omega (arith, counts, counts') in
    at_most_from (precedence_of (verdict_of programs call)) (precedence_of value) newer least.0 other
    (not_later newer newer' least.0 same (λ less. first.1 least.0 less least.1))
    (least.2 other value there)
  where
    not_later : (n m k : ℕ) → n ≡ m → (k < m → ⊥) → n ≤ k
    not_later n m k same not = elim (cases_order k m) [ inl e ↦ omega arith | inr (inl less) ↦ absurd (not less) | inr (inr less) ↦ omega arith ]
