-- Laws on examples.
use Rattle.std.specs.Prelude.{ℕ, ◌≡◌, ◌+◌, List, length, slice_get, Some}
use Rattle.sk_insn.specs.declared.insn.Insn.{Insn}
use Rattle.sk_insn.specs.declared.record.Record.{Record}
use Rattle.sk_filter.specs.Meaning.{Returned, meaning_of}
use Rattle.sk_filter.specs.Verdict.{IsAtMost, verdict_of, values_of, precedence_of}
use Rattle.sk_show.specs.Runs.{EndsAt}
use Rattle.sk_show.specs.Examples.{ComesFrom}

-- a filter whose run ends with a value means that value
abbrev pub EndsAreMeanings : Type 0
EndsAreMeanings =
    (insns : List Insn) (call : Record) (value place : ℕ) → EndsAt insns call value place
    → (steps : ℕ) × (meaning_of insns call ≡ Returned value steps)

-- a run ends at one place
abbrev pub RunsEndOnce : Type 0
RunsEndOnce =
    (insns : List Insn) (call : Record) (value other place elsewhere : ℕ)
    → EndsAt insns call value place → EndsAt insns call other elsewhere → place ≡ elsewhere

-- a value comes from one filter, and from one place of it
abbrev pub ValuesComeFromOne : Type 0
ValuesComeFromOne =
    (programs : List (List Insn)) (call : Record) (value filter place other elsewhere : ℕ)
    → ComesFrom programs call value filter place → ComesFrom programs call value other elsewhere
    → (filter ≡ other) × (place ≡ elsewhere)

-- over the filter that the verdict comes from, no value of another filter has precedence: neither by its action nor,
-- with an action of the same precedence, by being newer
abbrev pub VerdictsComeFromTheLeast : Type 0
VerdictsComeFromTheLeast =
    (programs : List (List Insn)) (call : Record) (newer filter place : ℕ)
    → ComesFrom programs call (verdict_of programs call) filter place → newer + 1 + filter ≡ length programs
    → (other value : ℕ) → slice_get (values_of programs call) other ≡ Some value
    → IsAtMost (precedence_of (verdict_of programs call)) newer (precedence_of value) other
