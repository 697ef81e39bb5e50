-- What a call shows of the verdicts of a chain.
use Rattle.std.specs.Prelude.{ℕ, ◌≡◌, ◌≢◌, ◌+◌, ◌<◌, ◌≤◌, List, [], length, replicate, slice_get, Some}
use Rattle.sk_insn.specs.declared.insn.Insn.{Insn}
use Rattle.sk_insn.specs.declared.record.Record.{Record}
use Rattle.sk_insn.specs.Record.{IsNative, native}
use Rattle.sk_filter.specs.Verdict.{verdict_of, values_of}
use Rattle.sk_show.specs.declared.example.Example.{Example}
use Rattle.sk_show.specs.Runs.{EndsAt}

-- the value stands at the place of the list, and at no earlier one
abbrev pub IsFirstAt : List ℕ → ℕ → ℕ → Type 0
IsFirstAt values value place =
    (slice_get values place ≡ Some value) × ((earlier : ℕ) → earlier < place → slice_get values earlier ≢ Some value)

-- the value comes from this filter, counted from the oldest, whose run ends at this place: of several filters that
-- answer the value the newest is meant (seccomp(2), "the most recently installed filter is executed first")
abbrev pub ComesFrom : List (List Insn) → Record → ℕ → ℕ → ℕ → Type 0
ComesFrom programs call value filter place =
    (newer : ℕ) × (newer + 1 + filter ≡ length programs) × IsFirstAt (values_of programs call) value newer
    × ((insns : List Insn) × (slice_get programs newer ≡ Some insns) × EndsAt insns call value place)

-- the call is of x86-64 and has one of the numbers, the verdict on it is the value, and it comes from this filter, at
-- this place
pub record IsExample (programs : List (List Insn)) (first last value : ℕ) (example : Example) : Type 0 where
  pub native : IsNative example.call
  pub number : (first ≤ example.call.nr) × (example.call.nr ≤ last)
  pub verdict : verdict_of programs example.call ≡ value
  pub source : ComesFrom programs example.call value example.filter example.place

-- the call of x86-64 with this number whose other words are 0
abbrev pub plain_call : ℕ → Record
plain_call nr = native nr 0 (replicate 6 0)

-- a filter is there, the call is of x86-64 and has one of the numbers, and the verdict on it is the value
abbrev pub IsShownBy : List (List Insn) → ℕ → ℕ → ℕ → Record → Type 0
IsShownBy programs first last value call =
    (programs ≢ []) × IsNative call × (first ≤ call.nr) × (call.nr ≤ last) × (verdict_of programs call ≡ value)
