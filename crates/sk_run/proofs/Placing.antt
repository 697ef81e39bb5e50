-- The levels by the places of pids.
use Rattle.std.proofs.Common.{◌≡◌, ◌≢◌, ◌∙◌, ℕ, zero, suc, ◌<◌, ◌==◌, true, false, cond, List, [], ◌∷◌, ◌++◌, length, get_or, slice_get, Option, Some, refl, ap, arith}
use Rattle.std.proofs.Math.ListN.{set}
use Rattle.std.specs.Option.{option_map_or}
use Rattle.std.proofs.lemmas.Bool.{eqb-true, eqb-false}
use Rattle.std.proofs.lemmas.Option.{slice_get_read}
use Rattle.sk_run.specs.Levels.{Stack, alone, first_call, stacked}
use Rattle.sk_run.specs.declared.levels.Levels.{Levels}
use Rattle.sk_run.specs.views.Stacks.{stack_of, stacks_of}

-- the levels that stand at a place, if it is there
abbrev shown : Option Levels → Stack
shown o = option_map_or stack_of o (alone (first_call 0))

-- the levels of a place that is there
pub levels_there : (places : List Levels) (n place : ℕ) (levels : Levels) → n ≡ length places → place < n → levels ≡ get_or places place levels
    → stack_of levels ≡ stacks_of places place
levels_there places n place levels count within is =
    let found = slice_get_read places n place levels count within is in
    rw found refl

-- one more place, with the levels that those without a place have
more_at : (places : List Levels) (levels : Levels) → stack_of levels ≡ alone (first_call 0) → (pid : ℕ) → stacks_of (places ++ levels ∷ []) pid ≡ stacks_of places pid
more_at [] levels same zero = same
more_at [] levels same (suc pid) = refl
more_at (x ∷ places) levels same zero = refl
more_at (x ∷ places) levels same (suc pid) = more_at places levels same pid

pub more_places : (places : List Levels) (levels : Levels) → stack_of levels ≡ alone (first_call 0) → stacks_of (places ++ levels ∷ []) ≡ stacks_of places
more_places places levels same = λ i pid. more_at places levels same pid i

-- the levels of one place were written
set_here : (places : List Levels) (place : ℕ) (levels : Levels) → place < length places → slice_get (set places place levels) place ≡ Some levels
set_here [] place levels within = absurd (omega arith)
set_here (x ∷ places) zero levels within = refl
set_here (x ∷ places) (suc place) levels within = set_here places place levels (omega arith)

set_other : (places : List Levels) (place pid : ℕ) (levels : Levels) → pid ≢ place → slice_get (set places place levels) pid ≡ slice_get places pid
set_other [] zero pid levels ne = refl
set_other [] (suc place) pid levels ne = refl
set_other (x ∷ places) zero zero levels ne = absurd (ne refl)
set_other (x ∷ places) zero (suc pid) levels ne = refl
set_other (x ∷ places) (suc place) zero levels ne = refl
set_other (x ∷ places) (suc place) (suc pid) levels ne = set_other places place pid levels (λ e. ne (ap suc e))

written_at : (places : List Levels) (place : ℕ) (levels : Levels) → place < length places → (pid : ℕ)
    → stacks_of (set places place levels) pid ≡ stacked place (stack_of levels) (stacks_of places) pid
written_at places place levels within pid =
    elim (pid == place) as (λ b. (pid == place) ≡ b → shown (slice_get (set places place levels) pid) ≡ cond b (stack_of levels) (shown (slice_get places pid))) [
      | true ↦ λ is. ap (λ k. shown (slice_get (set places place levels) k)) (eqb-true pid place is) ∙ ap shown (set_here places place levels within)
      | false ↦ λ ne. ap shown (set_other places place pid levels (eqb-false pid place ne))
    ] refl

pub written : (places : List Levels) (place : ℕ) (levels : Levels) → place < length places
    → stacks_of (set places place levels) ≡ stacked place (stack_of levels) (stacks_of places)
written places place levels within = λ i pid. written_at places place levels within pid i
