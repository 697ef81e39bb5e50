-- Labels stand where jumps go, and nowhere else.
use Rattle.std.proofs.Common.{◌≡◌, ◌≢◌, ◌<◌, ◌+◌, ◌==◌, ◌⊎◌, ◌∙◌, ap, arith, refl, subst, sym, ℕ, zero, suc, List, [], ◌∷◌, true, length, replicate, inl, inr, Option, Some, None, get_or-set_other}
use Rattle.std.proofs.lemmas.Bool.{cases_Bool, eqb-true, eqb-false, false≢true}
use Rattle.std.proofs.lemmas.List.{length-replicate}
use Rattle.std.specs.Prelude.{is_some, slice_get}
use Rattle.sk_insn.specs.Operations.{operation_of}
use Rattle.sk_insn.specs.declared.insn.Insn.{Insn}
use Rattle.sk_filter.specs.Paths.{Onward, Nowhere, To, Either, GoesTo, onward}
use Rattle.sk_show.specs.declared.held.Held.{Held}
use Rattle.sk_show.specs.declared.held.Held.TheVariants.{Other}
use Rattle.sk_show.specs.Holding.{Jumps, Way, held_before, held_behind, joined_ways, jump_to, jumps_behind, landed, next_behind, went, ways_from, ways_to}
use Rattle.sk_show.specs.NoteLaws.{LabelsAreTargets}
use Rattle.sk_show.proofs.InRuns.{goes-at, some-same, stays-there, way-within}
use Rattle.sk_show.proofs.Landing.{HasJump, has-jump, joined-some, jumps-length}

-- ---- each jump has its label

-- a jump that is noted is so until its place
noted-there : (at n : ℕ) (jumps : Jumps) (next : Option Held) (insns : List Insn) (way : Way) → at + length insns ≡ length jumps → HasJump jumps (at + n)
    → slice_get (ways_from at jumps next insns) n ≡ Some way → is_some way.jump ≡ true
noted-there = stays-there (λ way. is_some way ≡ true) (λ way held h. joined-some way held) (λ way. is_some way.jump ≡ true) (λ jump next h. h)

target-noted : (at n m : ℕ) (jumps : Jumps) (next : Option Held) (insns : List Insn) (given : Insn) (there : Way) → at + length insns ≡ length jumps → n + 1 < m
    → slice_get insns n ≡ Some given → GoesTo (at + m) (onward (at + n) (operation_of given.code) given)
    → slice_get (ways_from at jumps next insns) m ≡ Some there → is_some there.jump ≡ true
unfolding ways_from
target-noted at n m jumps next [] given there len before is goes e = cc
target-noted at n zero jumps next (first ∷ insns) given there len before is goes e = absurd (omega arith)
target-noted at zero (suc m) jumps next (first ∷ insns) given there len before is goes e =
    let on = onward at (operation_of first.code) first in
    let behind = held_behind (operation_of first.code) first (held_before (jump_to jumps at) next) in
    let same = some-same first given is in
    let to = goes-at (at + suc m) (at + 1 + m) (at + zero) at given first (omega arith) (omega arith) (sym same) goes in
    let within = way-within (at + 1) m (jumps_behind at on behind jumps) (next_behind at on behind) insns there e in
    let size = jumps-length at on behind jumps in
    noted-there (at + 1) m (jumps_behind at on behind jumps) (next_behind at on behind) insns there (omega (arith, size))
    (has-jump at (at + 1 + m) on behind jumps to (omega arith) (omega arith)) e
target-noted at (suc n) (suc m) jumps next (first ∷ insns) given there len before is goes e =
    let on = onward at (operation_of first.code) first in
    let behind = held_behind (operation_of first.code) first (held_before (jump_to jumps at) next) in
    let size = jumps-length at on behind jumps in
    let to = goes-at (at + suc m) (at + 1 + m) (at + suc n) (at + 1 + n) given given (omega arith) (omega arith) refl goes in
    target-noted (at + 1) n m (jumps_behind at on behind jumps) (next_behind at on behind) insns given there (omega (arith, size)) (omega arith) is to e

-- ---- each label has its jump

-- what is noted was so before, or is the jump
went-from : (at to place : ℕ) (held : Held) (jumps : Jumps) → HasJump (went at to held jumps) place → HasJump jumps place ⊎ ((place ≡ to) × (place ≢ at + 1))
went-from at to place held jumps h = elim (cases_Bool (to == at + 1)) [
  | inl t ↦ inl (rw t at h)
  | inr f ↦
      let noted : HasJump (landed to held jumps) place = rw f at h in
      elim (cases_Bool (place == to)) [
        | inl here ↦
            let same = eqb-true place to here in
            let other = eqb-false to (at + 1) f in
            inr (same, λ next. other (sym same ∙ next))
        | inr there ↦
            let other : place ≢ to = λ same. let e = eqb-false place to there in absurd (e same) in
            inl (ap is_some (sym (get_or-set_other jumps to place (joined_ways (jump_to jumps to) (Some held)) None other)) ∙ noted)
      ]
]

behind-from : (at place : ℕ) (goes : Onward) (held : Held) (jumps : Jumps) → HasJump (jumps_behind at goes held jumps) place
    → HasJump jumps place ⊎ (GoesTo place goes × (place ≢ at + 1))
behind-from at place Nowhere held jumps h = inl h
behind-from at place (To to) held jumps h = went-from at to place held jumps h
behind-from at place (Either to other) held jumps h = elim (went-from at other place held (went at to held jumps) h) [
  | inr second ↦ inr (inr second.0, second.1)
  | inl earlier ↦ elim (went-from at to place held jumps earlier) [
    | inr first ↦ inr (inl first.0, first.1)
    | inl before ↦ inl before
  ]
]

-- one of these instructions goes there
abbrev GoesFrom : ℕ → ℕ → List Insn → Type 0
GoesFrom at m insns =
    (n : ℕ) × ((given : Insn) × (n + 1 < m) × (slice_get insns n ≡ Some given) × GoesTo (at + m) (onward (at + n) (operation_of given.code) given))

label-from : (at m : ℕ) (jumps : Jumps) (next : Option Held) (insns : List Insn) (way : Way) → slice_get (ways_from at jumps next insns) m ≡ Some way
    → is_some way.jump ≡ true → HasJump jumps (at + m) ⊎ GoesFrom at m insns
unfolding ways_from
label-from at m jumps next [] way e h = cc
label-from at zero jumps next (given ∷ insns) way e h =
    let here : at + zero ≡ at = omega arith in
    let same = some-same (record { jump = jump_to jumps at; held = held_before (jump_to jumps at) next }) way e in
    let there : HasJump jumps at = subst (λ (w : Way). is_some w.jump ≡ true) (sym same) h in
    inl (rw here there)
label-from at (suc m) jumps next (given ∷ insns) way e h =
    let on = onward at (operation_of given.code) given in
    let behind = held_behind (operation_of given.code) given (held_before (jump_to jumps at) next) in
    let place : at + 1 + m ≡ at + suc m = omega arith in
    elim (label-from (at + 1) m (jumps_behind at on behind jumps) (next_behind at on behind) insns way e h) [
      | inl noted ↦ elim (behind-from at (at + 1 + m) on behind jumps noted) [
        | inl earlier ↦ inl (subst (λ (p : ℕ). HasJump jumps p) place earlier)
        | inr this ↦
            let other = this.1 in
            let to = goes-at (at + 1 + m) (at + suc m) at (at + zero) given given (omega arith) (omega arith) refl this.0 in
            inr (zero, (given, omega arith, refl, to))
      ]
      | inr (n, (first, before, is, goes)) ↦
          let to = goes-at (at + 1 + m) (at + suc m) (at + 1 + n) (at + suc n) first first (omega arith) (omega arith) refl goes in
          inr (suc n, (first, omega arith, is, to))
    ]

pub none-yet : (n place : ℕ) → jump_to (replicate n None) place ≡ None
none-yet zero place = refl
none-yet (suc n) zero = refl
none-yet (suc n) (suc place) = none-yet n place

pub labels_are_targets : LabelsAreTargets
unfolding ways_to
labels_are_targets insns place way e =
    let size : length (replicate {A = Option Held} (length insns) None) ≡ length insns = length-replicate (length insns) None in (
      λ h. elim (label-from 0 place (replicate (length insns) None) (Some Other) insns way e h) [
        | inl noted ↦ absurd (false≢true (sym (ap is_some (none-yet (length insns) (0 + place))) ∙ noted))
        | inr (n, (given, before, is, goes)) ↦
            let to = goes-at (0 + place) place (0 + n) n given given (omega arith) (omega arith) refl goes in
            (n, before, (given, is, to))
      ],
      λ target.
          let goes = goes-at place (0 + place) target.0 (0 + target.0) target.2.0 target.2.0 (omega arith) (omega arith) refl target.2.2 in
          target-noted 0 target.0 place (replicate (length insns) None) (Some Other) insns target.2.0 way (omega arith) target.1 target.2.1 goes e,
    )
