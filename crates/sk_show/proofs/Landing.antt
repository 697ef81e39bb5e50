-- What is noted of a jump where it goes stays so.
use Rattle.std.proofs.Common.{◌≡◌, ◌≢◌, ◌<◌, ◌+◌, ◌==◌, ◌∙◌, arith, refl, subst, sym, ℕ, length, inl, inr, Option, Some, None, true, length-set, get_or-set_same, get_or-set_other}
use Rattle.std.proofs.lemmas.Bool.{cases_Bool, eqb-true, eqb-false, ne_eqb}
use Rattle.std.specs.Prelude.{is_some}
use Rattle.sk_filter.specs.Paths.{Onward, Nowhere, To, Either, GoesTo}
use Rattle.sk_show.specs.declared.held.Held.{Held}
use Rattle.sk_show.specs.Holding.{Jumps, joined_ways, jump_to, jumps_behind, landed, went}

went-length : (at place : ℕ) (held : Held) (jumps : Jumps) → length (went at place held jumps) ≡ length jumps
went-length at place held jumps = elim (cases_Bool (place == at + 1)) [
  | inl t ↦ rw t refl
  | inr f ↦ rw f (length-set jumps place (joined_ways (jump_to jumps place) (Some held)))
]

pub jumps-length : (at : ℕ) (goes : Onward) (held : Held) (jumps : Jumps) → length (jumps_behind at goes held jumps) ≡ length jumps
jumps-length at Nowhere held jumps = refl
jumps-length at (To place) held jumps = went-length at place held jumps
jumps-length at (Either place other) held jumps = went-length at other held (went at place held jumps) ∙ went-length at place held jumps

-- a fact of what is noted that a further jump leaves
module _ (P : Option Held → Type 0) (keeps : (way : Option Held) (held : Held) → P way → P (joined_ways way (Some held))) where
  landed-here : (place : ℕ) (held : Held) (jumps : Jumps) → place < length jumps → P (joined_ways (jump_to jumps place) (Some held)) → P (jump_to (landed place held jumps) place)
  landed-here place held jumps within h = subst P (sym (get_or-set_same jumps place (joined_ways (jump_to jumps place) (Some held)) None within)) h

  landed-kept : (to place : ℕ) (held : Held) (jumps : Jumps) → place < length jumps → P (jump_to jumps place) → P (jump_to (landed to held jumps) place)
  landed-kept to place held jumps within h = elim (cases_Bool (place == to)) [
    | inl t ↦
        subst (λ (q : ℕ). P (jump_to (landed q held jumps) place)) (eqb-true place to t)
        (landed-here place held jumps within (keeps (jump_to jumps place) held h))
    | inr f ↦
        let other : place ≢ to = λ same. let e = eqb-false place to f in absurd (e same) in
        subst P (sym (get_or-set_other jumps to place (joined_ways (jump_to jumps to) (Some held)) None other)) h
  ]

  went-kept : (at to place : ℕ) (held : Held) (jumps : Jumps) → place < length jumps → P (jump_to jumps place) → P (jump_to (went at to held jumps) place)
  went-kept at to place held jumps within h = elim (cases_Bool (to == at + 1)) [
    | inl t ↦ rw t h
    | inr f ↦ rw f (landed-kept to place held jumps within h)
  ]

  pub kept-jump : (at place : ℕ) (goes : Onward) (held : Held) (jumps : Jumps) → place < length jumps → P (jump_to jumps place) → P (jump_to (jumps_behind at goes held jumps) place)
  kept-jump at place Nowhere held jumps within h = h
  kept-jump at place (To to) held jumps within h = went-kept at to place held jumps within h
  kept-jump at place (Either to other) held jumps within h =
      let len = went-length at to held jumps in
      went-kept at other place held (went at to held jumps) (omega arith) (went-kept at to place held jumps within h)

  -- and that it brings
  module _ (held : Held) (brings : (way : Option Held) → P (joined_ways way (Some held))) where
    went-here : (at place : ℕ) (jumps : Jumps) → at + 1 < place → place < length jumps → P (jump_to (went at place held jumps) place)
    went-here at place jumps further within =
        let f = ne_eqb place (at + 1) (λ same. absurd (omega arith)) in
        rw f (landed-here place held jumps within (brings (jump_to jumps place)))

    pub landed-jump : (at place : ℕ) (goes : Onward) (jumps : Jumps) → GoesTo place goes → at + 1 < place → place < length jumps → P (jump_to (jumps_behind at goes held jumps) place)
    landed-jump at place Nowhere jumps goes further within = absurd goes
    landed-jump at place (To to) jumps goes further within = rw (← goes) (went-here at place jumps further within)
    landed-jump at place (Either to other) jumps (inl here) further within =
        let len = went-length at to held jumps in
        let first : P (jump_to (went at to held jumps) place) = rw (← here) (went-here at place jumps further within) in
        went-kept at other place held (went at to held jumps) (omega arith) first
    landed-jump at place (Either to other) jumps (inr here) further within =
        let len = went-length at to held jumps in
        rw (← here) (went-here at place (went at to held jumps) further (omega arith))

-- ---- a jump goes there

abbrev pub HasJump : Jumps → ℕ → Type 0
HasJump jumps place = is_some (jump_to jumps place) ≡ true

pub joined-some : (way : Option Held) (held : Held) → is_some (joined_ways way (Some held)) ≡ true
joined-some None held = refl
joined-some (Some one) held = refl

pub still-jump : (at place : ℕ) (goes : Onward) (held : Held) (jumps : Jumps) → place < length jumps → HasJump jumps place → HasJump (jumps_behind at goes held jumps) place
still-jump at place goes held jumps within h = kept-jump (λ way. is_some way ≡ true) (λ way held h. joined-some way held) at place goes held jumps within h

pub has-jump : (at place : ℕ) (goes : Onward) (held : Held) (jumps : Jumps) → GoesTo place goes → at + 1 < place → place < length jumps → HasJump (jumps_behind at goes held jumps) place
has-jump at place goes held jumps to further within =
    landed-jump (λ way. is_some way ≡ true) (λ way held h. joined-some way held) held (λ way. joined-some way held) at place goes jumps to further within
