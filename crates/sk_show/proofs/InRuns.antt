-- What A is taken to hold it holds in each run.
use Rattle.std.proofs.Common.{◌≡◌, ◌<◌, ◌+◌, ◌==◌, ◌⊎◌, ◌∙◌, ap, arith, refl, subst, sym, ℕ, zero, suc, List, [], ◌∷◌, Bool, true, false, length, cond, replicate, inl, inr, Option, Some, None}
use Rattle.std.proofs.lemmas.Bool.{cases_Bool, eq-eqb, eqb-true}
use Rattle.std.proofs.lemmas.List.{length-replicate}
use Rattle.std.proofs.lemmas.Option.{slice_get_within}
use Rattle.std.specs.Prelude.{nat_lt, slice_get}
use Rattle.sk_insn.specs.Operations.{operation_of}
use Rattle.sk_insn.specs.Record.{word_of}
use Rattle.sk_insn.proofs.RecordWords.{number_there, word_of_architecture}
use Rattle.sk_insn.specs.declared.insn.Insn.{Insn}
use Rattle.sk_insn.specs.declared.record.Record.{Record}
use Rattle.sk_insn.specs.declared.operation.Register.TheVariants.{Accumulator, Index}
use Rattle.sk_insn.specs.declared.operation.Operation.{Operation}
use Rattle.sk_insn.specs.declared.operation.Operation.TheVariants.{LoadRecord, LoadConstant, LoadScratch, LoadLength, StoreScratch, Compute, Negate, Jump, Branch, ReturnConstant, ReturnAccumulator, CopyToIndex, CopyToAccumulator}
use Rattle.sk_filter.specs.Paths.{Onward, Nowhere, To, Either, GoesTo, goes_to, onward}
use Rattle.sk_filter.specs.Meaning.{State, GoesOn, Fails, effect, loaded, register, store}
use Rattle.sk_filter.proofs.ValidSteps.{leads_to}
use Rattle.sk_show.specs.declared.held.Held.{Held}
use Rattle.sk_show.specs.declared.held.Held.TheVariants.{Number, Architecture, Other}
use Rattle.sk_show.specs.Holding.{Jumps, Way, held_before, held_behind, held_word, joined, joined_ways, jump_to, jumps_behind, next_behind, ways_from, ways_to}
use Rattle.sk_show.specs.NoteLaws.{FitWords, IsHeld, NotesAreRight}
use Rattle.sk_show.proofs.Landing.{jumps-length, kept-jump, landed-jump}

-- ---- one instruction

goes_on-same : (m n : ℕ) (s t : State) → GoesOn m s ≡ GoesOn n t → s ≡ t
goes_on-same m n s t h = cc

loaded-word : (word : ℕ) (found : Option ℕ) (s after : State) (skip : ℕ) → found ≡ Some word → loaded Accumulator s found ≡ GoesOn skip after → after.a ≡ word
loaded-word word None s after skip e h = cc
loaded-word word (Some n) s after skip e h =
    let same : n ≡ word = cc in
    ap (λ (st : State). st.a) (sym (goes_on-same 0 skip (record s { a = n }) after h)) ∙ same

loaded-held : (place : ℕ) (call : Record) (s after : State) (skip : ℕ) → FitWords call → loaded Accumulator s (word_of call place) ≡ GoesOn skip after
    → IsHeld (held_word place) call after.a
loaded-held place call s after skip small h = elim (cases_Bool (place == 0)) [
  | inl t ↦
      let same = eqb-true place 0 t in
      rw t (loaded-word call.nr (word_of call place) s after skip (ap (word_of call) same ∙ number_there call small.0) h)
  | inr f ↦ elim (cases_Bool (place == 4)) [
    | inl t ↦
        let same = eqb-true place 4 t in
        let fits = small.1 in
        rw (f, t)
        (loaded-word call.arch (word_of call place) s after skip (ap (word_of call) same ∙ word_of_architecture call ∙ ap Some (omega (arith, fits))) h)
    | inr g ↦ rw (f, g) tt
  ]
]

-- A stays where the state has the same in it
same-a : (held : Held) (call : Record) (s t after : State) (m n : ℕ) → t.a ≡ s.a → GoesOn m t ≡ GoesOn n after → IsHeld held call s.a → IsHeld held call after.a
same-a held call s t after m n same h held_so =
    subst (λ (a : ℕ). IsHeld held call a) (sym same ∙ ap (λ (st : State). st.a) (goes_on-same m n t after h)) held_so

loaded-x : (held : Held) (call : Record) (s after : State) (skip : ℕ) (found : Option ℕ) → loaded Index s found ≡ GoesOn skip after → IsHeld held call s.a → IsHeld held call after.a
loaded-x held call s after skip None h held_so = cc
loaded-x held call s after skip (Some n) h held_so = same-a held call s (record s { x = n }) after 0 skip refl h held_so

stored-a : (held : Held) (call : Record) (s t after : State) (skip : ℕ) (test : Bool) → t.a ≡ s.a → cond test (GoesOn 0 t) Fails ≡ GoesOn skip after
    → IsHeld held call s.a → IsHeld held call after.a
stored-a held call s t after skip true same h held_so = same-a held call s t after 0 skip same h held_so
stored-a held call s t after skip false same h held_so = cc

pub behind-held : (operation : Option Operation) (given : Insn) (call : Record) (s after : State) (skip : ℕ) (held : Held) → FitWords call
    → effect operation given call s ≡ GoesOn skip after → IsHeld held call s.a → IsHeld (held_behind operation given held) call after.a
behind-held None given call s after skip held small h held_so = tt
behind-held (Some LoadRecord) given call s after skip held small h held_so = loaded-held given.k call s after skip small h
behind-held (Some (LoadConstant Accumulator)) given call s after skip held small h held_so = tt
behind-held (Some (LoadConstant Index)) given call s after skip held small h held_so = loaded-x held call s after skip (Some given.k) h held_so
behind-held (Some (LoadScratch Accumulator)) given call s after skip held small h held_so = tt
behind-held (Some (LoadScratch Index)) given call s after skip held small h held_so = loaded-x held call s after skip (s.stored given.k) h held_so
behind-held (Some (LoadLength Accumulator)) given call s after skip held small h held_so = tt
behind-held (Some (LoadLength Index)) given call s after skip held small h held_so = loaded-x held call s after skip (Some 64) h held_so
behind-held (Some (StoreScratch r)) given call s after skip held small h held_so =
    stored-a held call s (record s { stored = store given.k (register r s) s.stored }) after skip (nat_lt given.k 16) refl h held_so
behind-held (Some (Compute arithmetic right)) given call s after skip held small h held_so = tt
behind-held (Some Negate) given call s after skip held small h held_so = tt
behind-held (Some Jump) given call s after skip held small h held_so = same-a held call s s after given.k skip refl h held_so
behind-held (Some (Branch comparison right)) given call s after skip held small h held_so = same-a held call s s after _ skip refl h held_so
behind-held (Some ReturnConstant) given call s after skip held small h held_so = tt
behind-held (Some ReturnAccumulator) given call s after skip held small h held_so = tt
behind-held (Some CopyToIndex) given call s after skip held small h held_so = same-a held call s (record s { x = s.a }) after 0 skip refl h held_so
behind-held (Some CopyToAccumulator) given call s after skip held small h held_so = tt

-- ---- ways that come together

-- the same is known, or nothing
abbrev pub Weaker : Held → Held → Type 0
Weaker weak held = (weak ≡ held) ⊎ (weak ≡ Other)

pub weaker-held : (weak held : Held) (call : Record) (a : ℕ) → Weaker weak held → IsHeld held call a → IsHeld weak call a
weaker-held weak held call a (inl same) h = subst (λ x. IsHeld x call a) (sym same) h
weaker-held weak held call a (inr none) h = subst (λ x. IsHeld x call a) (sym none) tt

pub weaker-further : (weak one held : Held) → Weaker weak one → Weaker one held → Weaker weak held
weaker-further weak one held (inl same) h = subst (λ x. Weaker x held) (sym same) h
weaker-further weak one held (inr none) h = inr none

pub joined-both : (one second : Held) → Weaker (joined one second) one × Weaker (joined one second) second
joined-both Number Number = (inl refl, inl refl)
joined-both Architecture Architecture = (inl refl, inl refl)
joined-both Number second = (inr refl, inr refl)
joined-both Architecture second = (inr refl, inr refl)
joined-both Other second = (inr refl, inr refl)

-- a way is there, and on it no more is known
abbrev pub AtMost : Held → Option Held → Type 0
AtMost held None = ⊥
AtMost held (Some way) = Weaker way held

pub keeps-way : (held : Held) (way : Option Held) (second : Held) → AtMost held way → AtMost held (joined_ways way (Some second))
keeps-way held None second h = absurd h
keeps-way held (Some way) second h = weaker-further (joined way second) way held (joined-both way second).0 h

pub brings-way : (held : Held) (way : Option Held) → AtMost held (joined_ways way (Some held))
brings-way held None = inl refl
brings-way held (Some way) = (joined-both way held).1

before-jump : (held : Held) (jump next : Option Held) → AtMost held jump → Weaker (held_before jump next) held
before-jump held None next h = absurd h
before-jump held (Some way) None h = h
before-jump held (Some way) (Some second) h = weaker-further (joined way second) way held (joined-both way second).0 h

before-next : (held : Held) (jump : Option Held) → Weaker (held_before jump (Some held)) held
before-next held None = inl refl
before-next held (Some way) = (joined-both way held).1

-- ---- a whole filter

pub some-same : {X : Type 0} (x y : X) → Some x ≡ Some y → x ≡ y
some-same x y h = cc

ways-length : (at : ℕ) (jumps : Jumps) (next : Option Held) (insns : List Insn) → length (ways_from at jumps next insns) ≡ length insns
unfolding ways_from
ways-length at jumps next [] = refl
ways-length at jumps next (given ∷ insns) = let rest = ways-length (at + 1) _ _ insns in ap suc rest

pub way-within : (at n : ℕ) (jumps : Jumps) (next : Option Held) (insns : List Insn) (way : Way) → slice_get (ways_from at jumps next insns) n ≡ Some way → n < length insns
way-within at n jumps next insns way e =
    let size = ways-length at jumps next insns in
    let within = slice_get_within (ways_from at jumps next insns) n way e in
    omega arith

-- what is noted of a jump to a place is not lost until there
module _ (P : Option Held → Type 0) (keeps : (way : Option Held) (held : Held) → P way → P (joined_ways way (Some held)))
    (R : Way → Type 0) (meets : (jump next : Option Held) → P jump → R (record { jump = jump; held = held_before jump next })) where
  pub stays-there : (at n : ℕ) (jumps : Jumps) (next : Option Held) (insns : List Insn) (way : Way) → at + length insns ≡ length jumps → P (jump_to jumps (at + n))
      → slice_get (ways_from at jumps next insns) n ≡ Some way → R way
  unfolding ways_from
  stays-there at n jumps next [] way len h e = cc
  stays-there at zero jumps next (given ∷ insns) way len h e =
      let here : at + zero ≡ at = omega arith in
      let there : P (jump_to jumps at) = rw here at h in
      subst R (some-same (record { jump = jump_to jumps at; held = held_before (jump_to jumps at) next }) way e) (meets (jump_to jumps at) next there)
  stays-there at (suc n) jumps next (given ∷ insns) way len h e =
      let goes = onward at (operation_of given.code) given in
      let behind = held_behind (operation_of given.code) given (held_before (jump_to jumps at) next) in
      let place : at + suc n ≡ at + 1 + n = omega arith in
      let within = way-within (at + 1) n (jumps_behind at goes behind jumps) (next_behind at goes behind) insns way e in
      let there : P (jump_to jumps (at + 1 + n)) = rw place at h in
      let size = jumps-length at goes behind jumps in
      let inside : at + 1 + n < length jumps = omega arith in
      stays-there (at + 1) n (jumps_behind at goes behind jumps) (next_behind at goes behind) insns way (omega (arith, size))
      (kept-jump P keeps at (at + 1 + n) goes behind jumps inside there) e

kept-there : (at n : ℕ) (jumps : Jumps) (next : Option Held) (insns : List Insn) (way : Way) (held : Held) → at + length insns ≡ length jumps
    → AtMost held (jump_to jumps (at + n)) → slice_get (ways_from at jumps next insns) n ≡ Some way → Weaker way.held held
kept-there at n jumps next insns way held = stays-there (AtMost held) (keeps-way held) (λ way. Weaker way.held held) (before-jump held) at n jumps next insns way

-- the same instruction, places and aims by other terms
pub goes-at : (to to' from from' : ℕ) (one other : Insn) → to ≡ to' → from ≡ from' → one ≡ other → GoesTo to (onward from (operation_of one.code) one)
    → GoesTo to' (onward from' (operation_of other.code) other)
goes-at to to' from from' one other e f same goes =
    subst (λ (i : Insn). GoesTo to' (onward from' (operation_of i.code) i)) same
    (subst (λ (p : ℕ). GoesTo to' (onward p (operation_of one.code) one)) f (subst (λ (p : ℕ). GoesTo p (onward from (operation_of one.code) one)) e goes))

pub goes-true : (place : ℕ) (goes : Onward) → GoesTo place goes → goes_to place goes ≡ true
goes-true place Nowhere h = absurd h
goes-true place (To to) h = eq-eqb place to h
goes-true place (Either to other) (inl h) = let t = eq-eqb place to h in rw t refl
goes-true place (Either to other) (inr h) = let t = eq-eqb place other h in elim (cases_Bool (place == to)) [ inl one ↦ rw one refl | inr none ↦ rw (none, t) refl ]

-- the first of these instructions leads to a later one
leads-there : (at n : ℕ) (jumps : Jumps) (next : Option Held) (given : Insn) (insns : List Insn) (there : Way) → at + length (given ∷ insns) ≡ length jumps
    → GoesTo (at + 1 + n) (onward at (operation_of given.code) given)
    → slice_get (ways_from (at + 1) (jumps_behind at (onward at (operation_of given.code) given) (held_behind (operation_of given.code) given (held_before (jump_to jumps at) next)) jumps)
    (next_behind at (onward at (operation_of given.code) given) (held_behind (operation_of given.code) given (held_before (jump_to jumps at) next))) insns) n ≡ Some there
    → Weaker there.held (held_behind (operation_of given.code) given (held_before (jump_to jumps at) next))
unfolding ways_from
leads-there at zero jumps next given [] there len goes e = cc
leads-there at zero jumps next given (second ∷ insns) there len goes e =
    let on = onward at (operation_of given.code) given in
    let behind = held_behind (operation_of given.code) given (held_before (jump_to jumps at) next) in
    let here : at + 1 + zero ≡ at + 1 = omega arith in
    let to : GoesTo (at + 1) on = subst (λ (p : ℕ). GoesTo p on) here goes in
    let known : next_behind at on behind ≡ Some behind = let t = goes-true (at + 1) on to in rw t refl in
    let same = some-same (record { jump = jump_to (jumps_behind at on behind jumps) (at + 1); held = held_before (jump_to (jumps_behind at on behind jumps) (at + 1)) (next_behind at on behind) }) there e in
    subst (λ (w : Way). Weaker w.held behind) same
    (subst (λ o. Weaker (held_before (jump_to (jumps_behind at on behind jumps) (at + 1)) o) behind) (sym known) (before-next behind (jump_to (jumps_behind at on behind jumps) (at + 1))))
leads-there at (suc n) jumps next given insns there len goes e =
    let on = onward at (operation_of given.code) given in
    let behind = held_behind (operation_of given.code) given (held_before (jump_to jumps at) next) in
    let within = way-within (at + 1) (suc n) (jumps_behind at on behind jumps) (next_behind at on behind) insns there e in
    let size = jumps-length at on behind jumps in
    kept-there (at + 1) (suc n) (jumps_behind at on behind jumps) (next_behind at on behind) insns there behind (omega (arith, size))
    (landed-jump (AtMost behind) (keeps-way behind) behind (brings-way behind) at (at + 1 + suc n) on jumps goes (omega arith) (omega arith)) e

-- where an instruction leads, no more is known than behind it
led-there : (at n m : ℕ) (jumps : Jumps) (next : Option Held) (insns : List Insn) (given : Insn) (way there : Way) → at + length insns ≡ length jumps → n < m
    → slice_get insns n ≡ Some given → slice_get (ways_from at jumps next insns) n ≡ Some way → GoesTo (at + m) (onward (at + n) (operation_of given.code) given)
    → slice_get (ways_from at jumps next insns) m ≡ Some there → Weaker there.held (held_behind (operation_of given.code) given way.held)
unfolding ways_from
led-there at n m jumps next [] given way there len before is e goes f = cc
led-there at n zero jumps next (first ∷ insns) given way there len before is e goes f = absurd (omega arith)
led-there at zero (suc m) jumps next (first ∷ insns) given way there len before is e goes f =
    let this = some-same first given is in
    let same = some-same (record { jump = jump_to jumps at; held = held_before (jump_to jumps at) next }) way e in
    let to = goes-at (at + suc m) (at + 1 + m) (at + zero) at given first (omega arith) (omega arith) (sym this) goes in
    subst (λ (w : Way). Weaker there.held (held_behind (operation_of given.code) given w.held)) same
    (subst (λ (i : Insn). Weaker there.held (held_behind (operation_of i.code) i (held_before (jump_to jumps at) next))) this
    (leads-there at m jumps next first insns there len to f))
led-there at (suc n) (suc m) jumps next (first ∷ insns) given way there len before is e goes f =
    let on = onward at (operation_of first.code) first in
    let behind = held_behind (operation_of first.code) first (held_before (jump_to jumps at) next) in
    let size = jumps-length at on behind jumps in
    let to = goes-at (at + suc m) (at + 1 + m) (at + suc n) (at + 1 + n) given given (omega arith) (omega arith) refl goes in
    led-there (at + 1) n m (jumps_behind at on behind jumps) (next_behind at on behind) insns given way there (omega (arith, size)) (omega arith) is e to f

-- nothing is known at the first
first-way : (insns : List Insn) (way : Way) → slice_get (ways_to insns) 0 ≡ Some way → way.held ≡ Other
unfolding ways_from ways_to
first-way [] way e = cc
first-way (given ∷ insns) way e = ap (λ (w : Way). w.held) (sym (some-same _ way e))

-- each instruction has a way
way-there : (ways : List Way) (n : ℕ) → n < length ways → (way : Way) × (slice_get ways n ≡ Some way)
way-there [] n h = absurd (omega arith)
way-there (way ∷ ways) zero h = (way, refl)
way-there (way ∷ ways) (suc n) h = way-there ways n (omega arith)

pub notes_are_right : NotesAreRight
unfolding ways_to
notes_are_right insns call zero place s way small comes e =
    let first : slice_get (ways_to insns) 0 ≡ Some way = subst (λ (p : ℕ). slice_get (ways_to insns) p ≡ Some way) comes.0 e in
    subst (λ held. IsHeld held call s.a) (sym (first-way insns way first)) tt
notes_are_right insns call (suc steps) place s there small (before, earlier, comes, (given, is, (skip, does, to))) e =
    let size = ways-length 0 (replicate (length insns) None) (Some Other) insns in
    let within = slice_get_within insns before given is in
    let way = way-there (ways_to insns) before (omega arith) in
    let held_so = notes_are_right insns call steps before earlier way.0 small comes way.1 in
    let next = behind-held (operation_of given.code) given call earlier s skip way.0.held small does held_so in
    let goes_from =
    goes-at (before + (1 + skip)) (0 + place) before (0 + before) given given (omega arith) (omega arith) refl (leads_to before (operation_of given.code) given call earlier skip s does)
    in
    let none : length (replicate {A = Option Held} (length insns) None) ≡ length insns = length-replicate (length insns) None in
    let weaker =
    led-there 0 before place (replicate (length insns) None) (Some Other) insns given way.0 there (omega arith) (omega arith) is way.1 goes_from e
    in
    weaker-held there.held (held_behind (operation_of given.code) given way.0.held) call s.a weaker next
