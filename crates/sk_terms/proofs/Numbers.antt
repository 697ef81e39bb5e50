-- The calls that come to one end of a tree of terms, and what its lines say of their numbers.
use Rattle.std.proofs.Common.{◌≡◌, ℕ, ◌&&◌, ◌||◌, inl, Bool, true, false, not, List, [], ◌∷◌, filter, bit_and, ap, sym, ◌∙◌, refl, arith}
use Rattle.std.specs.List.{All}
use Rattle.std.proofs.lemmas.Bool.{true≢false}
use Rattle.sk_insn.specs.declared.record.Record.{Record}
use Rattle.sk_terms.specs.declared.decision.Decision.{Decision}
use Rattle.sk_terms.specs.declared.decision.Decision.TheVariants.{Is, Untold, Ask'}
use Rattle.sk_terms.specs.declared.lines.Line.{Line}
use Rattle.sk_terms.specs.declared.term.Register.{Register}
use Rattle.sk_terms.specs.declared.term.Register.TheVariants.{Number, Pointer, Argument}
use Rattle.sk_terms.specs.declared.term.Term.{Term}
use Rattle.sk_terms.specs.Decisions.{EachEndIsMetBy, GoTogether}
use Rattle.sk_terms.specs.Lines.{meets_line, MeetAlike}
use Rattle.sk_terms.specs.Numbers.{HasNumber, numbered, TellsNoWhole}
use Rattle.sk_terms.specs.Terms.{holds_term, register_of, takes}
use Rattle.sk_terms.proofs.Ends.{Has, of_filter, one_of_all}

pub both_alike : (first second both : Line) (one other : Record) → meets_line both one ≡ (meets_line first one || meets_line second one)
    → meets_line both other ≡ (meets_line first other || meets_line second other) → MeetAlike one other first → MeetAlike one other second → MeetAlike one other both
both_alike first second both one other here there same same' =
    here ∙ ap (λ b. b || meets_line second one) same ∙ ap (λ b. meets_line first other || b) same' ∙ sym there

-- the terms on the way to a side of a term
pub side_alike : {a b h k x y : Bool} → (a ≡ true → h ≡ k) → a ≡ b → x ≡ (a && h) → y ≡ (b && k) → x ≡ y
side_alike {a} {b} {h} {k} {x} {y} same alike is is' = is ∙ by_first a same ∙ ap (λ b. b && k) alike ∙ sym is' where
  by_first : (a : Bool) → (a ≡ true → h ≡ k) → (a && h) ≡ (a && k)
  by_first true same = same refl
  by_first false same = refl

pub one_side : {P : Type 0} {a h x : Bool} → x ≡ (a && h) → x ≡ true → (a ≡ true → h ≡ true → P) → P
one_side {P} {a} {h} {x} is on goes = by_first a h (sym is ∙ on) goes where
  by_first : (a h : Bool) → (a && h) ≡ true → (a ≡ true → h ≡ true → P) → P
  by_first true true e goes = goes refl refl
  by_first true false e goes = absurd (cc)
  by_first false h e goes = absurd (cc)

pub other_side : {P : Type 0} {a h x : Bool} → x ≡ (a && not h) → x ≡ true → (a ≡ true → h ≡ false → P) → P
other_side {P} {a} {h} {x} is on goes = by_first a h (sym is ∙ on) goes where
  by_first : (a h : Bool) → (a && not h) ≡ true → (a ≡ true → h ≡ false → P) → P
  by_first true false e goes = goes refl refl
  by_first true true e goes = absurd (cc)
  by_first false h e goes = absurd (cc)

-- a term that says the same of two calls says it of the first one with the number of the second
same_said : (term : Term) (call it : Record) (b : Bool) → holds_term term call ≡ b → holds_term term it ≡ b → holds_term term (numbered call it.nr) ≡ b
same_said term call it b here there = by_register term.register refl where
  said : Register → Record → Bool
  said register call = takes term (bit_and (register_of register call) term.mask)

  by_register : (register : Register) → term.register ≡ register → holds_term term (numbered call it.nr) ≡ b
  by_register Number e = ap (λ r. said r (numbered call it.nr)) e ∙ sym (ap (λ r. said r it) e) ∙ there
  by_register Pointer e = ap (λ r. said r (numbered call it.nr)) e ∙ sym (ap (λ r. said r call) e) ∙ here
  by_register (Argument i) e = ap (λ r. said r (numbered call it.nr)) e ∙ sym (ap (λ r. said r call) e) ∙ here

was_not : (b : Bool) → not b ≡ true → b ≡ false
was_not true e = cc
was_not false e = refl

-- some of these calls comes to the end that a call comes to, and so does this one with its number
abbrev ComesWith : Decision → List Record → Record → Type 0
ComesWith decision calls call = (it : Record) × Has calls it × GoTogether decision call (numbered call it.nr)

-- so it is of a tree that begins with a term
abbrev ComesBehind : Term → Decision → Decision → List Record → Record → Type 0
ComesBehind term held failed calls call =
    (it : Record) × Has calls it
    × ((holds_term term call ≡ holds_term term (numbered call it.nr))
    × (holds_term term call ≡ true → GoTogether held call (numbered call it.nr))
    × (holds_term term call ≡ false → GoTogether failed call (numbered call it.nr)))

of_held : (term : Term) (held failed : Decision) (calls : List Record) (call : Record) → holds_term term call ≡ true
    → ComesWith held (filter (λ call. holds_term term call) calls) call → ComesBehind term held failed calls call
of_held term held failed calls call e found =
    let has = of_filter (λ call. holds_term term call) calls found.0 found.1 in
    (found.0, has.0, (e ∙ sym (same_said term call found.0 true e has.1), (λ on. found.2), (λ off. absurd (true≢false (sym e ∙ off)))))

of_failed : (term : Term) (held failed : Decision) (calls : List Record) (call : Record) → holds_term term call ≡ false
    → ComesWith failed (filter (λ call. not (holds_term term call)) calls) call → ComesBehind term held failed calls call
of_failed term held failed calls call e found =
    let has = of_filter (λ call. not (holds_term term call)) calls found.0 found.1 in
    let off = was_not (holds_term term found.0) has.1 in
    (found.0, has.0, (e ∙ sym (same_said term call found.0 false e off), (λ on. absurd (true≢false (sym on ∙ e))), (λ off. found.2)))

by_side : {P : Type 0} → (b : Bool) → (b ≡ true → P) → (b ≡ false → P) → P
by_side true on off = on refl
by_side false on off = off refl

-- where calls come to each end, one comes to that of every call
comes_with : (decision : Decision) (calls : List Record) → EachEndIsMetBy calls decision → (call : Record) → ComesWith decision calls call
comes_with (Is value) [] met call = absurd (omega arith)
comes_with (Is value) (it ∷ calls) met call = (it, inl refl, tt)
comes_with Untold [] met call = absurd (omega arith)
comes_with Untold (it ∷ calls) met call = (it, inl refl, tt)
comes_with (Ask' term p held q failed) calls met call =
    by_side (holds_term term call)
    (λ e. of_held term held failed calls call e (comes_with held (filter (λ call. holds_term term call) calls) met.0 call))
    (λ e. of_failed term held failed calls call e (comes_with failed (filter (λ call. not (holds_term term call)) calls) met.1 call))

-- a line that calls which come to one end meet alike
pub tells_no_whole : (first last : ℕ) (decision : Decision) (calls : List Record) (line : Line) → All (HasNumber first last) calls → EachEndIsMetBy calls decision
    → ((one other : Record) → GoTogether decision one other → MeetAlike one other line) → TellsNoWhole first last line
tells_no_whole first last decision calls line within met alike call each nr =
    let found = comes_with decision calls met (numbered call nr) in
    let its = one_of_all (HasNumber first last) calls found.0 within found.1 in
    alike (numbered call nr) (numbered call found.0.nr) found.2 ∙ each found.0.nr its.0 its.1
