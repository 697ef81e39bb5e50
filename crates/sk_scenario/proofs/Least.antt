-- The reading tells the fault that goes before all others.
use Rattle.std.proofs.Common.{◌≡◌, ◌≤◌, ◌<◌, ◌+◌, ◌∙◌, ap, arith, refl, sym, subst, ℕ, List, [], ◌∷◌, Option, Some, None, Result, Ok, Err, Bool, true, false, cond, not, ◌&&◌, length, inl, inr, true≢false}
use Rattle.sk_scenario.proofs.Common.{cases_Bool, false≢true, words_of, begins_comment, Insn, AsmFault, is_end, until_end, assembled_lines, TextFault, Line, Unresolved, Limit, Heading, begins_bytes, Names, ◌>>=◌, fault_of, held, coded, Gained, Open, Nothing, Undecided, Bytes, Code, Calls, stepped, closed, reading, Wrong, Excess, Malformed, Beyond, Nameless, told, Place, AtTop, InFilter, InBytes, InCode, InCalls, is_inside, place_behind, said_behind, is_wrong_in_bytes, is_code, is_wrong, begins_code, IsWrongAt, IsWrongCode, IsWrongLine, rank, IsNotAfter}
use Rattle.sk_scenario.proofs.CodeLines.{IsWithin, assembled-within}
use Rattle.sk_scenario.proofs.Judging.{fault_in, counts, tried, first_of, AreThese, Matches, place_of, filters_so_far, programs_so_far, judged_line}
use Rattle.sk_scenario.proofs.States.{step_after}
use Rattle.sk_asm.specs.declared.fault.AsmFault.TheVariants as asm

-- ---- the first thing that is wrong with a line

all_false : (a b c e : Bool) (x y z w : TextFault) → cond a (Some x) (cond b (Some y) (cond c (Some z) (cond e (Some w) None))) ≡ None → (a ≡ false) × (b ≡ false) × (c ≡ false) × (e ≡ false)
all_false true b c e x y z w h = cc
all_false false true c e x y z w h = cc
all_false false false true e x y z w h = cc
all_false false false false true x y z w h = cc
all_false false false false false x y z w h = (refl, refl, refl, refl)

module _ (known : Option Names) (n : ℕ) (bad : Wrong → Bool) where
  tried_none : tried known n bad ≡ None → (wrong : Wrong) → counts known wrong ≡ true → bad wrong ≡ true → ⊥
  tried_none h Excess c b = true≢false (sym b ∙ (all_false (bad Excess) (bad Malformed) (bad Beyond) (bad Nameless && counts known Nameless) (Limit n) (Line n) (Limit n) (Unresolved n) h).0)
  tried_none h Malformed c b = true≢false (sym b ∙ (all_false (bad Excess) (bad Malformed) (bad Beyond) (bad Nameless && counts known Nameless) (Limit n) (Line n) (Limit n) (Unresolved n) h).1)
  tried_none h Beyond c b = true≢false (sym b ∙ (all_false (bad Excess) (bad Malformed) (bad Beyond) (bad Nameless && counts known Nameless) (Limit n) (Line n) (Limit n) (Unresolved n) h).2)
  tried_none h Nameless c b =
      let f = (all_false (bad Excess) (bad Malformed) (bad Beyond) (bad Nameless && counts known Nameless) (Limit n) (Line n) (Limit n) (Unresolved n) h).3 in
      let t : (bad Nameless && counts known Nameless) ≡ true = rw (b, c) refl in
      true≢false (sym t ∙ f)

  -- the fault is that of the least rank
  pub record IsTried (fault : TextFault) : Type 0 where
    pub wrong : Wrong
    pub counted : counts known wrong ≡ true
    pub is : bad wrong ≡ true
    pub tells : fault ≡ told n wrong
    pub first : (other : Wrong) → bad other ≡ true → rank wrong ≤ rank other

  counts_excess : counts known Excess ≡ true
  counts_excess = all known
    where
      all : (o : Option Names) → counts o Excess ≡ true
      all None = refl
      all (Some names) = refl

  counts_malformed : counts known Malformed ≡ true
  counts_malformed = all known
    where
      all : (o : Option Names) → counts o Malformed ≡ true
      all None = refl
      all (Some names) = refl

  counts_beyond : counts known Beyond ≡ true
  counts_beyond = all known
    where
      all : (o : Option Names) → counts o Beyond ≡ true
      all None = refl
      all (Some names) = refl

  from_malformed : bad Excess ≡ false → (other : Wrong) → bad other ≡ true → 1 ≤ rank other
  from_malformed e Excess b = absurd (true≢false (sym b ∙ e))
  from_malformed e Malformed b = omega arith
  from_malformed e Beyond b = omega arith
  from_malformed e Nameless b = omega arith

  from_beyond : bad Excess ≡ false → bad Malformed ≡ false → (other : Wrong) → bad other ≡ true → 2 ≤ rank other
  from_beyond e m Excess b = absurd (true≢false (sym b ∙ e))
  from_beyond e m Malformed b = absurd (true≢false (sym b ∙ m))
  from_beyond e m Beyond b = omega arith
  from_beyond e m Nameless b = omega arith

  from_nameless : bad Excess ≡ false → bad Malformed ≡ false → bad Beyond ≡ false → (other : Wrong) → bad other ≡ true → 3 ≤ rank other
  from_nameless e m y Excess b = absurd (true≢false (sym b ∙ e))
  from_nameless e m y Malformed b = absurd (true≢false (sym b ∙ m))
  from_nameless e m y Beyond b = absurd (true≢false (sym b ∙ y))
  from_nameless e m y Nameless b = omega arith

  some_is : (x y : TextFault) → Some x ≡ Some y → y ≡ x
  some_is x y h = cc

  both : (a b : Bool) → (a && b) ≡ true → (a ≡ true) × (b ≡ true)
  both true true h = (refl, refl)
  both true false h = cc
  both false b h = cc

  tried_some : (fault : TextFault) → tried known n bad ≡ Some fault → IsTried fault
  tried_some fault h = elim (cases_Bool (bad Excess)) [
    | inl t ↦ record { wrong = Excess; counted = counts_excess; is = t; tells = some_is (Limit n) fault (rw t at h); first = λ other b. omega arith }
    | inr e ↦
        let g = rw e at h in
        elim (cases_Bool (bad Malformed)) [
          | inl t ↦ record { wrong = Malformed; counted = counts_malformed; is = t; tells = some_is (Line n) fault (rw t at g); first = from_malformed e }
          | inr m ↦
              let k = rw m at g in
              elim (cases_Bool (bad Beyond)) [
                | inl t ↦ record { wrong = Beyond; counted = counts_beyond; is = t; tells = some_is (Limit n) fault (rw t at k); first = from_beyond e m }
                | inr y ↦
                    let l = rw y at k in
                    elim (cases_Bool (bad Nameless && counts known Nameless)) [
                      | inl t ↦
                          let p = both (bad Nameless) (counts known Nameless) t in
                          record { wrong = Nameless; counted = p.1; is = p.0; tells = some_is (Unresolved n) fault (rw t at l); first = from_nameless e m y }
                      | inr f ↦ let z = rw f at l in absurd cc
                    ]
              ]
        ]
  ]

-- ---- the fault of a block of code

same_wrong : (fault : AsmFault) (m k : ℕ) (wrong other : Wrong) → IsWrongAt fault m wrong → IsWrongAt fault k other → (m ≡ k) × (wrong ≡ other)
same_wrong (asm.Line n) m k wrong other h g = (h.0 ∙ sym g.0, h.1 ∙ sym g.1)
same_wrong (asm.Twice n) m k wrong other h g = (h.0 ∙ sym g.0, h.1 ∙ sym g.1)
same_wrong (asm.Far n) m k wrong other h g = (h.0 ∙ sym g.0, h.1 ∙ sym g.1)
same_wrong (asm.Back n) m k wrong other h g = (h.0 ∙ sym g.0, h.1 ∙ sym g.1)
same_wrong (asm.TooLong n) m k wrong other h g = (h.0 ∙ sym g.0, h.1 ∙ sym g.1)
same_wrong (asm.Label n) m k wrong other h g = (h.0 ∙ sym g.0, h.1 ∙ sym g.1)
same_wrong asm.Memory m k wrong other h g = absurd h

module _ (m : ℕ) (wrong : Wrong) where
  wrong_within : (first last : ℕ) (fault : AsmFault) → IsWrongAt fault m wrong → IsWithin first last fault → (first ≤ m) × (m < last)
  wrong_within first last (asm.Line n) h g = let e = h.0 in rw e g
  wrong_within first last (asm.Twice n) h g = let e = h.0 in rw e g
  wrong_within first last (asm.Far n) h g = let e = h.0 in rw e g
  wrong_within first last (asm.Back n) h g = let e = h.0 in rw e g
  wrong_within first last (asm.TooLong n) h g = let e = h.0 in rw e g
  wrong_within first last (asm.Label n) h g = let e = h.0 in rw e g
  wrong_within first last asm.Memory h g = absurd h

code_lines : (n : ℕ) (lines : List (List ℕ)) (m : ℕ) (wrong : Wrong) → IsWrongCode n lines m wrong → (n ≤ m) × (m < n + length lines)
code_lines n lines m wrong h = wrong_within m wrong n (n + length lines) h.0 h.2 (assembled-within n lines h.0 h.1)

module _ (m : ℕ) (wrong : Wrong) where
  held_none : (known : Option Names) (fault : AsmFault) → fault_in (held known (fault_of fault)) ≡ None → IsWrongAt fault m wrong → counts known wrong ≡ true → ⊥
  held_none known (asm.Line n) h w c = cc
  held_none known (asm.Twice n) h w c = cc
  held_none known (asm.Far n) h w c = cc
  held_none known (asm.Back n) h w c = cc
  held_none known (asm.TooLong n) h w c = cc
  held_none None (asm.Label n) h w c = let e = w.1 in false≢true (rw e at c)
  held_none (Some names) (asm.Label n) h w c = cc
  held_none known asm.Memory h w c = w

  code_none : (known : Option Names) (n : ℕ) (lines : List (List ℕ)) → fault_in (coded known (assembled_lines n lines)) ≡ None → IsWrongCode n lines m wrong → counts known wrong ≡ true → ⊥
  unfolding coded
  code_none known n lines h w c = let e = w.1 in held_none known w.0 (rw e at h) w.2 c

pub record IsCoded (known : Option Names) (n : ℕ) (lines : List (List ℕ)) (fault : TextFault) : Type 0 where
  pub m : ℕ
  pub wrong : Wrong
  pub is : IsWrongCode n lines m wrong
  pub counted : counts known wrong ≡ true
  pub tells : fault ≡ told m wrong

module _ (known : Option Names) (n : ℕ) (lines : List (List ℕ)) (fault : TextFault) where
  coded_is : (given : AsmFault) → assembled_lines n lines ≡ Err given → (m : ℕ) (wrong : Wrong) → IsWrongAt given m wrong → counts known wrong ≡ true → Some (told m wrong) ≡ Some fault → IsCoded known n lines fault
  coded_is given e m wrong at c h = record { m = m; wrong = wrong; is = (given, e, at); counted = c; tells = cc }

  code_some : (r : Result (List Insn) AsmFault) → assembled_lines n lines ≡ r → fault_in (coded known r) ≡ Some fault → IsCoded known n lines fault
  unfolding coded
  code_some (Ok insns) e h = absurd cc
  code_some (Err (asm.Line m)) e h = coded_is (asm.Line m) e m Malformed (refl, refl) (counts_malformed known 0 (λ w. false)) h
  code_some (Err (asm.Twice m)) e h = coded_is (asm.Twice m) e m Malformed (refl, refl) (counts_malformed known 0 (λ w. false)) h
  code_some (Err (asm.Far m)) e h = coded_is (asm.Far m) e m Malformed (refl, refl) (counts_malformed known 0 (λ w. false)) h
  code_some (Err (asm.Back m)) e h = coded_is (asm.Back m) e m Malformed (refl, refl) (counts_malformed known 0 (λ w. false)) h
  code_some (Err (asm.TooLong m)) e h = coded_is (asm.TooLong m) e m Beyond (refl, refl) (counts_beyond known 0 (λ w. false)) h
  code_some (Err (asm.Label m)) e h = label known refl h
    where
      label : (o : Option Names) → known ≡ o → fault_in (held o (Unresolved m)) ≡ Some fault → IsCoded known n lines fault
      label None is h = absurd cc
      label (Some names) is h = coded_is (asm.Label m) e m Nameless (refl, refl) (rw is refl) h
  code_some (Err asm.Memory) e h = absurd (assembled-within n lines asm.Memory e)

-- ---- the faults of lines stand behind the first line

later : (names : Names) (place : Place) (said : List Heading) (n : ℕ) (lines : List (List ℕ)) (k : ℕ) (other : Wrong) → IsWrongLine names place said n lines k other → n ≤ k
later names place said n [] k other h = let e = h.1 in rw e (omega arith)
later names place said n (line ∷ lines) k other (inl h) = let e = h.1 in rw e (omega arith)
later names place said n (line ∷ lines) k other (inr (inl h)) = (code_lines n (until_end (line ∷ lines)) k other h.1).0
later names place said n (line ∷ lines) k other (inr (inr h)) = let more = later names (place_behind place line) (said_behind place said line) (n + 1) lines k other h in omega (arith, more)

-- and those behind a block of code, behind its `end`
behind_code : (names : Names) (said : List Heading) (n : ℕ) (lines : List (List ℕ)) (k : ℕ) (other : Wrong) → IsWrongLine names InCode said n lines k other → n + length (until_end lines) ≤ k
behind_code names said n [] k other h = let e = h.1 in rw e (omega arith)
behind_code names said n (line ∷ lines) k other (inl h) = absurd (false≢true h.0)
behind_code names said n (line ∷ lines) k other (inr (inl h)) = absurd (false≢true h.0)
behind_code names said n (line ∷ lines) k other (inr (inr h)) = elim (cases_Bool (is_end line)) [
  | inl end ↦ let more = later names (place_behind InCode line) said (n + 1) lines k other h in rw end (omega (arith, more))
  | inr goes ↦ let more = behind_code names said (n + 1) lines k other (rw goes at h) in rw goes (omega (arith, more))
]

-- ---- what a reading says of the faults of its lines

-- no fault that counts
abbrev pub NoneCounts : Option Names → Names → Place → List Heading → ℕ → List (List ℕ) → Type 0
NoneCounts known names place said n lines = (k : ℕ) (other : Wrong) → counts known other ≡ true → IsWrongLine names place said n lines k other → ⊥

-- a fault that counts, and goes before the others that do
pub record IsLeast (known : Option Names) (names : Names) (place : Place) (said : List Heading) (n : ℕ) (lines : List (List ℕ)) (fault : TextFault) : Type 0 where
  pub m : ℕ
  pub wrong : Wrong
  pub counted : counts known wrong ≡ true
  pub is : IsWrongLine names place said n lines m wrong
  pub tells : fault ≡ told m wrong
  pub first : (k : ℕ) (other : Wrong) → counts known other ≡ true → IsWrongLine names place said n lines k other → IsNotAfter m wrong k other

abbrev pub Verdict : Option Names → Names → Place → List Heading → ℕ → List (List ℕ) → Result Gained TextFault → Type 0
Verdict known names place said n lines (Ok final) = NoneCounts known names place said n lines
Verdict known names place said n lines (Err fault) = IsLeast known names place said n lines fault

both_true : (a b : Bool) → (a && b) ≡ true → (a ≡ true) × (b ≡ true)
both_true true true h = (refl, refl)
both_true true false h = cc
both_true false b h = cc

not_true : (b : Bool) → not b ≡ true → b ≡ false
not_true true h = cc
not_true false h = refl

-- a line with which a block of code begins stands in a filter's block
code_place : (place : Place) (line : List ℕ) → begins_code place line ≡ true → (place_behind place line ≡ InCode) × (is_end line ≡ false)
code_place AtTop line c = absurd (false≢true c)
code_place InFilter line c =
    let code = both_true (not (is_end line)) _ c in
    let more = both_true (not (begins_comment (words_of line))) _ code.1 in
    let goes = not_true (is_end line) code.0 in
    let speaks = not_true (begins_comment (words_of line)) more.0 in
    let other = not_true (begins_bytes (words_of line)) more.1 in
    (rw (goes, speaks, other) refl, goes)
code_place (InBytes before) line c = absurd (false≢true c)
code_place InCode line c = absurd (false≢true c)
code_place (InCalls before) line c = absurd (false≢true c)

-- it is judged with its block, and not by itself
judged_once : (place : Place) (names : Names) (said : List Heading) (line : List ℕ) → begins_code place line ≡ true → (wrong : Wrong) → is_wrong names place said line wrong ≡ true → ⊥
judged_once AtTop names said line c wrong h = false≢true c
judged_once InFilter names said line c wrong h =
    let code = both_true (not (is_end line)) (is_code line) c in
    let alone = both_true (not (is_end line)) _ h in
    let other = both_true (not (is_code line)) (is_wrong_in_bytes 0 line wrong) alone.1 in
    false≢true (sym (not_true (is_code line) other.0) ∙ code.1)
judged_once (InBytes before) names said line c wrong h = false≢true c
judged_once InCode names said line c wrong h = false≢true c
judged_once (InCalls before) names said line c wrong h = false≢true c

module _ (known : Option Names) (names : Names) (n : ℕ) (place : Place) (said : List Heading) (line : List ℕ) (lines : List (List ℕ)) where
  -- the line is not wrong, nor does a block of code that is begin with it
  nothing_here : tried known n (is_wrong names place said line) ≡ None
      → cond (begins_code place line) (fault_in (coded known (assembled_lines n (until_end (line ∷ lines))))) None ≡ None
      → NoneCounts known names (place_behind place line) (said_behind place said line) (n + 1) lines
      → NoneCounts known names place said n (line ∷ lines)
  nothing_here t c rest k other counted (inl h) = tried_none known n (is_wrong names place said line) t other counted h.0
  nothing_here t c rest k other counted (inr (inl h)) = let b = h.0 in code_none k other known n (until_end (line ∷ lines)) (rw b at c) h.1 counted
  nothing_here t c rest k other counted (inr (inr h)) = rest k other counted h

  -- the line is wrong
  line_first : (fault : TextFault) → tried known n (is_wrong names place said line) ≡ Some fault → IsLeast known names place said n (line ∷ lines) fault
  line_first fault t =
      let found = tried_some known n (is_wrong names place said line) fault t in
      record { m = n; wrong = found.wrong; counted = found.counted; is = inl (found.is, refl); tells = found.tells; first = others found }
    where
      others : (found : IsTried known n (is_wrong names place said line) fault) → (k : ℕ) (other : Wrong) → counts known other ≡ true → IsWrongLine names place said n (line ∷ lines) k other → IsNotAfter n found.wrong k other
      others found k other counted (inl h) = inr (sym h.1, found.first other h.0)
      others found k other counted (inr (inl h)) = absurd (judged_once place names said line h.0 found.wrong found.is)
      others found k other counted (inr (inr h)) = let from = later names (place_behind place line) (said_behind place said line) (n + 1) lines k other h in inl (omega (arith, from))

  -- the block of code that begins with it is
  code_first : (fault : TextFault) → tried known n (is_wrong names place said line) ≡ None → begins_code place line ≡ true
      → fault_in (coded known (assembled_lines n (until_end (line ∷ lines)))) ≡ Some fault → IsLeast known names place said n (line ∷ lines) fault
  code_first fault t b c =
      let found = code_some known n (until_end (line ∷ lines)) fault (assembled_lines n (until_end (line ∷ lines))) refl c in
      record { m = found.m; wrong = found.wrong; counted = found.counted; is = inr (inl (b, found.is)); tells = found.tells; first = others found }
    where
      same_fault : (x y : AsmFault) (r : Result (List Insn) AsmFault) → r ≡ Err x → r ≡ Err y → y ≡ x
      same_fault x y r e g = cc

      others : (found : IsCoded known n (until_end (line ∷ lines)) fault) → (k : ℕ) (other : Wrong) → counts known other ≡ true → IsWrongLine names place said n (line ∷ lines) k other → IsNotAfter found.m found.wrong k other
      others found k other counted (inl h) = absurd (tried_none known n (is_wrong names place said line) t other counted h.0)
      others found k other counted (inr (inl h)) =
          let e = same_fault found.is.0 h.1.0 _ found.is.1 h.1.1 in
          let same = same_wrong found.is.0 found.m k found.wrong other found.is.2 (subst (λ fault. IsWrongAt fault k other) e h.1.2) in
          let w = same.1 in
          inr (same.0, rw w (omega arith))
      others found k other counted (inr (inr h)) =
          let p = code_place place line b in
          let goes = p.1 in
          let inside : IsWrongLine names InCode (said_behind place said line) (n + 1) lines k other = subst (λ q. IsWrongLine names q (said_behind place said line) (n + 1) lines k other) p.0 h in
          let from = behind_code names (said_behind place said line) (n + 1) lines k other inside in
          let to = (code_lines n (until_end (line ∷ lines)) found.m found.wrong found.is).1 in
          let size : length (until_end (line ∷ lines)) ≡ length (until_end lines) + 1 = rw goes (omega arith) in
          inl (omega (arith, from, to, size))

  -- a fault behind the line
  rest_first : (fault : TextFault) → tried known n (is_wrong names place said line) ≡ None
      → cond (begins_code place line) (fault_in (coded known (assembled_lines n (until_end (line ∷ lines))))) None ≡ None
      → IsLeast known names (place_behind place line) (said_behind place said line) (n + 1) lines fault → IsLeast known names place said n (line ∷ lines) fault
  rest_first fault t c rest = record { m = rest.m; wrong = rest.wrong; counted = rest.counted; is = inr (inr rest.is); tells = rest.tells; first = others }
    where
      others : (k : ℕ) (other : Wrong) → counts known other ≡ true → IsWrongLine names place said n (line ∷ lines) k other → IsNotAfter rest.m rest.wrong k other
      others k other counted (inl h) = absurd (tried_none known n (is_wrong names place said line) t other counted h.0)
      others k other counted (inr (inl h)) = let b = h.0 in absurd (code_none k other known n (until_end (line ∷ lines)) (rw b at c) h.1 counted)
      others k other counted (inr (inr h)) = rest.first k other counted h

  -- what one step says of the line
  fails_here : (fault : TextFault) → first_of (tried known n (is_wrong names place said line)) (cond (begins_code place line) (fault_in (coded known (assembled_lines n (until_end (line ∷ lines))))) None) ≡ Some fault
      → IsLeast known names place said n (line ∷ lines) fault
  fails_here fault h = by_line (tried known n (is_wrong names place said line)) refl h
    where
      by_code : (b : Bool) → begins_code place line ≡ b → tried known n (is_wrong names place said line) ≡ None → cond b (fault_in (coded known (assembled_lines n (until_end (line ∷ lines))))) None ≡ Some fault → IsLeast known names place said n (line ∷ lines) fault
      by_code true is t h = code_first fault t is h
      by_code false is t h = absurd cc

      by_line : (o : Option TextFault) → tried known n (is_wrong names place said line) ≡ o → first_of o (cond (begins_code place line) (fault_in (coded known (assembled_lines n (until_end (line ∷ lines))))) None) ≡ Some fault → IsLeast known names place said n (line ∷ lines) fault
      by_line (Some other) is h = line_first fault (is ∙ h)
      by_line None is h = by_code (begins_code place line) refl is h

  goes_on_here : first_of (tried known n (is_wrong names place said line)) (cond (begins_code place line) (fault_in (coded known (assembled_lines n (until_end (line ∷ lines))))) None) ≡ None
      → (tried known n (is_wrong names place said line) ≡ None) × (cond (begins_code place line) (fault_in (coded known (assembled_lines n (until_end (line ∷ lines))))) None ≡ None)
  goes_on_here h = parts (tried known n (is_wrong names place said line)) _ h
    where
      parts : (o p : Option TextFault) → first_of o p ≡ None → (o ≡ None) × (p ≡ None)
      parts None p h = (refl, h)
      parts (Some fault) p h = cc

-- ---- the reading

not_closed : (known : Option Names) (names : Names) (place : Place) (said : List Heading) (n : ℕ) → is_inside place ≡ true → IsLeast known names place said n [] (Line n)
not_closed known names place said n inside = record {
  m = n;
  wrong = Malformed;
  counted = counts_malformed known 0 (λ w. false);
  is = (inside, refl, refl);
  tells = refl;
  first = λ k other counted h. inr (sym h.1, let e = h.2 in rw e (omega arith));
}

closes : (known : Option Names) (names : Names) (n : ℕ) (d : Gained) (said : List Heading) (block : Open) → Verdict known names (place_of block) said n [] (closed n block >>= λ none. Ok d)
closes known names n d said Nothing = λ k other counted h. false≢true h.0
closes known names n d said Undecided = not_closed known names InFilter said n refl
closes known names n d said (Bytes image) = not_closed known names (InBytes (length image)) said n refl
closes known names n d said (Code image) = not_closed known names InCode said n refl
closes known names n d said (Calls script) = not_closed known names (InCalls (length script.calls)) said n refl

pub judged : (known : Option Names) (names : Names) → AreThese names known → (n : ℕ) (d : Gained) (block : Open) (said : List Heading) (lines : List (List ℕ))
    → Matches d (filters_so_far d block) (programs_so_far d block) said → Verdict known names (place_of block) said n lines (reading known n d block lines)
unfolding reading
judged known names these n d block said [] m = closes known names n d said block
judged known names these n d block said (line ∷ lines) m =
    go (λ next more. judged known names these (n + 1) next.0 next.1 (said_behind (place_of block) said line) lines more) (stepped known n d block line (line ∷ lines)) refl
  where
    go : ((next : Gained × Open) → Matches next.0 (filters_so_far next.0 next.1) (programs_so_far next.0 next.1) (said_behind (place_of block) said line)
        → Verdict known names (place_of next.1) (said_behind (place_of block) said line) (n + 1) lines (reading known (n + 1) next.0 next.1 lines))
        → (r : Result (Gained × Open) TextFault) → stepped known n d block line (line ∷ lines) ≡ r
        → Verdict known names (place_of block) said n (line ∷ lines) (r >>= λ next. reading known (n + 1) next.0 next.1 lines)
    go rest (Err fault) is = fails_here known names n (place_of block) said line lines fault (sym (judged_line known names these n d said line lines block m) ∙ ap fault_in is)
    go rest (Ok next) is =
        let clean = goes_on_here known names n (place_of block) said line lines (sym (judged_line known names these n d said line lines block m) ∙ ap fault_in is) in
        let after = step_after known n d said line (line ∷ lines) next block is m in
        behind clean after.place (reading known (n + 1) next.0 next.1 lines) (rest next after.matches)
      where
        behind : (tried known n (is_wrong names (place_of block) said line) ≡ None) × (cond (begins_code (place_of block) line) (fault_in (coded known (assembled_lines n (until_end (line ∷ lines))))) None ≡ None)
            → place_of next.1 ≡ place_behind (place_of block) line → (r : Result Gained TextFault)
            → Verdict known names (place_of next.1) (said_behind (place_of block) said line) (n + 1) lines r → Verdict known names (place_of block) said n (line ∷ lines) r
        behind clean place (Ok final) more = nothing_here known names n (place_of block) said line lines clean.0 clean.1 (subst (λ q. NoneCounts known names q (said_behind (place_of block) said line) (n + 1) lines) place more)
        behind clean place (Err fault) more = rest_first known names n (place_of block) said line lines fault clean.0 clean.1 (subst (λ q. IsLeast known names q (said_behind (place_of block) said line) (n + 1) lines fault) place more)
