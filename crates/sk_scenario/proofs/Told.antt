-- The fault that the two readings tell is the first one of the text, and only that one.
use Rattle.std.proofs.Common.{◌≡◌, ◌+◌, ◌∙◌, ap, arith, refl, sym, subst, ℕ, List, [], ◌∷◌, ◌++◌, Option, Some, None, Result, Ok, Err, true, false, cond, length, ◌==◌, inl, inr, append-nil, lt-ltb, le-ltb}
use Rattle.sk_scenario.proofs.Common.{cases_Bool, false≢true, cases_lt, lines_of, TextFault, Limit, Heading, heading_of, Names, Setting, ◌>>=◌, Gained, Open, Nothing, Undecided, Bytes, Code, Calls, stepped, closed, nothing_yet, reading, setting, scenario_of, scenario, Wrong, Excess, Malformed, Beyond, Nameless, told, AtTop, is_inside, place_behind, is_filter, is_program, names_by, one_more_if, names_given, IsWrongIn, rank, is_of_name, IsNotAfter, GoesFirst, IsFirstFault, IsFirstFaultOfText}
use Rattle.sk_scenario.proofs.Steps.{ok_is, bind_ok}
use Rattle.sk_scenario.proofs.Judging.{counts, Matches, place_of, filters_so_far, programs_so_far}
use Rattle.sk_scenario.proofs.States.{After, step_after}
use Rattle.sk_scenario.proofs.Least.{NoneCounts, IsLeast, Verdict, judged}

-- ---- the names

abbrev Named : Gained → Open → List (List ℕ) → Gained → Type 0
Named d block lines final = final.names ≡ d.names ++ names_given (place_of block) (filters_so_far d block) (programs_so_far d block) lines

closed_named : (n : ℕ) (d : Gained) (block : Open) (final : Gained) → (closed n block >>= λ none. Ok d) ≡ Ok final → Named d block [] final
closed_named n d Nothing final h = ap (λ (g : Gained). g.names) (sym (ok_is d final h)) ∙ sym (append-nil d.names)
closed_named n d Undecided final h = cc
closed_named n d (Bytes image) final h = cc
closed_named n d (Code image) final h = cc
closed_named n d (Calls script) final h = cc

after_named : (d : Gained) (block : Open) (said : List Heading) (line : List ℕ) (lines : List (List ℕ)) (next : Gained × Open) (final : Gained) → After d block said line next → Named next.0 next.1 lines final → Named d block (line ∷ lines) final
after_named d block said line lines next final after h = elim (cases_Bool (is_inside (place_of block))) [
  | inl inside ↦
      let filters : filters_so_far next.0 next.1 ≡ filters_so_far d block = let e = after.filters in rw inside at e in
      let programs : programs_so_far next.0 next.1 ≡ programs_so_far d block = let e = after.programs in rw inside at e in
      let rest = names_given (place_behind (place_of block) line) (filters_so_far d block) (programs_so_far d block) lines in
      let same : names_given (place_of next.1) (filters_so_far next.0 next.1) (programs_so_far next.0 next.1) lines ≡ rest = λ i. names_given (after.place i) (filters i) (programs i) lines in
      let all : next.0.names ++ rest ≡ d.names ++ rest = let e = after.names rest in rw inside at e in
      rw inside (h ∙ ap (λ r. next.0.names ++ r) same ∙ all)
  | inr top ↦
      let filters : filters_so_far next.0 next.1 ≡ one_more_if is_filter (heading_of line) (filters_so_far d block) = let e = after.filters in rw top at e in
      let programs : programs_so_far next.0 next.1 ≡ one_more_if is_program (heading_of line) (programs_so_far d block) = let e = after.programs in rw top at e in
      let rest = names_given (place_behind (place_of block) line) (one_more_if is_filter (heading_of line) (filters_so_far d block)) (one_more_if is_program (heading_of line) (programs_so_far d block)) lines in
      let same : names_given (place_of next.1) (filters_so_far next.0 next.1) (programs_so_far next.0 next.1) lines ≡ rest = λ i. names_given (after.place i) (filters i) (programs i) lines in
      let all : next.0.names ++ rest ≡ d.names ++ names_by (filters_so_far d block) (programs_so_far d block) (heading_of line) rest = let e = after.names rest in rw top at e in
      rw top (h ∙ ap (λ r. next.0.names ++ r) same ∙ all)
]

names_read : (known : Option Names) (n : ℕ) (d : Gained) (block : Open) (said : List Heading) (lines : List (List ℕ)) (final : Gained)
    → Matches d (filters_so_far d block) (programs_so_far d block) said → reading known n d block lines ≡ Ok final → Named d block lines final
unfolding reading
names_read known n d block said [] final m h = closed_named n d block final h
names_read known n d block said (line ∷ lines) final m h =
    let s = bind_ok (stepped known n d block line (line ∷ lines)) (λ next. reading known (n + 1) next.0 next.1 lines) final h in
    let after = step_after known n d said line (line ∷ lines) s.0 block s.1 m in
    after_named d block said line lines s.0 final after (names_read known (n + 1) s.0.0 s.0.1 _ lines final after.matches s.2)

start : Matches nothing_yet 0 0 []
start = record { turns = refl; subreapers = refl; names = λ q. refl; filter_count = refl; program_count = refl }

-- ---- the fault that is told is the first

at_once : (known : Option Names) (wrong : Wrong) → is_of_name wrong ≡ false → counts None wrong ≡ true
at_once known Excess h = refl
at_once known Malformed h = refl
at_once known Beyond h = refl
at_once known Nameless h = cc

name_later : (wrong : Wrong) → counts None wrong ≡ true → is_of_name wrong ≡ false
name_later Excess h = refl
name_later Malformed h = refl
name_later Beyond h = refl
name_later Nameless h = cc

err_is : {X : Type 0} (x y : TextFault) → ◌≡◌ {A = Result X TextFault} (Err x) (Err y) → x ≡ y
err_is x y h = cc

module _ (lines : List (List ℕ)) where
  abbrev names : Names
  names = names_given AtTop 0 0 lines

  of_line : (why : TextFault) → IsLeast None names AtTop [] 1 lines why → IsFirstFault lines why
  of_line why v =
      record {
        line = v.m;
        wrong = v.wrong;
        tells = v.tells;
        has = v.is;
        first = λ k other h. elim (cases_Bool (is_of_name other)) [
          | inl name ↦ let w = name_later v.wrong v.counted in inl (rw w refl, name)
          | inr hard ↦ inr (name_later v.wrong v.counted ∙ sym hard, v.first k other (at_once None other hard) h)
        ];
      }

  of_name : (known : Names) (why : TextFault) → NoneCounts None names AtTop [] 1 lines → IsLeast (Some known) names AtTop [] 1 lines why → IsFirstFault lines why
  of_name known why none v = record { line = v.m; wrong = v.wrong; tells = v.tells; has = v.is; first = λ k other h. inr (is_name v.wrong v.m v.is ∙ sym (is_name other k h), v.first k other refl h) }
    where
      is_name : (wrong : Wrong) (m : ℕ) → IsWrongIn lines m wrong → is_of_name wrong ≡ true
      is_name wrong m h = elim (cases_Bool (is_of_name wrong)) [ inl t ↦ t | inr hard ↦ absurd (none m wrong (at_once None wrong hard) h) ]

  known_is : (first : Gained) → reading None 1 nothing_yet Nothing lines ≡ Ok first → first.names ≡ names
  known_is first h = names_read None 1 nothing_yet Nothing [] lines first start h

  clean : (first : Gained) → reading None 1 nothing_yet Nothing lines ≡ Ok first → NoneCounts None names AtTop [] 1 lines
  clean first h = subst (Verdict None names AtTop [] 1 lines) h (judged None names tt 1 nothing_yet Nothing [] lines start)

  first_fault : (why : TextFault) → scenario_of lines ≡ Err why → IsFirstFault lines why
  unfolding scenario_of
  first_fault why h = go (reading None 1 nothing_yet Nothing lines) refl h
    where
      again : (first : Gained) → reading None 1 nothing_yet Nothing lines ≡ Ok first → (r : Result Gained TextFault) → reading (Some first.names) 1 nothing_yet Nothing lines ≡ r
          → (r >>= λ second. Ok (setting second)) ≡ Err why → IsFirstFault lines why
      again first is (Ok second) e h = absurd cc
      again first is (Err other) e h =
          let v = subst (Verdict (Some first.names) names AtTop [] 1 lines) e (judged (Some first.names) names (known_is first is) 1 nothing_yet Nothing [] lines start) in
          subst (IsFirstFault lines) (err_is other why h) (of_name first.names other (clean first is) v)

      go : (r : Result Gained TextFault) → reading None 1 nothing_yet Nothing lines ≡ r
          → (r >>= λ first. reading (Some first.names) 1 nothing_yet Nothing lines >>= λ second. Ok (setting second)) ≡ Err why → IsFirstFault lines why
      go (Err other) is h =
          let v = subst (Verdict None names AtTop [] 1 lines) is (judged None names tt 1 nothing_yet Nothing [] lines start) in
          subst (IsFirstFault lines) (err_is other why h) (of_line other v)
      go (Ok first) is h = again first is (reading (Some first.names) 1 nothing_yet Nothing lines) refl h

  -- a scenario has no fault
  faultless : (s : Setting) → scenario_of lines ≡ Ok s → (m : ℕ) (wrong : Wrong) → IsWrongIn lines m wrong → ⊥
  unfolding scenario_of
  faultless s h m wrong is =
      let first = bind_ok (reading None 1 nothing_yet Nothing lines) (λ first. reading (Some first.names) 1 nothing_yet Nothing lines >>= λ second. Ok (setting second)) s h in
      let second = bind_ok (reading (Some first.0.names) 1 nothing_yet Nothing lines) (λ second. Ok (setting second)) s first.2 in
      let v : NoneCounts (Some first.0.names) names AtTop [] 1 lines = subst (Verdict (Some first.0.names) names AtTop [] 1 lines) second.1 (judged (Some first.0.names) names (known_is first.0 first.1) 1 nothing_yet Nothing [] lines start) in
      v m wrong refl is

  -- ---- and only that one

  by_rank : ℕ → Wrong
  by_rank n = cond (n == 0) Excess (cond (n == 1) Malformed (cond (n == 2) Beyond Nameless))

  ranked : (wrong : Wrong) → by_rank (rank wrong) ≡ wrong
  unfolding by_rank
  ranked Excess = refl
  ranked Malformed = refl
  ranked Beyond = refl
  ranked Nameless = refl

  same : (m k : ℕ) (wrong other : Wrong) → IsNotAfter m wrong k other → IsNotAfter k other m wrong → told m wrong ≡ told k other
  same m k wrong other (inl a) (inl b) = absurd (omega (arith, a, b))
  same m k wrong other (inl a) (inr b) = let e = b.0 in absurd (omega (arith, a, e))
  same m k wrong other (inr a) (inl b) = let e = a.0 in absurd (omega (arith, b, e))
  same m k wrong other (inr a) (inr b) =
      let low = a.1 in
      let high = b.1 in
      let e : rank wrong ≡ rank other = omega (arith, low, high) in
      let w = sym (ranked wrong) ∙ ap by_rank e ∙ ranked other in
      λ i. told (a.0 i) (w i)

  both_first : (m k : ℕ) (wrong other : Wrong) → GoesFirst m wrong k other → GoesFirst k other m wrong → told m wrong ≡ told k other
  both_first m k wrong other (inl a) (inl b) = let x = a.1 in let y = b.0 in absurd (false≢true (rw x at y))
  both_first m k wrong other (inl a) (inr b) = let x = a.1 in let y = a.0 in let e = sym b.0 in absurd (false≢true (rw (e, x) at y))
  both_first m k wrong other (inr a) (inl b) = let x = b.1 in let y = b.0 in let e = sym a.0 in absurd (false≢true (rw (e, x) at y))
  both_first m k wrong other (inr a) (inr b) = same m k wrong other a.1 b.1

  told_first : (why : TextFault) → IsFirstFault lines why → scenario_of lines ≡ Err why
  told_first why h = go (scenario_of lines) refl
    where
      go : (r : Result Setting TextFault) → scenario_of lines ≡ r → r ≡ Err why
      go (Ok s) is = absurd (faultless s is h.line h.wrong h.has)
      go (Err other) is =
          let g = first_fault other is in
          let e = both_first h.line g.line h.wrong g.wrong (h.first g.line g.wrong g.has) (g.first h.line h.wrong h.has) in
          ap Err (g.tells ∙ sym e ∙ sym h.tells)

-- ---- texts

pub fault-first : (text : List ℕ) (why : TextFault) → scenario text ≡ Err why → IsFirstFaultOfText text why
unfolding scenario
fault-first text why h = elim (cases_lt 1048576 (length text)) [
  | inl long ↦ let t = lt-ltb 1048576 (length text) long in inl (long, sym (err_is {X = Setting} (Limit 0) why (rw t at h)))
  | inr short ↦ let f = le-ltb 1048576 (length text) short in inr (short, first_fault (lines_of text) why (rw f at h))
]

pub first-fault : (text : List ℕ) (why : TextFault) → IsFirstFaultOfText text why → scenario text ≡ Err why
unfolding scenario
first-fault text why (inl h) = let t = lt-ltb 1048576 (length text) h.0 in let e = h.1 in rw (t, e) refl
first-fault text why (inr h) = let f = le-ltb 1048576 (length text) h.0 in rw f (told_first (lines_of text) why h.1)
