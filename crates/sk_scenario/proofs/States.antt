-- What a step of the reading leaves, where it finds no fault.
use Rattle.std.proofs.Common.{◌≡◌, ◌≤◌, ◌+◌, ◌∙◌, ap, arith, refl, sym, subst, ℕ, List, [], ◌∷◌, ◌++◌, Option, Some, None, is_some, Result, Ok, Err, Bool, true, false, cond, ◌||◌, length, nat_eq, nat_lt, inl, inr, append_assoc, length-append, filter}
use Rattle.sk_scenario.proofs.Common.{cases_Bool, option_map_or, bytes_eq, words_of, begins_comment, image_of, Insn, AsmFault, is_end, until_end, assembled_lines, Named, TextFault, Line, Unresolved, Limit, Silent, Turns, Subreapers, Filter, Program, Heading, Alone, Opens, heading_of, begins_bytes, bytes_of, Asked, asked_of, Script, Names, named_by, ◌>>=◌, with_call, with_turns, with_subreapers, with_name, plain, understood, checked, Gained, Open, Nothing, Undecided, Bytes, Code, Calls, remarked, given, opened, started, limited, fault_of, held, coded, decided, resolved, called, inside, finished, within, stepped, InBytes, InCode, InCalls, is_inside, bytes_given, place_at, place_in_filter, place_behind, said_behind, is_filter, is_program, names_by, one_more_if}
use Rattle.sk_scenario.proofs.Steps.{kind, ok_is, bind_ok, checked-ok, understood-ok, limited-ok, kind_inside}
use Rattle.sk_scenario.proofs.Whole.{silent-is, turns-ok, marks-ok, given-ok}
use Rattle.sk_scenario.proofs.Judging.{Matches, place_of, filters_so_far, programs_so_far}
use Rattle.sk_scenario.specs.declared.call.Named.TheVariants as named

-- a name is found where it is the new one, or one of those before
named_push : (names : Names) (name : List ℕ) (what : Named) (q : List ℕ) → is_some (named_by (names ++ (name, what) ∷ []) q) ≡ (bytes_eq q name || is_some (named_by names q))
named_push [] name what q = elim (cases_Bool (bytes_eq q name)) [ inl t ↦ rw t refl | inr f ↦ rw f refl ]
named_push (entry ∷ names) name what q = elim (cases_Bool (bytes_eq q entry.0)) [
  | inl t ↦ rw t (or_true (bytes_eq q name))
  | inr f ↦ rw f (named_push names name what q)
]
  where
    or_true : (b : Bool) → true ≡ (b || true)
    or_true true = refl
    or_true false = refl

-- what stands behind a step that found no fault
pub record After (d : Gained) (block : Open) (said : List Heading) (line : List ℕ) (next : Gained × Open) : Type 0 where
  pub matches : Matches next.0 (filters_so_far next.0 next.1) (programs_so_far next.0 next.1) (said_behind (place_of block) said line)
  pub place : place_of next.1 ≡ place_behind (place_of block) line
  pub filters : filters_so_far next.0 next.1 ≡ cond (is_inside (place_of block)) (filters_so_far d block) (one_more_if is_filter (heading_of line) (filters_so_far d block))
  pub programs : programs_so_far next.0 next.1 ≡ cond (is_inside (place_of block)) (programs_so_far d block) (one_more_if is_program (heading_of line) (programs_so_far d block))
  pub names : (rest : Names) → next.0.names ++ rest ≡ d.names ++ cond (is_inside (place_of block)) rest (names_by (filters_so_far d block) (programs_so_far d block) (heading_of line) rest)

-- ---- the top level

record Started (d : Gained) (said : List Heading) (heading : Heading) (next : Gained × Open) : Type 0 where
  matches : Matches next.0 (filters_so_far next.0 next.1) (programs_so_far next.0 next.1) (heading ∷ said)
  place : place_of next.1 ≡ place_at (Some heading)
  filters : filters_so_far next.0 next.1 ≡ one_more_if is_filter (Some heading) (length d.filters)
  programs : programs_so_far next.0 next.1 ≡ one_more_if is_program (Some heading) (length d.programs)
  names : (rest : Names) → next.0.names ++ rest ≡ d.names ++ names_by (length d.filters) (length d.programs) (Some heading) rest

module _ (n : ℕ) (d : Gained) (said : List Heading) (m : Matches d (length d.filters) (length d.programs) said) where
  count_more : (heading : Heading) (test : Heading → Bool) → test heading ≡ true → length (filter test said) + 1 ≡ length (filter test (heading ∷ said))
  count_more heading test passes = rw passes (omega arith)

  silent : Started d said (Alone Silent) (d, Nothing)
  silent = record {
    matches = record { turns = m.turns; subreapers = m.subreapers; names = m.names; filter_count = m.filter_count; program_count = m.program_count };
    place = refl;
    filters = refl;
    programs = refl;
    names = λ rest. refl;
  }

  turned : (t : ℕ) → Started d said (Alone (Turns t)) (with_turns d t, Nothing)
  turned t = record {
    matches = record { turns = refl; subreapers = m.subreapers; names = m.names; filter_count = m.filter_count; program_count = m.program_count };
    place = refl;
    filters = refl;
    programs = refl;
    names = λ rest. refl;
  }

  marked : Started d said (Alone Subreapers) (with_subreapers d, Nothing)
  marked = record {
    matches = record { turns = m.turns; subreapers = refl; names = m.names; filter_count = m.filter_count; program_count = m.program_count };
    place = refl;
    filters = refl;
    programs = refl;
    names = λ rest. refl;
  }

  filter_opened : (name : List ℕ) → Started d said (Opens (Filter name)) (with_name d name (named.Filter (length d.filters)), Undecided)
  filter_opened name = record {
    matches = record {
      turns = m.turns;
      subreapers = m.subreapers;
      names = λ q. named_push d.names name (named.Filter (length d.filters)) q ∙ ap (λ b. bytes_eq q name || b) (m.names q);
      filter_count = ap (λ k. k + 1) m.filter_count ∙ count_more (Opens (Filter name)) is_filter refl;
      program_count = m.program_count;
    };
    place = refl;
    filters = refl;
    programs = refl;
    names = λ rest. append_assoc d.names _ rest;
  }

  program_opened : (name : List ℕ) (owner : ℕ) (setuid : Bool) → Started d said (Opens (Program name owner setuid)) (with_name d name (named.Program (length d.programs)), Calls (record { owner = owner; setuid = setuid; calls = [] }))
  program_opened name owner setuid = record {
    matches = record {
      turns = m.turns;
      subreapers = m.subreapers;
      names = λ q. named_push d.names name (named.Program (length d.programs)) q ∙ ap (λ b. bytes_eq q name || b) (m.names q);
      filter_count = m.filter_count;
      program_count = ap (λ k. k + 1) m.program_count ∙ count_more (Opens (Program name owner setuid)) is_program refl;
    };
    place = refl;
    filters = refl;
    programs = refl;
    names = λ rest. append_assoc d.names _ rest;
  }

  started_after : (heading : Heading) (next : Gained × Open) → started n d heading ≡ Ok next → Started d said heading next
  unfolding started opened
  started_after (Alone Silent) next h =
      let r = bind_ok (remarked n d Silent) (λ (other : Gained). let pair : Gained × Open = (other, Nothing) in Ok pair) next h in
      let e = ok_is d r.0 (sym (silent-is n d) ∙ r.1) in
      subst (Started d said (Alone Silent)) (ap (λ (g : Gained). let pair : Gained × Open = (g, Nothing) in pair) e ∙ ok_is (r.0, Nothing) next r.2) silent
  started_after (Alone (Turns t)) next h =
      let r = bind_ok (remarked n d (Turns t)) (λ (other : Gained). let pair : Gained × Open = (other, Nothing) in Ok pair) next h in
      let e = (turns-ok n d r.0 t r.1).3 in
      subst (Started d said (Alone (Turns t))) (ap (λ (g : Gained). let pair : Gained × Open = (g, Nothing) in pair) e ∙ ok_is (r.0, Nothing) next r.2) (turned t)
  started_after (Alone Subreapers) next h =
      let r = bind_ok (remarked n d Subreapers) (λ (other : Gained). let pair : Gained × Open = (other, Nothing) in Ok pair) next h in
      let e = (marks-ok n d r.0 r.1).1 in
      subst (Started d said (Alone Subreapers)) (ap (λ (g : Gained). let pair : Gained × Open = (g, Nothing) in pair) e ∙ ok_is (r.0, Nothing) next r.2) marked
  started_after (Opens (Filter name)) next h =
      let r = bind_ok (given n d name (named.Filter (length d.filters)) (length d.filters)) (λ (other : Gained). let pair : Gained × Open = (other, Undecided) in Ok pair) next h in
      let e = (given-ok n d r.0 name (named.Filter (length d.filters)) (length d.filters) r.1).2 in
      subst (Started d said (Opens (Filter name))) (ap (λ (g : Gained). let pair : Gained × Open = (g, Undecided) in pair) e ∙ ok_is (r.0, Undecided) next r.2) (filter_opened name)
  started_after (Opens (Program name owner setuid)) next h =
      let start : Open = Calls (record { owner = owner; setuid = setuid; calls = [] }) in
      let r = bind_ok (given n d name (named.Program (length d.programs)) (length d.programs)) (λ (other : Gained). let pair : Gained × Open = (other, start) in Ok pair) next h in
      let e = (given-ok n d r.0 name (named.Program (length d.programs)) (length d.programs) r.1).2 in
      subst (Started d said (Opens (Program name owner setuid))) (ap (λ (g : Gained). let pair : Gained × Open = (g, start) in pair) e ∙ ok_is (r.0, start) next r.2) (program_opened name owner setuid)

-- ---- in a block

-- the place behind a line of a block that it does not end
module _ (known : Option Names) (n : ℕ) (line : List ℕ) (here : List (List ℕ)) (next : Open) where
  bytes_after : (before : List ℕ) (o : Option (List ℕ)) → (understood n o >>= λ bytes. limited n (before ++ bytes)) ≡ Ok next → place_of next ≡ InBytes (length before + option_map_or length o 0)
  bytes_after before o h =
      let u = bind_ok (understood n o) (λ bytes. limited n (before ++ bytes)) next h in
      let said = understood-ok n o u.0 u.1 in
      let is = (limited-ok n (before ++ u.0) next u.2).1 in
      rw said (ap place_of is ∙ ap InBytes (length-append before u.0))

  code_after : (r : Result (List Insn) AsmFault) → coded known r ≡ Ok next → place_of next ≡ InCode
  unfolding coded
  code_after (Ok insns) h = ap place_of (sym (ok_is (Code (image_of insns)) next h))
  code_after (Err fault) h = held_after known (fault_of fault) h
    where
      held_after : (known : Option Names) (why : TextFault) → held known why ≡ Ok next → place_of next ≡ InCode
      held_after known (Line m) h = cc
      held_after known (Limit m) h = cc
      held_after None (Unresolved m) h = ap place_of (sym (ok_is (Code []) next h))
      held_after (Some names) (Unresolved m) h = cc

  decided_after : decided known n line here ≡ Ok next → place_of next ≡ place_in_filter line
  unfolding decided
  decided_after h = elim (cases_Bool (begins_comment (words_of line))) [
    | inl comment ↦ rw comment (ap place_of (sym (ok_is Undecided next (rw comment at h))))
    | inr speaks ↦
        let g = rw speaks at h in
        elim (cases_Bool (begins_bytes (words_of line))) [
          | inl bytes ↦
              let none : 0 + bytes_given line ≡ bytes_given line = omega arith in
              rw (speaks, bytes) (bytes_after [] (bytes_of line) (rw bytes at g) ∙ ap InBytes none)
          | inr code ↦ rw (speaks, code) (code_after (assembled_lines n here) (rw code at g))
        ]
  ]

  -- a line of a program's block
  called_after : (script : Script) (o : Option (Option Asked)) → (understood n o >>= λ asked. called known n script asked >>= λ other. Ok (Calls other)) ≡ Ok next
      → place_of next ≡ InCalls (cond (option_map_or is_some o false) (length script.calls + 1) (length script.calls))
  unfolding called
  called_after script None h = cc
  called_after script (Some None) h = ap place_of (sym (ok_is (Calls script) next h))
  called_after script (Some (Some asked)) h = elim (cases_Bool (nat_lt (length script.calls) 1000)) [
    | inr full ↦ let g = rw full at h in cc
    | inl room ↦
        let g = rw room at h in
        let s = bind_ok (resolved known n asked >>= λ call. Ok (with_call script call)) (λ other. Ok (Calls other)) next g in
        let c = bind_ok (resolved known n asked) (λ call. Ok (with_call script call)) s.0 s.1 in
        ap place_of (sym (ok_is (Calls s.0) next s.2)) ∙ ap (λ (other : Script). InCalls (length other.calls)) (sym (ok_is (with_call script c.0) s.0 c.2)) ∙ ap InCalls (length-append script.calls (c.0 ∷ []))
  ]

  abbrev Goes : Open → Type 0
  Goes block = is_end line ≡ false → inside known n block line here ≡ Ok next → place_of next ≡ place_behind (place_of block) line

  inside_after : (block : Open) → 1 ≤ kind block → Goes block
  unfolding inside checked
  inside_after Nothing low goes h = absurd (omega (arith, low))
  inside_after Undecided low goes h =
      let p = bind_ok (plain n line) (λ good. decided known n line here) next h in
      rw goes (decided_after p.2)
  inside_after (Bytes image) low goes h =
      let p = bind_ok (plain n line >>= λ good. understood n (bytes_of line)) (λ bytes. limited n (image ++ bytes)) next h in
      let q = bind_ok (plain n line) (λ good. understood n (bytes_of line)) p.0 p.1 in
      let again : (understood n (bytes_of line) >>= λ bytes. limited n (image ++ bytes)) ≡ Ok next = let e = q.2 in rw e p.2 in
      rw goes (bytes_after image (bytes_of line) again)
  inside_after (Code image) low goes h = rw goes (ap place_of (sym (ok_is (Code image) next h)))
  inside_after (Calls script) low goes h =
      let p = bind_ok (plain n line >>= λ good. understood n (asked_of line)) (λ asked. called known n script asked >>= λ other. Ok (Calls other)) next h in
      let q = bind_ok (plain n line) (λ good. understood n (asked_of line)) p.0 p.1 in
      let again : (understood n (asked_of line) >>= λ asked. called known n script asked >>= λ other. Ok (Calls other)) ≡ Ok next = let e = q.2 in rw e p.2 in
      rw goes (called_after script (asked_of line) again)

-- ---- any line

abbrev pub Kept : Gained → Open → List Heading → List ℕ → Gained × Open → Type 0
Kept d block said line next = Matches d (filters_so_far d block) (programs_so_far d block) said → After d block said line next

is_inside_of : (block : Open) → 1 ≤ kind block → is_inside (place_of block) ≡ true
is_inside_of Nothing low = absurd (omega (arith, low))
is_inside_of Undecided low = refl
is_inside_of (Bytes image) low = refl
is_inside_of (Code image) low = refl
is_inside_of (Calls script) low = refl

module _ (d : Gained) (block next : Open) (said : List Heading) (line : List ℕ) (low : 1 ≤ kind block) where
  goes_on : kind next ≡ kind block → place_of next ≡ place_behind (place_of block) line → Kept d block said line (d, next)
  goes_on same place m =
      let within = is_inside_of block low in
      let filters : filters_so_far d next ≡ filters_so_far d block = ap (λ k. cond (nat_eq k 1) (length d.filters + 1) (length d.filters)) same in
      let programs : programs_so_far d next ≡ programs_so_far d block = ap (λ k. cond (nat_eq k 2) (length d.programs + 1) (length d.programs)) same in
      record {
        matches = rw (within, filters, programs) m;
        place = place;
        filters = rw within filters;
        programs = rw within programs;
        names = λ rest. rw within refl;
      }

ends_block : (d : Gained) (block : Open) (said : List Heading) (line : List ℕ) → 1 ≤ kind block → is_end line ≡ true → Kept d block said line (finished d block, Nothing)
ends_block d Nothing said line low end m = absurd (omega (arith, low))
ends_block d Undecided said line low end m =
    let more : length (d.filters ++ [] ∷ []) ≡ length d.filters + 1 = length-append d.filters ([] ∷ []) in
    record {
      matches = record { turns = m.turns; subreapers = m.subreapers; names = m.names; filter_count = more ∙ m.filter_count; program_count = m.program_count };
      place = rw end refl;
      filters = more;
      programs = refl;
      names = λ rest. refl;
    }
ends_block d (Bytes image) said line low end m =
    let more : length (d.filters ++ image ∷ []) ≡ length d.filters + 1 = length-append d.filters (image ∷ []) in
    record {
      matches = record { turns = m.turns; subreapers = m.subreapers; names = m.names; filter_count = more ∙ m.filter_count; program_count = m.program_count };
      place = rw end refl;
      filters = more;
      programs = refl;
      names = λ rest. refl;
    }
ends_block d (Code image) said line low end m =
    let more : length (d.filters ++ image ∷ []) ≡ length d.filters + 1 = length-append d.filters (image ∷ []) in
    record {
      matches = record { turns = m.turns; subreapers = m.subreapers; names = m.names; filter_count = more ∙ m.filter_count; program_count = m.program_count };
      place = rw end refl;
      filters = more;
      programs = refl;
      names = λ rest. refl;
    }
ends_block d (Calls script) said line low end m =
    let more : length (d.programs ++ script ∷ []) ≡ length d.programs + 1 = length-append d.programs (script ∷ []) in
    record {
      matches = record { turns = m.turns; subreapers = m.subreapers; names = m.names; filter_count = m.filter_count; program_count = more ∙ m.program_count };
      place = rw end refl;
      filters = refl;
      programs = more;
      names = λ rest. refl;
    }

module _ (known : Option Names) (n : ℕ) (d : Gained) (said : List Heading) (line : List ℕ) (here : List (List ℕ)) (next : Gained × Open) where
  within_after : (block : Open) → 1 ≤ kind block → within known n d block line here ≡ Ok next → Kept d block said line next
  unfolding within
  within_after block low h m = elim (cases_Bool (is_end line)) [
    | inl end ↦ subst (After d block said line) (ok_is (finished d block, Nothing) next (rw end at h)) (ends_block d block said line low end m)
    | inr goes ↦
        let i = bind_ok (inside known n block line (until_end here)) (λ (other : Open). let pair : Gained × Open = (d, other) in Ok pair) next (rw goes at h) in
        subst (After d block said line) (ok_is (d, i.0) next i.2)
        (goes_on d block i.0 said line low (kind_inside known n block line (until_end here) i.0 i.1) (inside_after known n line (until_end here) i.0 block low goes i.1) m)
  ]

  top_after : (checked heading_of n line >>= λ heading. started n d heading) ≡ Ok next → Kept d Nothing said line next
  top_after h m =
      let c = bind_ok (checked heading_of n line) (λ heading. started n d heading) next h in
      let is = (checked-ok heading_of n line c.0 c.1).understood in
      let s = started_after n d said m c.0 next c.2 in
      record {
        matches = rw is s.matches;
        place = rw is s.place;
        filters = rw is s.filters;
        programs = rw is s.programs;
        names = λ rest. rw is (s.names rest);
      }

  pub step_after : (block : Open) → stepped known n d block line here ≡ Ok next → Kept d block said line next
  unfolding stepped
  step_after Nothing h m = top_after h m
  step_after Undecided h m = within_after Undecided (omega arith) h m
  step_after (Bytes image) h m = within_after (Bytes image) (omega arith) h m
  step_after (Code image) h m = within_after (Code image) (omega arith) h m
  step_after (Calls script) h m = within_after (Calls script) (omega arith) h m
