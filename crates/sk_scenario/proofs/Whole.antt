-- What the parts of a scenario give when they are read is what they stand for.
use Rattle.std.proofs.Common.{◌≡◌, ◌≤◌, ◌<◌, ◌+◌, ◌∙◌, ap, arith, refl, sym, subst, ℕ, zero, suc, List, [], ◌∷◌, ◌++◌, Option, Some, None, is_some, Result, Ok, Bool, true, false, length, inl, inr, append-nil, append_assoc, length-append, lt-ltb, le-ltb, le-leb}
use Rattle.sk_scenario.proofs.Common.{cases_Bool, cases_lt, lt-leb, TextFault, Named, Remark, Silent, Turns, Subreapers, Opening, Filter, Program, Script, Names, named_by, names_from, AreGivenOnce, Each, IsImage, IsScript, Part, Single, Block, filters_in, programs_in, turns_in, marks_in, ◌>>=◌, Gained, Open, Nothing, Undecided, Bytes, Code, Calls, remarked, given, opened, finished, with_turns, with_subreapers, with_name, with_filter, with_program, given_once-absent, given_once-push}
use Rattle.sk_scenario.proofs.Steps.{ok_is, bind_ok, filling, kind, kind_filling}
use Rattle.sk_scenario.proofs.Parts.{building}
use Rattle.sk_scenario.proofs.Blocks.{image_filled, image_fills, script_filled, script_fills, Knows}
use Rattle.sk_scenario.specs.declared.call.Named.TheVariants as named

-- ---- lines that stand alone

-- the turns that were given before, those of lines, and those that are given afterwards
abbrev pub TurnsAfter : Option ℕ → List ℕ → Option ℕ → Type 0
TurnsAfter None [] final = final ≡ None
TurnsAfter None (n ∷ []) final = (1 ≤ n) × (n ≤ 100000) × (final ≡ Some n)
TurnsAfter None (n ∷ (m ∷ more)) final = ⊥
TurnsAfter (Some n) [] final = final ≡ Some n
TurnsAfter (Some n) (m ∷ more) final = ⊥

abbrev pub MarksAfter : Bool → ℕ → Bool → Type 0
MarksAfter false zero final = final ≡ false
MarksAfter false (suc zero) final = final ≡ true
MarksAfter false (suc (suc more)) final = ⊥
MarksAfter true zero final = final ≡ true
MarksAfter true (suc more) final = ⊥

turns_more : (before : Option ℕ) (n : ℕ) (more : List ℕ) (final : Option ℕ) → before ≡ None → 1 ≤ n → n ≤ 100000 → TurnsAfter (Some n) more final → TurnsAfter before (n ∷ more) final
turns_more None n [] final e low high h = (low, high, h)
turns_more None n (m ∷ more) final e low high h = h
turns_more (Some other) n more final e low high h = cc

turns_less : (before : Option ℕ) (n : ℕ) (more : List ℕ) (final : Option ℕ) → TurnsAfter before (n ∷ more) final → (before ≡ None) × (1 ≤ n) × (n ≤ 100000) × TurnsAfter (Some n) more final
turns_less None n [] final h = (refl, h.0, h.1, h.2)
turns_less None n (m ∷ more) final h = absurd h
turns_less (Some other) n more final h = absurd h

marks_more : (before : Bool) (more : ℕ) (final : Bool) → before ≡ false → MarksAfter true more final → MarksAfter before (suc more) final
marks_more false zero final e h = h
marks_more false (suc more) final e h = h
marks_more true more final e h = cc

marks_less : (before : Bool) (more : ℕ) (final : Bool) → MarksAfter before (suc more) final → (before ≡ false) × MarksAfter true more final
marks_less false zero final h = (refl, h)
marks_less false (suc more) final h = absurd h
marks_less true more final h = absurd h

is_some-none : {A : Type 0} (o : Option A) → is_some o ≡ false → o ≡ None
is_some-none None h = refl
is_some-none (Some x) h = cc

pub turns-ok : (n : ℕ) (d next : Gained) (turns : ℕ) → remarked n d (Turns turns) ≡ Ok next → (d.turns ≡ None) × (1 ≤ turns) × (turns ≤ 100000) × (with_turns d turns ≡ next)
unfolding remarked
turns-ok n d next turns h = elim (cases_Bool (is_some d.turns)) [
  | inl t ↦ let e = rw t at h in cc
  | inr f ↦
      let e = rw f at h in
      elim (cases_lt turns 1) [
        | inl low ↦ let g = lt-leb 1 turns low in let k = rw g at e in cc
        | inr above ↦
            let g = le-leb 1 turns above in
            let k = rw g at e in
            elim (cases_lt 100000 turns) [
              | inl high ↦ let u = lt-leb turns 100000 high in let m = rw u at k in cc
              | inr below ↦ let u = le-leb turns 100000 below in (is_some-none d.turns f, above, below, ok_is (with_turns d turns) next (rw u at k))
            ]
      ]
]

turns-is : (n : ℕ) (d : Gained) (turns : ℕ) → d.turns ≡ None → 1 ≤ turns → turns ≤ 100000 → remarked n d (Turns turns) ≡ Ok (with_turns d turns)
unfolding remarked
turns-is n d turns e low high =
    let l = le-leb 1 turns low in
    let u = le-leb turns 100000 high in
    rw (e, l, u) refl

pub marks-ok : (n : ℕ) (d next : Gained) → remarked n d Subreapers ≡ Ok next → (d.subreapers ≡ false) × (with_subreapers d ≡ next)
unfolding remarked
marks-ok n d next h = elim (cases_Bool d.subreapers) [
  | inl t ↦ let e = rw t at h in cc
  | inr f ↦ (f, ok_is (with_subreapers d) next (rw f at h))
]

marks-is : (n : ℕ) (d : Gained) → d.subreapers ≡ false → remarked n d Subreapers ≡ Ok (with_subreapers d)
unfolding remarked
marks-is n d e = rw e refl

pub silent-is : (n : ℕ) (d : Gained) → remarked n d Silent ≡ Ok d
unfolding remarked
silent-is n d = refl

-- ---- names

pub given-ok : (n : ℕ) (d next : Gained) (name : List ℕ) (what : Named) (count : ℕ) → given n d name what count ≡ Ok next → (named_by d.names name ≡ None) × (count < 256) × (with_name d name what ≡ next)
unfolding given
given-ok n d next name what count h = elim (cases_Bool (is_some (named_by d.names name))) [
  | inl t ↦ let e = rw t at h in cc
  | inr f ↦
      let e = rw f at h in
      elim (cases_lt count 256) [
        | inl room ↦ let t = lt-ltb count 256 room in (is_some-none (named_by d.names name) f, room, ok_is (with_name d name what) next (rw t at e))
        | inr full ↦ let g = le-ltb count 256 full in let k = rw g at e in cc
      ]
]

given-is : (n : ℕ) (d : Gained) (name : List ℕ) (what : Named) (count : ℕ) → named_by d.names name ≡ None → count < 256 → given n d name what count ≡ Ok (with_name d name what)
unfolding given
given-is n d name what count absent room = let t = lt-ltb count 256 room in rw (absent, t) refl

-- the block that is open behind an opening line
abbrev first_block : Opening → Open
first_block (Filter name) = Undecided
first_block (Program name owner setuid) = Calls (record { owner = owner; setuid = setuid; calls = [] })

abbrev name_in : Opening → List ℕ
name_in (Filter name) = name
name_in (Program name owner setuid) = name

abbrev count_for : Gained → Opening → ℕ
count_for d (Filter name) = length d.filters
count_for d (Program name owner setuid) = length d.programs

abbrev what_is : Gained → Opening → Named
what_is d (Filter name) = named.Filter (length d.filters)
what_is d (Program name owner setuid) = named.Program (length d.programs)

opened-ok : (n : ℕ) (d : Gained) (opening : Opening) (next : Gained × Open) → opened n d opening ≡ Ok next
    → (named_by d.names (name_in opening) ≡ None) × (count_for d opening < 256) × ((with_name d (name_in opening) (what_is d opening), first_block opening) ≡ next)
unfolding opened
opened-ok n d (Filter name) next h =
    let g = bind_ok (given n d name (named.Filter (length d.filters)) (length d.filters)) (λ other. Ok (other, Undecided)) next h in
    let o = given-ok n d g.0 name (named.Filter (length d.filters)) (length d.filters) g.1 in
    (o.0, o.1, ap (λ (other : Gained). let pair : Gained × Open = (other, Undecided) in pair) o.2 ∙ ok_is (g.0, Undecided) next g.2)
opened-ok n d (Program name owner setuid) next h =
    let g = bind_ok (given n d name (named.Program (length d.programs)) (length d.programs)) (λ other. Ok (other, Calls (record { owner = owner; setuid = setuid; calls = [] }))) next h in
    let o = given-ok n d g.0 name (named.Program (length d.programs)) (length d.programs) g.1 in
    (o.0, o.1, ap (λ (other : Gained). let pair : Gained × Open = (other, Calls (record { owner = owner; setuid = setuid; calls = [] })) in pair) o.2 ∙ ok_is (g.0, Calls (record { owner = owner; setuid = setuid; calls = [] })) next g.2)

opened-is : (n : ℕ) (d : Gained) (opening : Opening) → named_by d.names (name_in opening) ≡ None → count_for d opening < 256
    → opened n d opening ≡ Ok (with_name d (name_in opening) (what_is d opening), first_block opening)
unfolding opened
opened-is n d (Filter name) absent room = let g = given-is n d name (named.Filter (length d.filters)) (length d.filters) absent room in rw g refl
opened-is n d (Program name owner setuid) absent room = let g = given-is n d name (named.Program (length d.programs)) (length d.programs) absent room in rw g refl

-- ---- the names that a reading gives, whatever names it knows

next_filter : (d : Gained) (image : List ℕ) → length (d.filters ++ image ∷ []) ≡ length d.filters + 1
next_filter d image = length-append d.filters (image ∷ [])

next_program : (d : Gained) (script : Script) → length (d.programs ++ script ∷ []) ≡ length d.programs + 1
next_program d script = length-append d.programs (script ∷ [])

-- a block of each kind adds one of its kind
finished_filter : (d : Gained) (block : Open) → kind block ≡ 1 → (image : List ℕ) × (finished d block ≡ with_filter d image)
finished_filter d Nothing h = cc
finished_filter d Undecided h = ([], refl)
finished_filter d (Bytes image) h = (image, refl)
finished_filter d (Code image) h = (image, refl)
finished_filter d (Calls script) h = cc

finished_program : (d : Gained) (block : Open) → kind block ≡ 2 → (script : Script) × (finished d block ≡ with_program d script)
finished_program d Nothing h = cc
finished_program d Undecided h = cc
finished_program d (Bytes image) h = cc
finished_program d (Code image) h = cc
finished_program d (Calls script) h = (script, refl)

abbrev NamesAre : Gained → List Part → Gained → Type 0
NamesAre d parts final = final.names ≡ d.names ++ names_from (length d.filters) (length d.programs) parts

names_then-filter : (d final : Gained) (name image : List ℕ) (body : List (List ℕ)) (parts : List Part) → NamesAre (with_filter (with_name d name (named.Filter (length d.filters))) image) parts final
    → NamesAre d (Block (Filter name) body ∷ parts) final
names_then-filter d final name image body parts h =
    let count = next_filter d image in
    let e = rw count at h in
    e ∙ append_assoc d.names ((name, named.Filter (length d.filters)) ∷ []) (names_from (length d.filters + 1) (length d.programs) parts)

names_then-program : (d final : Gained) (name : List ℕ) (owner : ℕ) (setuid : Bool) (script : Script) (body : List (List ℕ)) (parts : List Part)
    → NamesAre (with_program (with_name d name (named.Program (length d.programs))) script) parts final → NamesAre d (Block (Program name owner setuid) body ∷ parts) final
names_then-program d final name owner setuid script body parts h =
    let count = next_program d script in
    let e = rw count at h in
    e ∙ append_assoc d.names ((name, named.Program (length d.programs)) ∷ []) (names_from (length d.filters) (length d.programs + 1) parts)

-- a step of the building of a block
record Opened (known : Option Names) (n : ℕ) (d : Gained) (opening : Opening) (body : List (List ℕ)) (parts : List Part) (final : Gained) : Type 0 where
  absent : named_by d.names (name_in opening) ≡ None
  room : count_for d opening < 256
  next : ℕ × Open
  filled : filling known (n + 1) (first_block opening) body ≡ Ok next
  rest : building known (next.0 + 1) (finished (with_name d (name_in opening) (what_is d opening)) next.1) parts ≡ Ok final

block_built : (known : Option Names) (n : ℕ) (d : Gained) (opening : Opening) (body : List (List ℕ)) (parts : List Part) (final : Gained) → building known n d (Block opening body ∷ parts) ≡ Ok final → Opened known n d opening body parts final
unfolding building
block_built known n d opening body parts final h =
    let o = bind_ok (opened n d opening) (λ start. filling known (n + 1) start.1 body >>= λ block. building known (block.0 + 1) (finished start.0 block.1) parts) final h in
    let e = opened-ok n d opening o.0 o.1 in
    let rest = subst (λ (start : Gained × Open). (filling known (n + 1) start.1 body >>= λ block. building known (block.0 + 1) (finished start.0 block.1) parts) ≡ Ok final) (sym e.2) o.2 in
    let f = bind_ok (filling known (n + 1) (first_block opening) body) (λ block. building known (block.0 + 1) (finished (with_name d (name_in opening) (what_is d opening)) block.1) parts) final rest in
    record { absent = e.0; room = e.1; next = f.0; filled = f.1; rest = f.2 }

single_built : (known : Option Names) (n : ℕ) (d : Gained) (remark : Remark) (parts : List Part) (final : Gained) → building known n d (Single remark ∷ parts) ≡ Ok final
    → (next : Gained) × (remarked n d remark ≡ Ok next) × (building known (n + 1) next parts ≡ Ok final)
unfolding building
single_built known n d remark parts final h = bind_ok (remarked n d remark) (λ next. building known (n + 1) next parts) final h

nothing_built : (known : Option Names) (n : ℕ) (d final : Gained) → building known n d [] ≡ Ok final → d ≡ final
unfolding building
nothing_built known n d final h = ok_is d final h

pub names_built : (known : Option Names) (n : ℕ) (d : Gained) (parts : List Part) (final : Gained) → building known n d parts ≡ Ok final → NamesAre d parts final
names_built known n d [] final h = let e = nothing_built known n d final h in ap (λ (g : Gained). g.names) (sym e) ∙ sym (append-nil d.names)
names_built known n d (Single Silent ∷ parts) final h =
    let s = single_built known n d Silent parts final h in
    let e = ok_is d s.0 (sym (silent-is n d) ∙ s.1) in
    subst (λ (next : Gained). NamesAre next parts final) (sym e) (names_built known (n + 1) s.0 parts final s.2)
names_built known n d (Single (Turns turns) ∷ parts) final h =
    let s = single_built known n d (Turns turns) parts final h in
    let e = turns-ok n d s.0 turns s.1 in
    subst (λ (next : Gained). NamesAre next parts final) (sym e.3) (names_built known (n + 1) s.0 parts final s.2)
names_built known n d (Single Subreapers ∷ parts) final h =
    let s = single_built known n d Subreapers parts final h in
    let e = marks-ok n d s.0 s.1 in
    subst (λ (next : Gained). NamesAre next parts final) (sym e.1) (names_built known (n + 1) s.0 parts final s.2)
names_built known n d (Block (Filter name) body ∷ parts) final h =
    let b = block_built known n d (Filter name) body parts final h in
    let other = with_name d name (named.Filter (length d.filters)) in
    let f = finished_filter other b.next.1 (kind_filling known (n + 1) Undecided body b.next b.filled) in
    names_then-filter d final name f.0 body parts
    (subst (λ (next : Gained). NamesAre next parts final) f.1 (names_built known (b.next.0 + 1) (finished other b.next.1) parts final b.rest))
names_built known n d (Block (Program name owner setuid) body ∷ parts) final h =
    let b = block_built known n d (Program name owner setuid) body parts final h in
    let other = with_name d name (named.Program (length d.programs)) in
    let f = finished_program other b.next.1 (kind_filling known (n + 1) (first_block (Program name owner setuid)) body b.next b.filled) in
    names_then-program d final name owner setuid f.0 body parts
    (subst (λ (next : Gained). NamesAre next parts final) f.1 (names_built known (b.next.0 + 1) (finished other b.next.1) parts final b.rest))

-- ---- what parts stand for, behind what was gained

pub record Fit (names : Names) (d : Gained) (parts : List Part) (t : Option ℕ) (mark : Bool) (images : List (List ℕ)) (scripts : List Script) : Type 0 where
  pub once : AreGivenOnce (d.names ++ names_from (length d.filters) (length d.programs) parts)
  pub turns : TurnsAfter d.turns (turns_in parts) t
  pub marks : MarksAfter d.subreapers (marks_in parts) mark
  pub filters : Each IsImage (filters_in parts) images
  pub few_filters : length d.filters + length images ≤ 256
  pub programs : Each (IsScript names) (programs_in parts) scripts
  pub few_programs : length d.programs + length scripts ≤ 256

turns_none : (before after : Option ℕ) → TurnsAfter before [] after → before ≡ after
turns_none None after h = sym h
turns_none (Some n) after h = sym h

turns_same : (before : Option ℕ) → TurnsAfter before [] before
turns_same None = refl
turns_same (Some n) = refl

marks_none : (before after : Bool) → MarksAfter before zero after → before ≡ after
marks_none false after h = sym h
marks_none true after h = sym h

marks_same : (before : Bool) → MarksAfter before zero before
marks_same false = refl
marks_same true = refl

module _ (names : Names) (d : Gained) (parts : List Part) (t : Option ℕ) (mark : Bool) (images : List (List ℕ)) (scripts : List Script) where
  fit_turns : (n : ℕ) → d.turns ≡ None → 1 ≤ n → n ≤ 100000 → Fit names (with_turns d n) parts t mark images scripts → Fit names d (Single (Turns n) ∷ parts) t mark images scripts
  fit_turns n e low high h = record {
    once = h.once;
    turns = turns_more d.turns n (turns_in parts) t e low high h.turns;
    marks = h.marks;
    filters = h.filters;
    few_filters = h.few_filters;
    programs = h.programs;
    few_programs = h.few_programs;
  }

  unfit_turns : (n : ℕ) → Fit names d (Single (Turns n) ∷ parts) t mark images scripts → Fit names (with_turns d n) parts t mark images scripts
  unfit_turns n h = record {
    once = h.once;
    turns = (turns_less d.turns n (turns_in parts) t h.turns).3;
    marks = h.marks;
    filters = h.filters;
    few_filters = h.few_filters;
    programs = h.programs;
    few_programs = h.few_programs;
  }

  fit_marks : d.subreapers ≡ false → Fit names (with_subreapers d) parts t mark images scripts → Fit names d (Single Subreapers ∷ parts) t mark images scripts
  fit_marks e h = record {
    once = h.once;
    turns = h.turns;
    marks = marks_more d.subreapers (marks_in parts) mark e h.marks;
    filters = h.filters;
    few_filters = h.few_filters;
    programs = h.programs;
    few_programs = h.few_programs;
  }

  unfit_marks : Fit names d (Single Subreapers ∷ parts) t mark images scripts → Fit names (with_subreapers d) parts t mark images scripts
  unfit_marks h = record {
    once = h.once;
    turns = h.turns;
    marks = (marks_less d.subreapers (marks_in parts) mark h.marks).1;
    filters = h.filters;
    few_filters = h.few_filters;
    programs = h.programs;
    few_programs = h.few_programs;
  }

  fit_silent : Fit names d parts t mark images scripts → Fit names d (Single Silent ∷ parts) t mark images scripts
  fit_silent h = record { once = h.once; turns = h.turns; marks = h.marks; filters = h.filters; few_filters = h.few_filters; programs = h.programs; few_programs = h.few_programs }

  unfit_silent : Fit names d (Single Silent ∷ parts) t mark images scripts → Fit names d parts t mark images scripts
  unfit_silent h = record { once = h.once; turns = h.turns; marks = h.marks; filters = h.filters; few_filters = h.few_filters; programs = h.programs; few_programs = h.few_programs }

  module _ (name : List ℕ) (image : List ℕ) (body : List (List ℕ)) where
    abbrev filter_more : Gained
    filter_more = with_filter (with_name d name (named.Filter (length d.filters))) image

    filter_names : filter_more.names ++ names_from (length filter_more.filters) (length filter_more.programs) parts
        ≡ d.names ++ ((name, named.Filter (length d.filters)) ∷ names_from (length d.filters + 1) (length d.programs) parts)
    filter_names = let count = next_filter d image in rw count (append_assoc d.names ((name, named.Filter (length d.filters)) ∷ []) (names_from (length d.filters + 1) (length d.programs) parts))

    fit_filter : IsImage body image → Fit names filter_more parts t mark images scripts → Fit names d (Block (Filter name) body ∷ parts) t mark (image ∷ images) scripts
    fit_filter i h =
        let count = next_filter d image in
        let few = h.few_filters in
        record {
          once = subst AreGivenOnce filter_names h.once;
          turns = h.turns;
          marks = h.marks;
          filters = (i, h.filters);
          few_filters = omega (arith, count, few);
          programs = h.programs;
          few_programs = h.few_programs;
        }

    unfit_filter : Fit names d (Block (Filter name) body ∷ parts) t mark (image ∷ images) scripts → Fit names filter_more parts t mark images scripts
    unfit_filter h =
        let count = next_filter d image in
        let few = h.few_filters in
        record {
          once = subst AreGivenOnce (sym filter_names) h.once;
          turns = h.turns;
          marks = h.marks;
          filters = h.filters.1;
          few_filters = omega (arith, count, few);
          programs = h.programs;
          few_programs = h.few_programs;
        }

  module _ (name : List ℕ) (owner : ℕ) (setuid : Bool) (script other : Script) (body : List (List ℕ)) where
    abbrev program_more : Gained
    program_more = with_program (with_name d name (named.Program (length d.programs))) other

    program_names : program_more.names ++ names_from (length program_more.filters) (length program_more.programs) parts
        ≡ d.names ++ ((name, named.Program (length d.programs)) ∷ names_from (length d.filters) (length d.programs + 1) parts)
    program_names = let count = next_program d other in rw count (append_assoc d.names ((name, named.Program (length d.programs)) ∷ []) (names_from (length d.filters) (length d.programs + 1) parts))

    fit_program : IsScript names (record { owner = owner; setuid = setuid; body = body }) script → Fit names program_more parts t mark images scripts
        → Fit names d (Block (Program name owner setuid) body ∷ parts) t mark images (script ∷ scripts)
    fit_program i h =
        let count = next_program d other in
        let few = h.few_programs in
        record {
          once = subst AreGivenOnce program_names h.once;
          turns = h.turns;
          marks = h.marks;
          filters = h.filters;
          few_filters = h.few_filters;
          programs = (i, h.programs);
          few_programs = omega (arith, count, few);
        }

    unfit_program : Fit names d (Block (Program name owner setuid) body ∷ parts) t mark images (script ∷ scripts) → Fit names program_more parts t mark images scripts
    unfit_program h =
        let count = next_program d other in
        let few = h.few_programs in
        record {
          once = subst AreGivenOnce (sym program_names) h.once;
          turns = h.turns;
          marks = h.marks;
          filters = h.filters;
          few_filters = h.few_filters;
          programs = h.programs.1;
          few_programs = omega (arith, count, few);
        }

-- ---- from the reading

pub record Found (names : Names) (d : Gained) (parts : List Part) (final : Gained) : Type 0 where
  pub images : List (List ℕ)
  pub scripts : List Script
  pub fit : Fit names d parts final.turns final.subreapers images scripts
  pub filters_are : final.filters ≡ d.filters ++ images
  pub programs_are : final.programs ≡ d.programs ++ scripts

-- what was gained before is within the limits
record Good (d : Gained) : Type 0 where
  once : AreGivenOnce d.names
  few_filters : length d.filters ≤ 256
  few_programs : length d.programs ≤ 256

found_nothing : (names : Names) (d : Gained) → Good d → Found names d [] d
found_nothing names d good =
    let same = append-nil d.names in
    let few_filters = good.few_filters in
    let few_programs = good.few_programs in
    let fit : Fit names d [] d.turns d.subreapers [] [] = record {
      once = rw same good.once;
      turns = turns_same d.turns;
      marks = marks_same d.subreapers;
      filters = tt;
      few_filters = omega arith;
      programs = tt;
      few_programs = omega arith;
    } in
    record { images = []; scripts = []; fit = fit; filters_are = sym (append-nil d.filters); programs_are = sym (append-nil d.programs) }

good_filter : (d : Gained) (name image : List ℕ) → Good d → named_by d.names name ≡ None → length d.filters < 256 → Good (with_filter (with_name d name (named.Filter (length d.filters))) image)
good_filter d name image good absent room =
    let count = next_filter d image in
    record { once = given_once-push d.names name (named.Filter (length d.filters)) good.once absent; few_filters = omega arith; few_programs = good.few_programs }

good_program : (d : Gained) (name : List ℕ) (script : Script) → Good d → named_by d.names name ≡ None → length d.programs < 256 → Good (with_program (with_name d name (named.Program (length d.programs))) script)
good_program d name script good absent room =
    let count = next_program d script in
    record { once = given_once-push d.names name (named.Program (length d.programs)) good.once absent; few_filters = good.few_filters; few_programs = omega arith }

found : (names : Names) (n : ℕ) (d : Gained) (parts : List Part) (final : Gained) → Good d → building (Some names) n d parts ≡ Ok final → Found names d parts final
found names n d [] final good h = subst (λ (g : Gained). Found names d [] g) (nothing_built (Some names) n d final h) (found_nothing names d good)
found names n d (Single Silent ∷ parts) final good h =
    let s = single_built (Some names) n d Silent parts final h in
    let e = ok_is d s.0 (sym (silent-is n d) ∙ s.1) in
    let r = subst (λ (next : Gained). Found names next parts final) (sym e) (found names (n + 1) s.0 parts final (subst Good e good) s.2) in
    record { images = r.images; scripts = r.scripts; fit = fit_silent names d parts final.turns final.subreapers r.images r.scripts r.fit; filters_are = r.filters_are; programs_are = r.programs_are }
found names n d (Single (Turns turns) ∷ parts) final good h =
    let s = single_built (Some names) n d (Turns turns) parts final h in
    let e = turns-ok n d s.0 turns s.1 in
    let better : Good (with_turns d turns) = record { once = good.once; few_filters = good.few_filters; few_programs = good.few_programs } in
    let r = subst (λ (next : Gained). Found names next parts final) (sym e.3) (found names (n + 1) s.0 parts final (subst Good e.3 better) s.2) in
    record { images = r.images; scripts = r.scripts; fit = fit_turns names d parts final.turns final.subreapers r.images r.scripts turns e.0 e.1 e.2 r.fit; filters_are = r.filters_are; programs_are = r.programs_are }
found names n d (Single Subreapers ∷ parts) final good h =
    let s = single_built (Some names) n d Subreapers parts final h in
    let e = marks-ok n d s.0 s.1 in
    let better : Good (with_subreapers d) = record { once = good.once; few_filters = good.few_filters; few_programs = good.few_programs } in
    let r = subst (λ (next : Gained). Found names next parts final) (sym e.1) (found names (n + 1) s.0 parts final (subst Good e.1 better) s.2) in
    record { images = r.images; scripts = r.scripts; fit = fit_marks names d parts final.turns final.subreapers r.images r.scripts e.0 r.fit; filters_are = r.filters_are; programs_are = r.programs_are }
found names n d (Block (Filter name) body ∷ parts) final good h =
    let b = block_built (Some names) n d (Filter name) body parts final h in
    let other = with_name d name (named.Filter (length d.filters)) in
    let i = image_filled names (n + 1) body b.next b.filled in
    let e = i.2 other in
    let better = good_filter d name i.0 good b.absent b.room in
    let r = subst (λ (next : Gained). Found names next parts final) e (found names (b.next.0 + 1) (finished other b.next.1) parts final (subst Good (sym e) better) b.rest) in
    record {
      images = i.0 ∷ r.images;
      scripts = r.scripts;
      fit = fit_filter names d parts final.turns final.subreapers r.images r.scripts name i.0 body i.1 r.fit;
      filters_are = r.filters_are ∙ append_assoc d.filters (i.0 ∷ []) r.images;
      programs_are = r.programs_are;
    }
found names n d (Block (Program name owner setuid) body ∷ parts) final good h =
    let b = block_built (Some names) n d (Program name owner setuid) body parts final h in
    let other = with_name d name (named.Program (length d.programs)) in
    let i = script_filled names (n + 1) owner setuid body b.next b.filled in
    let e = i.2 other in
    let better = good_program d name i.0 good b.absent b.room in
    let r = subst (λ (next : Gained). Found names next parts final) e (found names (b.next.0 + 1) (finished other b.next.1) parts final (subst Good (sym e) better) b.rest) in
    record {
      images = r.images;
      scripts = i.0 ∷ r.scripts;
      fit = fit_program names d parts final.turns final.subreapers r.images r.scripts name owner setuid i.0 i.0 body i.1 r.fit;
      filters_are = r.filters_are;
      programs_are = r.programs_are ∙ append_assoc d.programs (i.0 ∷ []) r.scripts;
    }

-- ---- to the reading

pub record Made (known : Option Names) (names : Names) (n : ℕ) (d : Gained) (parts : List Part) (t : Option ℕ) (mark : Bool) (images : List (List ℕ)) (scripts : List Script) : Type 0 where
  pub final : Gained
  pub built : building known n d parts ≡ Ok final
  pub turns_are : final.turns ≡ t
  pub marks_are : final.subreapers ≡ mark
  pub filters_are : final.filters ≡ d.filters ++ images
  pub programs_are : known ≡ Some names → final.programs ≡ d.programs ++ scripts

block_builds : (known : Option Names) (n : ℕ) (d : Gained) (opening : Opening) (body : List (List ℕ)) (parts : List Part) (next : ℕ × Open) (r : Result Gained TextFault)
    → named_by d.names (name_in opening) ≡ None → count_for d opening < 256 → filling known (n + 1) (first_block opening) body ≡ Ok next
    → building known (next.0 + 1) (finished (with_name d (name_in opening) (what_is d opening)) next.1) parts ≡ r → building known n d (Block opening body ∷ parts) ≡ r
unfolding building
block_builds known n d opening body parts next r absent room filled rest =
    let o = opened-is n d opening absent room in
    rw (o, filled) rest

single_builds : (known : Option Names) (n : ℕ) (d next : Gained) (remark : Remark) (parts : List Part) (r : Result Gained TextFault) → remarked n d remark ≡ Ok next → building known (n + 1) next parts ≡ r
    → building known n d (Single remark ∷ parts) ≡ r
unfolding building
single_builds known n d next remark parts r h rest = rw h rest

nothing_builds : (known : Option Names) (n : ℕ) (d : Gained) → building known n d [] ≡ Ok d
unfolding building
nothing_builds known n d = refl

made : (known : Option Names) (names : Names) (n : ℕ) (d : Gained) (parts : List Part) (t : Option ℕ) (mark : Bool) (images : List (List ℕ)) (scripts : List Script) → Knows known names
    → Fit names d parts t mark images scripts → Made known names n d parts t mark images scripts
made known names n d [] t mark [] [] k h = record {
  final = d;
  built = nothing_builds known n d;
  turns_are = turns_none d.turns t h.turns;
  marks_are = marks_none d.subreapers mark h.marks;
  filters_are = sym (append-nil d.filters);
  programs_are = λ e. sym (append-nil d.programs);
}
made known names n d [] t mark (image ∷ images) scripts k h = absurd h.filters
made known names n d [] t mark [] (script ∷ scripts) k h = absurd h.programs
made known names n d (Single Silent ∷ parts) t mark images scripts k h =
    let r = made known names (n + 1) d parts t mark images scripts k (unfit_silent names d parts t mark images scripts h) in
    record {
      final = r.final;
      built = single_builds known n d d Silent parts (Ok r.final) (silent-is n d) r.built;
      turns_are = r.turns_are;
      marks_are = r.marks_are;
      filters_are = r.filters_are;
      programs_are = r.programs_are;
    }
made known names n d (Single (Turns turns) ∷ parts) t mark images scripts k h =
    let e = turns_less d.turns turns (turns_in parts) t h.turns in
    let r = made known names (n + 1) (with_turns d turns) parts t mark images scripts k (unfit_turns names d parts t mark images scripts turns h) in
    record {
      final = r.final;
      built = single_builds known n d (with_turns d turns) (Turns turns) parts (Ok r.final) (turns-is n d turns e.0 e.1 e.2) r.built;
      turns_are = r.turns_are;
      marks_are = r.marks_are;
      filters_are = r.filters_are;
      programs_are = r.programs_are;
    }
made known names n d (Single Subreapers ∷ parts) t mark images scripts k h =
    let e = marks_less d.subreapers (marks_in parts) mark h.marks in
    let r = made known names (n + 1) (with_subreapers d) parts t mark images scripts k (unfit_marks names d parts t mark images scripts h) in
    record {
      final = r.final;
      built = single_builds known n d (with_subreapers d) Subreapers parts (Ok r.final) (marks-is n d e.0) r.built;
      turns_are = r.turns_are;
      marks_are = r.marks_are;
      filters_are = r.filters_are;
      programs_are = r.programs_are;
    }
made known names n d (Block (Filter name) body ∷ parts) t mark [] scripts k h = absurd h.filters
made known names n d (Block (Filter name) body ∷ parts) t mark (image ∷ images) scripts k h =
    let few = h.few_filters in
    let room : length d.filters < 256 = omega arith in
    let absent = given_once-absent d.names (names_from (length d.filters + 1) (length d.programs) parts) name (named.Filter (length d.filters)) h.once in
    let other = with_name d name (named.Filter (length d.filters)) in
    let i = image_fills known (n + 1) body image h.filters.0 in
    let e = i.2 other in
    let r = made known names (i.0.0 + 1) (with_filter other image) parts t mark images scripts k (unfit_filter names d parts t mark images scripts name image body h) in
    let rest = subst (λ (next : Gained). building known (i.0.0 + 1) next parts ≡ Ok r.final) (sym e) r.built in
    record {
      final = r.final;
      built = block_builds known n d (Filter name) body parts i.0 (Ok r.final) absent room i.1 rest;
      turns_are = r.turns_are;
      marks_are = r.marks_are;
      filters_are = r.filters_are ∙ append_assoc d.filters (image ∷ []) images;
      programs_are = r.programs_are;
    }
made known names n d (Block (Program name owner setuid) body ∷ parts) t mark images [] k h = absurd h.programs
made known names n d (Block (Program name owner setuid) body ∷ parts) t mark images (script ∷ scripts) k h =
    let few = h.few_programs in
    let room : length d.programs < 256 = omega arith in
    let absent = given_once-absent d.names (names_from (length d.filters) (length d.programs + 1) parts) name (named.Program (length d.programs)) h.once in
    let other = with_name d name (named.Program (length d.programs)) in
    let i = script_fills known names (n + 1) owner setuid body script k h.programs.0 in
    let e = i.2.1 other in
    let r = made known names (i.0.0 + 1) (with_program other i.2.0) parts t mark images scripts k (unfit_program names d parts t mark images scripts name owner setuid script i.2.0 body h) in
    let rest = subst (λ (next : Gained). building known (i.0.0 + 1) next parts ≡ Ok r.final) (sym e) r.built in
    record {
      final = r.final;
      built = block_builds known n d (Program name owner setuid) body parts i.0 (Ok r.final) absent room i.1 rest;
      turns_are = r.turns_are;
      marks_are = r.marks_are;
      filters_are = r.filters_are;
      programs_are = λ known_is.
          r.programs_are known_is ∙ append_assoc d.programs (i.2.0 ∷ []) scripts ∙ ap (λ (s : Script). d.programs ++ (s ∷ scripts)) (i.2.2 known_is);
    }

-- ---- both

pub found_all : (names : Names) (n : ℕ) (d : Gained) (parts : List Part) (final : Gained) → AreGivenOnce d.names → length d.filters ≤ 256 → length d.programs ≤ 256
    → building (Some names) n d parts ≡ Ok final → Found names d parts final
found_all names n d parts final once few_filters few_programs h = found names n d parts final (record { once = once; few_filters = few_filters; few_programs = few_programs }) h

pub made_all : (known : Option Names) (names : Names) (n : ℕ) (d : Gained) (parts : List Part) (t : Option ℕ) (mark : Bool) (images : List (List ℕ)) (scripts : List Script) → Knows known names
    → Fit names d parts t mark images scripts → Made known names n d parts t mark images scripts
made_all known names n d parts t mark images scripts k h = made known names n d parts t mark images scripts k h
