-- The two passes find the instructions that lines stand for, and only those.
use Rattle.std.proofs.Common.{◌≡◌, ◌≤◌, ◌<◌, ◌+◌, ◌-◌, ◌^◌, ◌∙◌, ap, arith, refl, sym, subst, ℕ, List, [], ◌∷◌, ◌++◌, Option, Some, None, is_some, Result, Ok, Err, false, length, append-nil, append_assoc, inl, inr}
use Rattle.std.proofs.lemmas.Bool.{cases_Bool, cases_lt, lt-ltb, le-ltb, le-leb, lt-leb}
use Rattle.std.specs.Option.{option_len}
use Rattle.std.specs.List.{list_all}
use Rattle.sk_text.specs.Lines.{is_printable_byte}
use Rattle.sk_insn.specs.declared.insn.Insn.{Insn}
use Rattle.sk_asm.specs.declared.fault.AsmFault.{AsmFault}
use Rattle.sk_asm.specs.Faults.{◌>>=◌}
use Rattle.sk_asm.specs.Grammar.{Destination, Further, Labelled, Statement, Silent, Marks, Plain, Jumps, Branches, insn, statement_of}
use Rattle.sk_asm.specs.Labels.{Labels, label_place}
use Rattle.sk_asm.specs.Passes.{understood, checked, counted, marked, noted, labelled, landed, distance, resolved, in_front, emitted, assembled_lines}
use Rattle.sk_asm.specs.Assembly.{SaysLine, Says, labels_from, AreGivenOnce, IsDistance, IsJump, IsBranch, StandFor, Assembles}
use Rattle.sk_asm.proofs.Distinct.{given_once-absent, given_once-push, given_once-none}

-- ---- steps

pub ok_is : {X : Type 0} (x y : X) → ◌≡◌ {A = Result X AsmFault} (Ok x) (Ok y) → x ≡ y
ok_is x y h = cc

-- a chain of steps gives a value only where its first step does
pub bind_ok : {X Y : Type 0} (first : Result X AsmFault) (next : X → Result Y AsmFault) (y : Y) → (first >>= next) ≡ Ok y → (x : X) × (first ≡ Ok x) × (next x ≡ Ok y)
bind_ok (Ok x) next y h = (x, refl, h)
bind_ok (Err fault) next y h = cc

-- ---- one line

understood-ok : (n : ℕ) (said : Option Statement) (statement : Statement) → understood n said ≡ Ok statement → said ≡ Some statement
understood-ok n None statement h = cc
understood-ok n (Some other) statement h = cc

pub checked-ok : (n : ℕ) (line : List ℕ) (statement : Statement) → checked n line ≡ Ok statement → SaysLine line statement
unfolding checked
checked-ok n line statement h = elim (cases_lt 255 (length line)) [
  | inl long ↦ let t = lt-ltb 255 (length line) long in let e = rw t at h in cc
  | inr short ↦
      let f = le-ltb 255 (length line) short in
      let e = rw f at h in
      elim (cases_Bool (list_all is_printable_byte line)) [
        | inl t ↦ record { short = short; printable = t; understood = understood-ok n (statement_of line) statement (rw t at e) }
        | inr bad ↦ let g = rw bad at e in cc
      ]
]

pub checked-says : (n : ℕ) (line : List ℕ) (statement : Statement) → SaysLine line statement → checked n line ≡ Ok statement
unfolding checked
checked-says n line statement h =
    let f = le-ltb 255 (length line) h.short in
    let t = h.printable in
    let e = h.understood in
    rw (f, t, e) refl

-- ---- distances

landed-ok : (n at most count : ℕ) (place : Option ℕ) → landed n at most place ≡ Ok count → (place ≡ Some (at + 1 + count)) × (count ≤ most)
landed-ok n at most count None h = cc
landed-ok n at most count (Some place) h = elim (cases_lt at place) [
  | inr back ↦ let t = le-leb place at back in let e = rw t at h in cc
  | inl ahead ↦
      let f = lt-leb place at ahead in
      let e = rw f at h in
      elim (cases_lt most (place - at - 1)) [
        | inl far ↦ let t = lt-ltb most (place - at - 1) far in let g = rw t at e in cc
        | inr near ↦
            let u = le-ltb most (place - at - 1) near in
            let same = ok_is (place - at - 1) count (rw u at e) in
            let there : place ≡ at + 1 + count = omega arith in
            (ap Some there, omega arith)
      ]
]

landed-is : (n at most count : ℕ) → count ≤ most → landed n at most (Some (at + 1 + count)) ≡ Ok count
landed-is n at most count h =
    let f = lt-leb (at + 1 + count) at (omega arith) in
    let same : at + 1 + count - at - 1 ≡ count = omega arith in
    let u = le-ltb most count h in
    rw (f, same, u) refl

pub distance-ok : (labels : Labels) (n at most count : ℕ) (to : Destination) → distance labels n at most to ≡ Ok count → IsDistance labels at most count to
unfolding distance
distance-ok labels n at most count (Further given) h = sym (ok_is given count h)
distance-ok labels n at most count (Labelled name) h = landed-ok n at most count (label_place labels name) h

distance-is : (labels : Labels) (n at most count : ℕ) (to : Destination) → IsDistance labels at most count to → distance labels n at most to ≡ Ok count
unfolding distance
distance-is labels n at most count (Further given) h = ap Ok (sym h)
distance-is labels n at most count (Labelled name) h = rw h.0 (landed-is n at most count h.1)

-- ---- the first pass

-- how many instructions there are
count : List Statement → ℕ
count [] = 0
count (Silent ∷ statements) = count statements
count (Marks name ∷ statements) = count statements
count (Plain given ∷ statements) = 1 + count statements
count (Jumps code to ∷ statements) = 1 + count statements
count (Branches code k jt jf ∷ statements) = 1 + count statements

-- what the first pass found: the statements, and the labels that they give
record Scanned (labels : Labels) (at : ℕ) (lines : List (List ℕ)) (final : Labels) : Type 0 where
  statements : List Statement
  says : Says lines statements
  made : final ≡ labels ++ labels_from at statements
  few : at + count statements ≤ 4096
  once : AreGivenOnce final

pub counted-ok : (n : ℕ) (labels : Labels) (at : ℕ) (next : Labels × ℕ) → counted n labels at ≡ Ok next → (at < 4096) × ((labels, at + 1) ≡ next)
counted-ok n labels at next h = elim (cases_lt at 4096) [
  | inl below ↦ let t = lt-ltb at 4096 below in (below, ok_is (labels, at + 1) next (rw t at h))
  | inr full ↦ let f = le-ltb at 4096 full in let e = rw f at h in cc
]

is_some-none : {A : Type 0} (o : Option A) → is_some o ≡ false → o ≡ None
is_some-none None h = refl
is_some-none (Some x) h = cc

pub marked-ok : (n : ℕ) (labels : Labels) (at : ℕ) (name : List ℕ) (next : Labels × ℕ) → marked n labels at name ≡ Ok next → (label_place labels name ≡ None) × ((labels ++ (name, at) ∷ [], at) ≡ next)
marked-ok n labels at name next h = elim (cases_Bool (is_some (label_place labels name))) [
  | inl t ↦ let e = rw t at h in cc
  | inr f ↦ (is_some-none (label_place labels name) f, ok_is (labels ++ (name, at) ∷ [], at) next (rw f at h))
]

-- the lines behind a line were scanned
module _ (labels : Labels) (at : ℕ) (line : List ℕ) (lines : List (List ℕ)) (final : Labels) where
  abbrev Behind : Labels × ℕ → Type 0
  Behind next = next.1 ≤ 4096 → AreGivenOnce next.0 → Scanned next.0 next.1 lines final

  scanned-silent : SaysLine line Silent → Scanned labels at lines final → Scanned labels at (line ∷ lines) final
  unfolding count
  scanned-silent said rest = record { statements = Silent ∷ rest.statements; says = (said, rest.says); made = rest.made; few = rest.few; once = rest.once }

  scanned-marks : (name : List ℕ) → SaysLine line (Marks name) → Scanned (labels ++ (name, at) ∷ []) at lines final → Scanned labels at (line ∷ lines) final
  unfolding count
  scanned-marks name said rest = record {
    statements = Marks name ∷ rest.statements;
    says = (said, rest.says);
    made = rest.made ∙ append_assoc labels ((name, at) ∷ []) (labels_from at rest.statements);
    few = rest.few;
    once = rest.once;
  }

  scanned-step : (n : ℕ) (statement : Statement) (next : Labels × ℕ) → SaysLine line statement → at ≤ 4096 → AreGivenOnce labels → noted n labels at statement ≡ Ok next → Behind next → Scanned labels at (line ∷ lines) final
  unfolding noted count
  scanned-step n Silent next said fits once h behind =
      scanned-silent said (subst Behind (sym (ok_is (labels, at) next h)) behind fits once)
  scanned-step n (Marks name) next said fits once h behind =
      let e = marked-ok n labels at name next h in
      scanned-marks name said (subst Behind (sym e.1) behind fits (given_once-push labels name at once e.0))
  scanned-step n (Plain given) next said fits once h behind =
      let e = counted-ok n labels at next h in
      let rest = subst Behind (sym e.1) behind (omega arith) once in
      let few : at + (1 + count rest.statements) ≤ 4096 = omega (arith, rest.few) in
      record { statements = Plain given ∷ rest.statements; says = (said, rest.says); made = rest.made; few = few; once = rest.once }
  scanned-step n (Jumps code to) next said fits once h behind =
      let e = counted-ok n labels at next h in
      let rest = subst Behind (sym e.1) behind (omega arith) once in
      let few : at + (1 + count rest.statements) ≤ 4096 = omega (arith, rest.few) in
      record { statements = Jumps code to ∷ rest.statements; says = (said, rest.says); made = rest.made; few = few; once = rest.once }
  scanned-step n (Branches code k jt jf) next said fits once h behind =
      let e = counted-ok n labels at next h in
      let rest = subst Behind (sym e.1) behind (omega arith) once in
      let few : at + (1 + count rest.statements) ≤ 4096 = omega (arith, rest.few) in
      record { statements = Branches code k jt jf ∷ rest.statements; says = (said, rest.says); made = rest.made; few = few; once = rest.once }

scanned : (n : ℕ) (labels : Labels) (at : ℕ) (lines : List (List ℕ)) (final : Labels) → at ≤ 4096 → AreGivenOnce labels → labelled n labels at lines ≡ Ok final → Scanned labels at lines final
unfolding labelled count
scanned n labels at [] final fits once h =
    let same = ok_is labels final h in
    record { statements = []; says = tt; made = sym same ∙ sym (append-nil labels); few = omega arith; once = subst AreGivenOnce same once }
scanned n labels at (line ∷ lines) final fits once h =
    let c = bind_ok (checked n line) (λ statement. noted n labels at statement >>= λ next. labelled (n + 1) next.0 next.1 lines) final h in
    let e = bind_ok (noted n labels at c.0) (λ next. labelled (n + 1) next.0 next.1 lines) final c.2 in
    scanned-step labels at line lines final n c.0 e.0 (checked-ok n line c.0 c.1) fits once e.1 (λ f o. scanned (n + 1) e.0.0 e.0.1 lines final f o e.2)

-- ---- the second pass

module _ (labels : Labels) (n at : ℕ) (statements : List Statement) (rest insns : List Insn) where
  abbrev Step : Statement → Option Insn → Type 0
  Step statement given = in_front given rest ≡ insns → StandFor labels (at + option_len given) statements rest → StandFor labels at (statement ∷ statements) insns

  silent-stands : rest ≡ insns → StandFor labels (at + 0) statements rest → StandFor labels at statements insns
  silent-stands e stand =
      let same : at + 0 ≡ at = omega arith in
      subst (λ l. StandFor labels at statements l) e (subst (λ a. StandFor labels a statements rest) same stand)

  stands-step : (statement : Statement) (given : Option Insn) → resolved labels n at statement ≡ Ok given → Step statement given
  unfolding resolved
  stands-step Silent given h = subst (Step Silent) (ok_is None given h) silent-stands
  stands-step (Marks name) given h = subst (Step (Marks name)) (ok_is None given h) silent-stands
  stands-step (Plain said) given h =
      subst (Step (Plain said)) (ok_is (Some said) given h) (λ e stand. subst (λ l. StandFor labels at (Plain said ∷ statements) l) e (refl, stand))
  stands-step (Jumps code to) given h =
      let d = bind_ok (distance labels n at (2 ^ 32 - 1) to) (λ k. Ok (Some (insn code 0 0 k))) given h in
      subst (Step (Jumps code to)) (ok_is (Some (insn code 0 0 d.0)) given d.2)
      (λ e stand. subst (λ l. StandFor labels at (Jumps code to ∷ statements) l) e ((d.0, distance-ok labels n at (2 ^ 32 - 1) d.0 to d.1, refl), stand))
  stands-step (Branches code k jt jf) given h =
      let t = bind_ok (distance labels n at 255 jt) (λ t. distance labels n at 255 jf >>= λ f. Ok (Some (insn code t f k))) given h in
      let f = bind_ok (distance labels n at 255 jf) (λ f. Ok (Some (insn code t.0 f k))) given t.2 in
      subst (Step (Branches code k jt jf)) (ok_is (Some (insn code t.0 f.0 k)) given f.2)
      (λ e stand. subst (λ l. StandFor labels at (Branches code k jt jf ∷ statements) l) e ((t.0, (f.0, distance-ok labels n at 255 t.0 jt t.1, distance-ok labels n at 255 f.0 jf f.1, refl)), stand))

stands : (labels : Labels) (n at : ℕ) (lines : List (List ℕ)) (statements : List Statement) (insns : List Insn) → Says lines statements → emitted labels n at lines ≡ Ok insns → StandFor labels at statements insns
unfolding emitted
stands labels n at [] [] insns says h = subst (λ l. StandFor labels at [] l) (ok_is [] insns h) tt
stands labels n at [] (statement ∷ statements) insns says h = absurd says
stands labels n at (line ∷ lines) [] insns says h = absurd says
stands labels n at (line ∷ lines) (statement ∷ statements) insns says h =
    let c = checked-says n line statement says.0 in
    let e = rw c at h in
    let r = bind_ok (resolved labels n at statement) (λ given. emitted labels (n + 1) (at + option_len given) lines >>= λ rest. Ok (in_front given rest)) insns e in
    let m = bind_ok (emitted labels (n + 1) (at + option_len r.0) lines) (λ rest. Ok (in_front r.0 rest)) insns r.2 in
    stands-step labels n at statements m.0 insns statement r.0 r.1 (ok_is (in_front r.0 m.0) insns m.2) (stands labels (n + 1) (at + option_len r.0) lines statements m.0 says.1 m.1)

length-stands : (labels : Labels) (at : ℕ) (statements : List Statement) (insns : List Insn) → StandFor labels at statements insns → length insns ≡ count statements
unfolding count
length-stands labels at [] [] h = refl
length-stands labels at [] (i ∷ insns) h = absurd h
length-stands labels at (Silent ∷ statements) insns h = length-stands labels at statements insns h
length-stands labels at (Marks name ∷ statements) insns h = length-stands labels at statements insns h
length-stands labels at (Plain said ∷ statements) [] h = absurd h
length-stands labels at (Plain said ∷ statements) (i ∷ insns) h = let e = length-stands labels (at + 1) statements insns h.1 in omega (arith, e)
length-stands labels at (Jumps code to ∷ statements) [] h = absurd h
length-stands labels at (Jumps code to ∷ statements) (i ∷ insns) h = let e = length-stands labels (at + 1) statements insns h.1 in omega (arith, e)
length-stands labels at (Branches code k jt jf ∷ statements) [] h = absurd h
length-stands labels at (Branches code k jt jf ∷ statements) (i ∷ insns) h = let e = length-stands labels (at + 1) statements insns h.1 in omega (arith, e)

-- ---- the way back

module _ (n : ℕ) (labels : Labels) (at : ℕ) (line : List ℕ) (lines : List (List ℕ)) (statement : Statement) (said : SaysLine line statement) where
  labelled-says : (next : Labels × ℕ) (final : Labels) → noted n labels at statement ≡ Ok next → labelled (n + 1) next.0 next.1 lines ≡ Ok final → labelled n labels at (line ∷ lines) ≡ Ok final
  unfolding labelled
  labelled-says next final h rest = let c = checked-says n line statement said in rw (c, h) rest

  emitted-says : (given : Option Insn) (rest : List Insn) → resolved labels n at statement ≡ Ok given → emitted labels (n + 1) (at + option_len given) lines ≡ Ok rest → emitted labels n at (line ∷ lines) ≡ Ok (in_front given rest)
  unfolding emitted
  emitted-says given rest h e = let c = checked-says n line statement said in rw (c, h, e) refl

counted-is : (n : ℕ) (labels : Labels) (at : ℕ) → at < 4096 → counted n labels at ≡ Ok (labels, at + 1)
counted-is n labels at h = let t = lt-ltb at 4096 h in rw t refl

marked-is : (n : ℕ) (labels : Labels) (at : ℕ) (name : List ℕ) → label_place labels name ≡ None → marked n labels at name ≡ Ok (labels ++ (name, at) ∷ [], at)
marked-is n labels at name h = rw h refl

labels-found : (n : ℕ) (labels : Labels) (at : ℕ) (lines : List (List ℕ)) (statements : List Statement) → Says lines statements → AreGivenOnce (labels ++ labels_from at statements) → at + count statements ≤ 4096
    → labelled n labels at lines ≡ Ok (labels ++ labels_from at statements)
unfolding labelled count noted
labels-found n labels at [] [] says once few = ap Ok (sym (append-nil labels))
labels-found n labels at [] (statement ∷ statements) says once few = absurd says
labels-found n labels at (line ∷ lines) [] says once few = absurd says
labels-found n labels at (line ∷ lines) (Silent ∷ statements) says once few =
    labelled-says n labels at line lines Silent says.0 (labels, at) _ refl (labels-found (n + 1) labels at lines statements says.1 once few)
labels-found n labels at (line ∷ lines) (Marks name ∷ statements) says once few =
    let absent = given_once-absent labels (labels_from at statements) name at once in
    let same = append_assoc labels ((name, at) ∷ []) (labels_from at statements) in
    labelled-says n labels at line lines (Marks name) says.0 (labels ++ (name, at) ∷ [], at) _ (marked-is n labels at name absent)
    (labels-found (n + 1) (labels ++ (name, at) ∷ []) at lines statements says.1 (subst AreGivenOnce (sym same) once) few ∙ ap Ok same)
labels-found n labels at (line ∷ lines) (Plain given ∷ statements) says once few =
    labelled-says n labels at line lines (Plain given) says.0 (labels, at + 1) _ (counted-is n labels at (omega arith)) (labels-found (n + 1) labels (at + 1) lines statements says.1 once (omega arith))
labels-found n labels at (line ∷ lines) (Jumps code to ∷ statements) says once few =
    labelled-says n labels at line lines (Jumps code to) says.0 (labels, at + 1) _ (counted-is n labels at (omega arith)) (labels-found (n + 1) labels (at + 1) lines statements says.1 once (omega arith))
labels-found n labels at (line ∷ lines) (Branches code k jt jf ∷ statements) says once few =
    labelled-says n labels at line lines (Branches code k jt jf) says.0 (labels, at + 1) _ (counted-is n labels at (omega arith)) (labels-found (n + 1) labels (at + 1) lines statements says.1 once (omega arith))

jump-is : (labels : Labels) (n at code : ℕ) (to : Destination) (given : Insn) → IsJump labels at code to given → resolved labels n at (Jumps code to) ≡ Ok (Some given)
unfolding resolved
jump-is labels n at code to given h =
    let d = distance-is labels n at (2 ^ 32 - 1) h.0 to h.1 in
    let e = h.2 in
    rw d (ap (λ i. Ok (Some i)) (sym e))

branch-is : (labels : Labels) (n at code k : ℕ) (jt jf : Destination) (given : Insn) → IsBranch labels at code k jt jf given → resolved labels n at (Branches code k jt jf) ≡ Ok (Some given)
unfolding resolved
branch-is labels n at code k jt jf given h =
    let t = distance-is labels n at 255 h.0 jt h.1.1 in
    let f = distance-is labels n at 255 h.1.0 jf h.1.2 in
    let e = h.1.3 in
    rw t (rw f (ap (λ i. Ok (Some i)) (sym e)))

emits : (labels : Labels) (n at : ℕ) (lines : List (List ℕ)) (statements : List Statement) (insns : List Insn) → Says lines statements → StandFor labels at statements insns → emitted labels n at lines ≡ Ok insns
unfolding emitted resolved
emits labels n at [] [] [] says h = refl
emits labels n at [] [] (i ∷ insns) says h = absurd h
emits labels n at [] (statement ∷ statements) insns says h = absurd says
emits labels n at (line ∷ lines) [] insns says h = absurd says
emits labels n at (line ∷ lines) (Silent ∷ statements) insns says h =
    let none : at + 0 ≡ at = omega arith in
    emitted-says n labels at line lines Silent says.0 None insns refl (rw none (emits labels (n + 1) at lines statements insns says.1 h))
emits labels n at (line ∷ lines) (Marks name ∷ statements) insns says h =
    let none : at + 0 ≡ at = omega arith in
    emitted-says n labels at line lines (Marks name) says.0 None insns refl (rw none (emits labels (n + 1) at lines statements insns says.1 h))
emits labels n at (line ∷ lines) (Plain said ∷ statements) [] says h = absurd h
emits labels n at (line ∷ lines) (Plain said ∷ statements) (i ∷ insns) says h =
    emitted-says n labels at line lines (Plain said) says.0 (Some i) insns (ap (λ j. Ok (Some j)) (sym h.0)) (emits labels (n + 1) (at + 1) lines statements insns says.1 h.1)
emits labels n at (line ∷ lines) (Jumps code to ∷ statements) [] says h = absurd h
emits labels n at (line ∷ lines) (Jumps code to ∷ statements) (i ∷ insns) says h =
    emitted-says n labels at line lines (Jumps code to) says.0 (Some i) insns (jump-is labels n at code to i h.0) (emits labels (n + 1) (at + 1) lines statements insns says.1 h.1)
emits labels n at (line ∷ lines) (Branches code k jt jf ∷ statements) [] says h = absurd h
emits labels n at (line ∷ lines) (Branches code k jt jf ∷ statements) (i ∷ insns) says h =
    emitted-says n labels at line lines (Branches code k jt jf) says.0 (Some i) insns (branch-is labels n at code k jt jf i h.0) (emits labels (n + 1) (at + 1) lines statements insns says.1 h.1)

-- ---- both

-- what the passes find is what the lines stand for
pub assembled_lines-stands : (n : ℕ) (lines : List (List ℕ)) (insns : List Insn) → assembled_lines n lines ≡ Ok insns → Assembles lines insns
unfolding assembled_lines
assembled_lines-stands n lines insns h =
    let l = bind_ok (labelled n [] 0 lines) (λ labels. emitted labels n 0 lines) insns h in
    let s = scanned n [] 0 lines l.0 (omega arith) (given_once-none ℕ) l.1 in
    let e = subst (λ labels. emitted labels n 0 lines ≡ Ok insns) s.made l.2 in
    let stand = stands (labels_from 0 s.statements) n 0 lines s.statements insns s.says e in (
      s.statements,
      record {
        says = s.says;
        once = subst AreGivenOnce s.made s.once;
        few = omega (arith, s.few, length-stands (labels_from 0 s.statements) 0 s.statements insns stand);
        stand = stand;
      },
    )

-- and nothing else is
pub assembled_lines-only : (n : ℕ) (lines : List (List ℕ)) (insns : List Insn) → Assembles lines insns → assembled_lines n lines ≡ Ok insns
unfolding assembled_lines
assembled_lines-only n lines insns h =
    let a = h.1 in
    let few : 0 + count h.0 ≤ 4096 = omega (arith, a.few, length-stands (labels_from 0 h.0) 0 h.0 insns a.stand) in
    let l = labels-found n [] 0 lines h.0 a.says a.once few in
    rw l (emits (labels_from 0 h.0) n 0 lines h.0 insns a.says a.stand)
