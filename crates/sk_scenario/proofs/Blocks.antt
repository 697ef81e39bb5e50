-- What a block gives when it is read is what it stands for.
use Rattle.std.proofs.Common.{◌≡◌, ◌≤◌, ◌<◌, ◌+◌, ◌∙◌, ap, arith, refl, sym, subst, ℕ, List, [], ◌∷◌, ◌++◌, Option, Some, None, Result, Ok, Err, Bool, true, false, IsTrue, length, inl, inr, append-nil, append_assoc, length-append, lt-ltb, le-ltb, filter_map, codes, replicate}
use Rattle.std.proofs.lemmas.Slice.Eq.{bytes_eq-Decides}
use Rattle.sk_scenario.proofs.Common.{cases_Bool, cases_lt, list_all, concat, option_map_or, bytes_eq, words_of, begins_comment, is_printable_byte, image_of, Insn, AsmFault, Statement, label_of, instruction_said, spoken, statement_of, assembled_lines, ScriptCall, TextFault, Unresolved, begins_bytes, bytes_of, Asked, asked_of, Script, Names, Says, Each, AreBytes, AreCode, IsImage, call_of, AreCalls, IsScript, ◌>>=◌, plain, understood, checked, Gained, Open, Undecided, Bytes, Code, Calls, limited, coded, decided, resolved, called, inside, finished, with_filter, with_program, with_call}
use Rattle.sk_asm.specs.Assembly.{AssemblesBy}
use Rattle.sk_asm.specs.Grammar.{Silent as Quiet}
use Rattle.sk_asm.proofs.Meaning.{assembled_lines-stands, assembled_lines-only}
use Rattle.sk_scenario.specs.Grammar.{bytes_in}
use Rattle.sk_scenario.proofs.Steps.{ok_is, bind_ok, plain-ok, plain-is, understood-ok, checked-ok, checked-says, limited-ok, filling}
use Rattle.sk_asm.specs.declared.fault.AsmFault.TheVariants as asm

some_is : {X : Type 0} (x y : X) → ◌≡◌ {A = Option X} (Some x) (Some y) → x ≡ y
some_is x y h = cc

pub filled_is : (m : ℕ) (block : Open) (next : ℕ × Open) → ◌≡◌ {A = Result (ℕ × Open) TextFault} (Ok (m, block)) (Ok next) → next.1 ≡ block
filled_is m block next h = let e = ok_is (m, block) next h in cc

-- ---- a block of bytes

pub limited-is : (n : ℕ) (image : List ℕ) → length image ≤ 32776 → limited n image ≡ Ok (Bytes image)
limited-is n image h = let f = le-ltb 32776 (length image) h in rw f refl

-- the block that was filled, with the pieces of its lines
record BytesFilled (image : List ℕ) (body : List (List ℕ)) (next : ℕ × Open) : Type 0 where
  pieces : List (List ℕ)
  says : Each (Says bytes_of) body pieces
  made : next.1 ≡ Bytes (image ++ concat pieces)
  few : length (image ++ concat pieces) ≤ 32776

bytes_filled : (known : Option Names) (n : ℕ) (image : List ℕ) (body : List (List ℕ)) (next : ℕ × Open) → length image ≤ 32776 → filling known n (Bytes image) body ≡ Ok next → BytesFilled image body next
unfolding filling inside
bytes_filled known n image [] next few h =
    let same = append-nil image in
    record { pieces = []; says = tt; made = rw same (filled_is n (Bytes image) next h); few = rw same few }
bytes_filled known n image (line ∷ body) next few h =
    let i = bind_ok (inside known n (Bytes image) line (line ∷ body)) (λ other. filling known (n + 1) other body) next h in
    let c = bind_ok (checked bytes_of n line) (λ bytes. limited n (image ++ bytes)) i.0 i.1 in
    let l = limited-ok n (image ++ c.0) i.0 c.2 in
    let rest = bytes_filled known (n + 1) (image ++ c.0) body next l.0 (subst (λ other. filling known (n + 1) other body ≡ Ok next) l.1 i.2) in
    let same = append_assoc image c.0 (concat rest.pieces) in
    record { pieces = c.0 ∷ rest.pieces; says = (checked-ok bytes_of n line c.0 c.1, rest.says); made = rest.made ∙ ap Bytes same; few = subst (λ l. length l ≤ 32776) same rest.few }

bytes_fills : (known : Option Names) (n : ℕ) (image : List ℕ) (body pieces : List (List ℕ)) → Each (Says bytes_of) body pieces → length (image ++ concat pieces) ≤ 32776
    → (m : ℕ) × (filling known n (Bytes image) body ≡ Ok (m, Bytes (image ++ concat pieces)))
unfolding filling inside
bytes_fills known n image [] [] says few = let same = append-nil image in (n, rw same refl)
bytes_fills known n image [] (piece ∷ pieces) says few = absurd says
bytes_fills known n image (line ∷ body) [] says few = absurd says
bytes_fills known n image (line ∷ body) (piece ∷ pieces) says few =
    let c = checked-says bytes_of n line piece says.0 in
    let same = append_assoc image piece (concat pieces) in
    let more : length ((image ++ piece) ++ concat pieces) ≤ 32776 = subst (λ l. length l ≤ 32776) (sym same) few in
    let short : length (image ++ piece) ≤ 32776 = omega (arith, more, length-append (image ++ piece) (concat pieces)) in
    let l = limited-is n (image ++ piece) short in
    let rest = bytes_fills known (n + 1) (image ++ piece) body pieces says.1 more in
    let e = rest.1 in
    (rest.0, rw (c, l) (e ∙ ap (λ i. Ok (rest.0, Bytes i)) same))

-- ---- a block of code

code_filled : (known : Option Names) (n : ℕ) (image : List ℕ) (body : List (List ℕ)) → (m : ℕ) × (filling known n (Code image) body ≡ Ok (m, Code image))
unfolding filling inside
code_filled known n image [] = (n, refl)
code_filled known n image (line ∷ body) = code_filled known (n + 1) image body

coded-ok : (names : Names) (r : Result (List Insn) AsmFault) (next : Open) → coded (Some names) r ≡ Ok next → (insns : List Insn) × (r ≡ Ok insns) × (next ≡ Code (image_of insns))
unfolding coded
coded-ok names (Ok insns) next h = (insns, refl, sym (ok_is (Code (image_of insns)) next h))
coded-ok names (Err (asm.Label m)) next h = cc
coded-ok names (Err (asm.TooLong m)) next h = cc
coded-ok names (Err (asm.Line m)) next h = cc
coded-ok names (Err (asm.Twice m)) next h = cc
coded-ok names (Err (asm.Far m)) next h = cc
coded-ok names (Err (asm.Back m)) next h = cc
coded-ok names (Err asm.Memory) next h = cc

coded-is : (known : Option Names) (insns : List Insn) → coded known (Ok insns) ≡ Ok (Code (image_of insns))
unfolding coded
coded-is None insns = refl
coded-is (Some names) insns = refl

-- ---- lines that say nothing, and what is both

bytes_of_comment : (line : List ℕ) → begins_comment (words_of line) ≡ true → bytes_of line ≡ Some []
unfolding bytes_of
bytes_of_comment line h = rw h refl

statement_of_comment : (line : List ℕ) → begins_comment (words_of line) ≡ true → statement_of line ≡ Some Quiet
unfolding statement_of
statement_of_comment line h = rw h refl

bytes_in_other : (words : List (List ℕ)) (piece : List ℕ) → bytes_in words ≡ Some piece → begins_bytes words ≡ true
bytes_in_other [] piece h = cc
bytes_in_other (first ∷ words) piece h = elim (cases_Bool (bytes_eq first (codes "bytes"))) [
  | inl t ↦ t
  | inr g ↦ let bad = rw g at h in cc
]

bytes_of_other : (line piece : List ℕ) → begins_comment (words_of line) ≡ false → bytes_of line ≡ Some piece → begins_bytes (words_of line) ≡ true
unfolding bytes_of
bytes_of_other line piece f h = bytes_in_other (words_of line) piece (rw f at h)

spoken_bytes : (words : List (List ℕ)) (statement : Statement) → begins_bytes words ≡ true → spoken words ≡ Some statement → ⊥
unfolding spoken label_of instruction_said
spoken_bytes [] statement b h = cc
spoken_bytes (first ∷ words) statement b h =
    let same = (bytes_eq-Decides first (codes "bytes")).0 b in
    let e = subst (λ word. spoken (word ∷ words) ≡ Some statement) same h in
    cc

statement_of_bytes : (line : List ℕ) (statement : Statement) → begins_comment (words_of line) ≡ false → statement_of line ≡ Some statement → begins_bytes (words_of line) ≡ false
unfolding statement_of
statement_of_bytes line statement f h =
    let e = rw f at h in
    elim (cases_Bool (begins_bytes (words_of line))) [
      | inl t ↦ absurd (spoken_bytes (words_of line) statement t e)
      | inr g ↦ g
    ]

-- ---- a filter's block

-- lines behind one that says nothing
quiet_bytes : (line : List ℕ) (body : List (List ℕ)) (image : List ℕ) → length line ≤ 255 → IsTrue (list_all is_printable_byte line) → begins_comment (words_of line) ≡ true → AreBytes body image → AreBytes (line ∷ body) image
quiet_bytes line body image short printable t h = record {
  pieces = [] ∷ h.pieces;
  says = (record { short = short; printable = printable; understood = bytes_of_comment line t }, h.says);
  joined = h.joined;
  few = h.few;
}

quiet_code : (line : List ℕ) (body : List (List ℕ)) (image : List ℕ) → length line ≤ 255 → IsTrue (list_all is_printable_byte line) → begins_comment (words_of line) ≡ true → AreCode body image → AreCode (line ∷ body) image
quiet_code line body image short printable t h =
    let a = h.assembles.1 in
    record {
      insns = h.insns;
      assembles = (
        Quiet ∷ h.assembles.0,
        record { says = (record { short = short; printable = printable; understood = statement_of_comment line t }, a.says); once = a.once; few = a.few; stand = a.stand },
      );
      written = h.written;
    }

-- what a filter's block gives: its image, however it was read
abbrev Makes : ℕ × Open → List ℕ → Type 0
Makes next image = (d : Gained) → finished d next.1 ≡ with_filter d image

makes_of : (next : ℕ × Open) (block : Open) (image : List ℕ) → next.1 ≡ block → ((d : Gained) → finished d block ≡ with_filter d image) → Makes next image
makes_of next block image e h d = ap (finished d) e ∙ h d

abbrev FilledImage : List (List ℕ) → ℕ × Open → Type 0
FilledImage body next = (image : List ℕ) × IsImage body image × Makes next image

module _ (names : Names) (n : ℕ) (line : List ℕ) (body : List (List ℕ)) (next : ℕ × Open) (short : length line ≤ 255) (printable : IsTrue (list_all is_printable_byte line))
    (more : filling (Some names) (n + 1) Undecided body ≡ Ok next → FilledImage body next) where
  image_step : (start : Open) → decided (Some names) n line (line ∷ body) ≡ Ok start → filling (Some names) (n + 1) start body ≡ Ok next → FilledImage (line ∷ body) next
  unfolding decided
  image_step start h after = elim (cases_Bool (begins_comment (words_of line))) [
    | inl t ↦
        let e = ok_is Undecided start (rw t at h) in
        let rest = more (subst (λ other. filling (Some names) (n + 1) other body ≡ Ok next) (sym e) after) in
        let image : IsImage (line ∷ body) rest.0 = elim (rest.1) [
          | inl b ↦ inl (quiet_bytes line body rest.0 short printable t b)
          | inr c ↦ inr (quiet_code line body rest.0 short printable t c)
        ] in
        (rest.0, image, rest.2)
    | inr f ↦
        let other = rw f at h in
        elim (cases_Bool (begins_bytes (words_of line))) [
          | inl b ↦
              let g = rw b at other in
              let u = bind_ok (understood n (bytes_of line)) (λ bytes. limited n bytes) start g in
              let l = limited-ok n u.0 start u.2 in
              let rest = bytes_filled (Some names) (n + 1) u.0 body next l.0 (subst (λ other. filling (Some names) (n + 1) other body ≡ Ok next) l.1 after) in
              let said : Says bytes_of line u.0 = record { short = short; printable = printable; understood = understood-ok n (bytes_of line) u.0 u.1 } in (
                u.0 ++ concat rest.pieces,
                inl (record { pieces = u.0 ∷ rest.pieces; says = (said, rest.says); joined = refl; few = rest.few }),
                makes_of next (Bytes (u.0 ++ concat rest.pieces)) (u.0 ++ concat rest.pieces) rest.made (λ d. refl),
              )
          | inr c ↦
              let g = rw c at other in
              let a = coded-ok names (assembled_lines n (line ∷ body)) start g in
              let rest = code_filled (Some names) (n + 1) (image_of a.0) body in
              let e = filled_is rest.0 (Code (image_of a.0)) next (sym rest.1 ∙ subst (λ other. filling (Some names) (n + 1) other body ≡ Ok next) a.2 after) in (
                image_of a.0,
                inr (record { insns = a.0; assembles = assembled_lines-stands n (line ∷ body) a.0 a.1; written = refl }),
                makes_of next (Code (image_of a.0)) (image_of a.0) e (λ d. refl),
              )
        ]
  ]

pub image_filled : (names : Names) (n : ℕ) (body : List (List ℕ)) (next : ℕ × Open) → filling (Some names) n Undecided body ≡ Ok next
    → (image : List ℕ) × IsImage body image × ((d : Gained) → finished d next.1 ≡ with_filter d image)
unfolding filling inside
image_filled names n [] next h =
    ([], inl (record { pieces = []; says = tt; joined = refl; few = omega arith }), makes_of next Undecided [] (filled_is n Undecided next h) (λ d. refl))
image_filled names n (line ∷ body) next h =
    let i = bind_ok (inside (Some names) n Undecided line (line ∷ body)) (λ other. filling (Some names) (n + 1) other body) next h in
    let p = bind_ok (plain n line) (λ good. decided (Some names) n line (line ∷ body)) i.0 i.1 in
    let good = plain-ok n line p.0 p.1 in
    image_step names n line body next good.0 good.1 (λ e. image_filled names (n + 1) body next e) i.0 p.2 i.2

-- and the way back
abbrev Fills : Option Names → ℕ → List (List ℕ) → List ℕ → Type 0
Fills known n body image = (next : ℕ × Open) × (filling known n Undecided body ≡ Ok next) × Makes next image

module _ (known : Option Names) (n : ℕ) (line : List ℕ) (body : List (List ℕ)) (image : List ℕ) (short : length line ≤ 255) (printable : IsTrue (list_all is_printable_byte line)) where
  fills_quiet : begins_comment (words_of line) ≡ true → Fills known (n + 1) body image → Fills known n (line ∷ body) image
  unfolding filling inside decided
  fills_quiet t h =
      let p = plain-is n line short printable in
      let e = h.1 in
      (h.0, rw (p, t) e, h.2)

  fills_code : (insns : List Insn) → begins_comment (words_of line) ≡ false → begins_bytes (words_of line) ≡ false → assembled_lines n (line ∷ body) ≡ Ok insns → image ≡ image_of insns → Fills known n (line ∷ body) image
  unfolding filling inside decided
  fills_code insns f g a e =
      let p = plain-is n line short printable in
      let c = coded-is known insns in
      let rest = code_filled known (n + 1) (image_of insns) body in
      let r = rest.1 in
      ((rest.0, Code (image_of insns)), rw (p, f, g, a, c) r, λ d. ap (with_filter d) (sym e))

  fills_bytes : (piece : List ℕ) (pieces : List (List ℕ)) → begins_comment (words_of line) ≡ false → bytes_of line ≡ Some piece → Each (Says bytes_of) body pieces
      → image ≡ piece ++ concat pieces → length image ≤ 32776 → Fills known n (line ∷ body) image
  unfolding filling inside decided
  fills_bytes piece pieces f said says e few =
      let p = plain-is n line short printable in
      let b = bytes_of_other line piece f said in
      let all : length (piece ++ concat pieces) ≤ 32776 = subst (λ l. length l ≤ 32776) e few in
      let less : length piece ≤ 32776 = omega (arith, all, length-append piece (concat pieces)) in
      let l = limited-is n piece less in
      let rest = bytes_fills known (n + 1) piece body pieces says all in
      let r = rest.1 in
      ((rest.0, Bytes (piece ++ concat pieces)), rw (p, f, b, said, l) r, λ d. ap (with_filter d) (sym e))

bytes_fill : (known : Option Names) (n : ℕ) (body : List (List ℕ)) (image : List ℕ) (pieces : List (List ℕ)) → Each (Says bytes_of) body pieces → image ≡ concat pieces → length image ≤ 32776 → Fills known n body image
unfolding filling
bytes_fill known n [] image [] says e few = ((n, Undecided), refl, λ d. ap (with_filter d) (sym e))
bytes_fill known n [] image (piece ∷ pieces) says e few = absurd says
bytes_fill known n (line ∷ body) image [] says e few = absurd says
bytes_fill known n (line ∷ body) image (piece ∷ pieces) says e few = elim (cases_Bool (begins_comment (words_of line))) [
  | inl t ↦
      let none = some_is piece [] (sym says.0.understood ∙ bytes_of_comment line t) in
      fills_quiet known n line body image says.0.short says.0.printable t
      (bytes_fill known (n + 1) body image pieces says.1 (e ∙ ap (λ l. l ++ concat pieces) none) few)
  | inr f ↦ fills_bytes known n line body image says.0.short says.0.printable piece pieces f says.0.understood says.1 e few
]

code_fill : (known : Option Names) (n : ℕ) (body : List (List ℕ)) (image : List ℕ) (insns : List Insn) (statements : List Statement) → AssemblesBy body insns statements → image ≡ image_of insns → Fills known n body image
unfolding filling
code_fill known n [] image [] [] a e = ((n, Undecided), refl, λ d. ap (with_filter d) (sym e))
code_fill known n [] image (insn ∷ insns) [] a e = absurd a.stand
code_fill known n [] image insns (statement ∷ statements) a e = absurd a.says
code_fill known n (line ∷ body) image insns [] a e = absurd a.says
code_fill known n (line ∷ body) image insns (statement ∷ statements) a e = elim (cases_Bool (begins_comment (words_of line))) [
  | inl t ↦
      let none = some_is statement Quiet (sym a.says.0.understood ∙ statement_of_comment line t) in
      let b = subst (λ other. AssemblesBy (line ∷ body) insns (other ∷ statements)) none a in
      fills_quiet known n line body image a.says.0.short a.says.0.printable t
      (code_fill known (n + 1) body image insns statements (record { says = b.says.1; once = b.once; few = b.few; stand = b.stand }) e)
  | inr f ↦
      fills_code known n line body image a.says.0.short a.says.0.printable insns f (statement_of_bytes line statement f a.says.0.understood)
      (assembled_lines-only n (line ∷ body) insns (statement ∷ statements, a)) e
]

pub image_fills : (known : Option Names) (n : ℕ) (body : List (List ℕ)) (image : List ℕ) → IsImage body image → (next : ℕ × Open) × (filling known n Undecided body ≡ Ok next) × ((d : Gained) → finished d next.1 ≡ with_filter d image)
image_fills known n body image (inl b) = bytes_fill known n body image b.pieces b.says b.joined b.few
image_fills known n body image (inr c) = code_fill known n body image c.insns c.assembles.0 c.assembles.1 c.written

-- ---- a program's block

resolved-ok : (names : Names) (n : ℕ) (asked : Asked) (call : ScriptCall) → resolved (Some names) n asked ≡ Ok call → call_of names asked ≡ Some call
unfolding resolved
resolved-ok names n asked call h = some_or (call_of names asked) h
  where
    some_or : (o : Option ScriptCall) → option_map_or Ok o (Err (Unresolved n)) ≡ Ok call → o ≡ Some call
    some_or None e = cc
    some_or (Some other) e = cc

abbrev after : Script → List ScriptCall → Script
after script calls = record { owner = script.owner; setuid = script.setuid; calls = script.calls ++ calls }

record CallsFilled (names : Names) (script : Script) (body : List (List ℕ)) (next : ℕ × Open) : Type 0 where
  lines : List (Option Asked)
  made : List ScriptCall
  says : Each (Says asked_of) body lines
  calls : Each (λ asked call. call_of names asked ≡ Some call) (filter_map (λ line. line) lines) made
  block : next.1 ≡ Calls (after script made)
  few : length (script.calls ++ made) ≤ 1000

module _ (names : Names) (n : ℕ) (script : Script) (line : List ℕ) (body : List (List ℕ)) (next : ℕ × Open)
    (more : (other : Script) → length other.calls ≤ 1000 → filling (Some names) (n + 1) (Calls other) body ≡ Ok next → CallsFilled names other body next) where
  calls_step : (asked : Option Asked) (then : Script) → Says asked_of line asked → length script.calls ≤ 1000 → called (Some names) n script asked ≡ Ok then
      → filling (Some names) (n + 1) (Calls then) body ≡ Ok next → CallsFilled names script (line ∷ body) next
  unfolding called
  calls_step None then said few h rest =
      let e = ok_is script then h in
      let r = more script few (subst (λ other. filling (Some names) (n + 1) (Calls other) body ≡ Ok next) (sym e) rest) in
      record { lines = None ∷ r.lines; made = r.made; says = (said, r.says); calls = r.calls; block = r.block; few = r.few }
  calls_step (Some asked) then said few h rest = elim (cases_lt (length script.calls) 1000) [
    | inl room ↦
        let t = lt-ltb (length script.calls) 1000 room in
        let g = rw t at h in
        let c = bind_ok (resolved (Some names) n asked) (λ call. Ok (with_call script call)) then g in
        let e = ok_is (with_call script c.0) then c.2 in
        let count = length-append script.calls (c.0 ∷ []) in
        let r = more (with_call script c.0) (omega (arith, count, room)) (subst (λ other. filling (Some names) (n + 1) (Calls other) body ≡ Ok next) (sym e) rest) in
        let same = append_assoc script.calls (c.0 ∷ []) r.made in
        record {
          lines = Some asked ∷ r.lines;
          made = c.0 ∷ r.made;
          says = (said, r.says);
          calls = (resolved-ok names n asked c.0 c.1, r.calls);
          block = r.block ∙ ap (λ calls. Calls (record { owner = script.owner; setuid = script.setuid; calls = calls })) same;
          few = subst (λ calls. length calls ≤ 1000) same r.few;
        }
    | inr full ↦ let f = le-ltb (length script.calls) 1000 full in let g = rw f at h in cc
  ]

calls_filled : (names : Names) (n : ℕ) (script : Script) (body : List (List ℕ)) (next : ℕ × Open) → length script.calls ≤ 1000 → filling (Some names) n (Calls script) body ≡ Ok next → CallsFilled names script body next
unfolding filling inside
calls_filled names n script [] next few h =
    let same = append-nil script.calls in
    record { lines = []; made = []; says = tt; calls = tt; block = filled_is n (Calls script) next h ∙ ap (λ calls. Calls (record { owner = script.owner; setuid = script.setuid; calls = calls })) (sym same); few = rw same few }
calls_filled names n script (line ∷ body) next few h =
    let i = bind_ok (inside (Some names) n (Calls script) line (line ∷ body)) (λ other. filling (Some names) (n + 1) other body) next h in
    let c = bind_ok (checked asked_of n line) (λ asked. called (Some names) n script asked >>= λ then. Ok (Calls then)) i.0 i.1 in
    let s = bind_ok (called (Some names) n script c.0) (λ then. Ok (Calls then)) i.0 c.2 in
    let e = ok_is (Calls s.0) i.0 s.2 in
    calls_step names n script line body next (λ other less r. calls_filled names (n + 1) other body next less r) c.0 s.0 (checked-ok asked_of n line c.0 c.1) few s.1
    (subst (λ other. filling (Some names) (n + 1) other body ≡ Ok next) (sym e) i.2)

pub script_filled : (names : Names) (n owner : ℕ) (setuid : Bool) (body : List (List ℕ)) (next : ℕ × Open) → filling (Some names) n (Calls (record { owner = owner; setuid = setuid; calls = [] })) body ≡ Ok next
    → (script : Script) × IsScript names (record { owner = owner; setuid = setuid; body = body }) script × ((d : Gained) → finished d next.1 ≡ with_program d script)
script_filled names n owner setuid body next h =
    let start : Script = record { owner = owner; setuid = setuid; calls = [] } in
    let r = calls_filled names n start body next (omega arith) h in
    let calls : AreCalls names body r.made = record { lines = r.lines; says = r.says; calls = r.calls; few = r.few } in
    (record { owner = owner; setuid = setuid; calls = r.made }, record { owner = refl; setuid = refl; calls = calls }, λ d. ap (finished d) r.block)

-- and the way back: in a reading that knows no names the script is some other one
resolved-is : (names : Names) (n : ℕ) (asked : Asked) (call : ScriptCall) → call_of names asked ≡ Some call → resolved (Some names) n asked ≡ Ok call
unfolding resolved
resolved-is names n asked call h = rw h refl

calls_fill : (names : Names) (n : ℕ) (script : Script) (body : List (List ℕ)) (lines : List (Option Asked)) (made : List ScriptCall) → Each (Says asked_of) body lines
    → Each (λ asked call. call_of names asked ≡ Some call) (filter_map (λ line. line) lines) made → length (script.calls ++ made) ≤ 1000
    → (m : ℕ) × (filling (Some names) n (Calls script) body ≡ Ok (m, Calls (after script made)))
unfolding filling inside called
calls_fill names n script [] [] [] says calls few = let same = append-nil script.calls in (n, ap (λ calls. Ok (n, Calls (record { owner = script.owner; setuid = script.setuid; calls = calls }))) (sym same))
calls_fill names n script [] [] (call ∷ made) says calls few = absurd calls
calls_fill names n script [] (line ∷ lines) made says calls few = absurd says
calls_fill names n script (line ∷ body) [] made says calls few = absurd says
calls_fill names n script (line ∷ body) (None ∷ lines) made says calls few =
    let c = checked-says asked_of n line None says.0 in
    let rest = calls_fill names (n + 1) script body lines made says.1 calls few in
    (rest.0, rw c rest.1)
calls_fill names n script (line ∷ body) (Some asked ∷ lines) [] says calls few = absurd calls
calls_fill names n script (line ∷ body) (Some asked ∷ lines) (call ∷ made) says calls few =
    let c = checked-says asked_of n line (Some asked) says.0 in
    let same = append_assoc script.calls (call ∷ []) made in
    let room : length script.calls < 1000 = omega (arith, few, length-append script.calls (call ∷ made)) in
    let t = lt-ltb (length script.calls) 1000 room in
    let r = resolved-is names n asked call calls.0 in
    let rest = calls_fill names (n + 1) (with_call script call) body lines made says.1 calls.1 (subst (λ calls. length calls ≤ 1000) (sym same) few) in
    (rest.0, rw (c, t, r) (rest.1 ∙ ap (λ calls. Ok (rest.0, Calls (record { owner = script.owner; setuid = script.setuid; calls = calls }))) same))

-- with no names there is a call in the place of each
abbrev blank : ScriptCall
blank = record { call = record { nr = 0; args = replicate 6 0 }; script = None }

calls_count : (names : Names) (n : ℕ) (script : Script) (body : List (List ℕ)) (lines : List (Option Asked)) (made : List ScriptCall) → Each (Says asked_of) body lines
    → Each (λ asked call. call_of names asked ≡ Some call) (filter_map (λ line. line) lines) made → length script.calls + length made ≤ 1000
    → (m : ℕ) × ((other : Script) × (filling None n (Calls script) body ≡ Ok (m, Calls other)))
unfolding filling inside called resolved
calls_count names n script [] [] made says calls few = (n, (script, refl))
calls_count names n script [] (line ∷ lines) made says calls few = absurd says
calls_count names n script (line ∷ body) [] made says calls few = absurd says
calls_count names n script (line ∷ body) (None ∷ lines) made says calls few =
    let c = checked-says asked_of n line None says.0 in
    let rest = calls_count names (n + 1) script body lines made says.1 calls few in
    (rest.0, (rest.1.0, rw c rest.1.1))
calls_count names n script (line ∷ body) (Some asked ∷ lines) [] says calls few = absurd calls
calls_count names n script (line ∷ body) (Some asked ∷ lines) (call ∷ made) says calls few =
    let c = checked-says asked_of n line (Some asked) says.0 in
    let room : length script.calls < 1000 = omega arith in
    let t = lt-ltb (length script.calls) 1000 room in
    let count = length-append script.calls (blank ∷ []) in
    let rest = calls_count names (n + 1) (with_call script blank) body lines made says.1 calls.1 (omega (arith, count, few)) in
    (rest.0, (rest.1.0, rw (c, t) rest.1.1))

-- a reading with these names, or with none
abbrev pub Knows : Option Names → Names → Type 0
Knows None names = Unit {0}
Knows (Some others) names = others ≡ names

script_is : (script : Script) (owner : ℕ) (setuid : Bool) → script.owner ≡ owner → script.setuid ≡ setuid → ◌≡◌ {A = Script} (record { owner = owner; setuid = setuid; calls = script.calls }) script
script_is script owner setuid o s = rw (← o, ← s) refl

pub script_fills : (known : Option Names) (names : Names) (n owner : ℕ) (setuid : Bool) (body : List (List ℕ)) (script : Script) → Knows known names
    → IsScript names (record { owner = owner; setuid = setuid; body = body }) script
    → (next : ℕ × Open) × (filling known n (Calls (record { owner = owner; setuid = setuid; calls = [] })) body ≡ Ok next)
    × ((other : Script) × ((d : Gained) → finished d next.1 ≡ with_program d other) × (known ≡ Some names → other ≡ script))
script_fills None names n owner setuid body script k h =
    let start : Script = record { owner = owner; setuid = setuid; calls = [] } in
    let few = h.calls.few in
    let r = calls_count names n start body h.calls.lines script.calls h.calls.says h.calls.calls (omega arith) in
    ((r.0, Calls r.1.0), r.1.1, (r.1.0, λ d. refl, λ e. cc))
script_fills (Some others) names n owner setuid body script k h =
    let start : Script = record { owner = owner; setuid = setuid; calls = [] } in
    let r = calls_fill names n start body h.calls.lines script.calls h.calls.says h.calls.calls h.calls.few in
    let e : filling (Some others) n (Calls start) body ≡ Ok (r.0, Calls (after start script.calls)) = rw k r.1 in
    let same : after start script.calls ≡ script = script_is script owner setuid h.owner h.setuid in
    ((r.0, Calls (after start script.calls)), e, (after start script.calls, λ d. refl, λ known_is. same))
