-- The fault that the two passes find is the first fault of the lines, and where they find none there is none.
use Rattle.std.proofs.Common.{◌≡◌, ◌≤◌, ◌<◌, ◌+◌, ◌-◌, ◌^◌, ◌⊎◌, ◌∙◌, ap, arith, refl, sym, subst, ℕ, List, [], ◌∷◌, ◌++◌, Option, Some, None, is_some, Result, Ok, Err, true, false, length, append-nil, append_assoc, inl, inr}
use Rattle.std.specs.Prelude.{◌≢◌, IsTrue, IfErr}
use Rattle.std.proofs.lemmas.Bool.{cases_Bool, cases_lt, lt-ltb, le-ltb, le-leb, lt-leb}
use Rattle.std.proofs.lemmas.List.{length-append}
use Rattle.std.specs.Option.{option_len}
use Rattle.std.specs.List.{list_all}
use Rattle.sk_text.specs.Lines.{lines_of, is_printable_byte}
use Rattle.sk_insn.specs.declared.insn.Insn.{Insn}
use Rattle.sk_asm.specs.declared.fault.AsmFault.{AsmFault}
use Rattle.sk_asm.specs.declared.fault.AsmFault.TheVariants.{Line, Label, Twice, Far, Back, TooLong, Memory}
use Rattle.sk_asm.specs.Assembly.{SaysLine}
use Rattle.sk_asm.specs.Faults.{◌>>=◌, Answers}
use Rattle.sk_asm.specs.Grammar.{Destination, Further, Labelled, Statement, Silent, Marks, Plain, Jumps, Branches, insn, statement_of}
use Rattle.sk_asm.specs.Labels.{Labels, label_place}
use Rattle.sk_asm.specs.LineFaults.{said, size, given_at, destinations, instructions_said, labels_said, HasJumpFault, FirstJumpFault, AtLine, HasJumpFaultAt, HasFault, stage_of, line_of, IsFirstFault, IsFirstTextFault}
use Rattle.sk_asm.specs.Passes.{understood, checked, counted, noted, labelled, landed, distance, resolved, in_front, emitted, assembled_lines, assembled}
use Rattle.sk_asm.proofs.Meaning.{ok_is, bind_ok, checked-ok, checked-says, distance-ok, counted-ok, marked-ok}

-- ---- steps

pub err_is : {X : Type 0} (f g : AsmFault) → ◌≡◌ {A = Result X AsmFault} (Err f) (Err g) → f ≡ g
err_is f g h = cc

bind_err : {X Y : Type 0} (first : Result X AsmFault) (next : X → Result Y AsmFault) (f : AsmFault) → (first >>= next) ≡ Err f
    → (first ≡ Err f) ⊎ ((x : X) × (first ≡ Ok x) × (next x ≡ Err f))
bind_err (Ok x) next f h = inr (x, refl, h)
bind_err (Err g) next f h = let e : g ≡ f = cc in inl (ap Err e)

-- ---- one line

said-says : (line : List ℕ) (s : Statement) → SaysLine line s → said line ≡ Some s
unfolding said
said-says line s h =
    let f = le-ltb 255 (length line) h.short in
    let t = h.printable in
    let e = h.understood in
    rw (f, t, e) refl

understood-err : (n : ℕ) (o : Option Statement) (f : AsmFault) → understood n o ≡ Err f → (f ≡ Line n) × (o ≡ None)
understood-err n None f h = (sym (err_is (Line n) f h), refl)
understood-err n (Some s) f h = cc

checked-err : (n : ℕ) (line : List ℕ) (f : AsmFault) → checked n line ≡ Err f
    → ((f ≡ TooLong n) × (255 < length line)) ⊎ ((f ≡ Line n) × (length line ≤ 255) × (said line ≡ None))
unfolding checked said
checked-err n line f h = elim (cases_lt 255 (length line)) [
  | inl long ↦ let t = lt-ltb 255 (length line) long in inl (sym (err_is (TooLong n) f (rw t at h)), long)
  | inr short ↦
      let b = le-ltb 255 (length line) short in
      let e = rw b at h in
      elim (cases_Bool (list_all is_printable_byte line)) [
        | inl t ↦ let u = understood-err n (statement_of line) f (rw t at e) in inr (u.0, short, rw (b, t) u.1)
        | inr bad ↦ inr (sym (err_is (Line n) f (rw bad at e)), short, rw (b, bad) refl)
      ]
]

counted-err : (n : ℕ) (labels : Labels) (at : ℕ) (f : AsmFault) → counted n labels at ≡ Err f → (f ≡ TooLong n) × (4096 ≤ at)
counted-err n labels at f h = elim (cases_lt at 4096) [
  | inl below ↦ let t = lt-ltb at 4096 below in let e = rw t at h in cc
  | inr full ↦ let b = le-ltb at 4096 full in (sym (err_is (TooLong n) f (rw b at h)), full)
]

-- a statement that the first pass refuses
abbrev Unnoted : ℕ → Labels → ℕ → Statement → AsmFault → Type 0
Unnoted n labels at s f =
    ((f ≡ TooLong n) × (size (Some s) ≡ 1) × (4096 ≤ at))
    ⊎ ((f ≡ Twice n) × ((name : List ℕ) × (s ≡ Marks name) × IsTrue (is_some (label_place labels name))))

noted-err : (n : ℕ) (labels : Labels) (at : ℕ) (s : Statement) (f : AsmFault) → noted n labels at s ≡ Err f → Unnoted n labels at s f
unfolding noted
noted-err n labels at Silent f h = cc
noted-err n labels at (Marks name) f h = elim (cases_Bool (is_some (label_place labels name))) [
  | inl t ↦ inr (sym (err_is (Twice n) f (rw t at h)), (name, refl, t))
  | inr b ↦ let e = rw b at h in cc
]
noted-err n labels at (Plain given) f h = let e = counted-err n labels at f h in inl (e.0, refl, e.1)
noted-err n labels at (Jumps code to) f h = let e = counted-err n labels at f h in inl (e.0, refl, e.1)
noted-err n labels at (Branches code k jt jf) f h = let e = counted-err n labels at f h in inl (e.0, refl, e.1)

-- the labels and the count after a line
noted-ok : (n : ℕ) (labels : Labels) (at : ℕ) (s : Statement) (next : Labels × ℕ) → noted n labels at s ≡ Ok next
    → (labels ++ given_at at (Some s), at + size (Some s)) ≡ next
unfolding noted
noted-ok n labels at Silent next h =
    let none : at + 0 ≡ at = omega arith in
    rw (append-nil labels, none) (ok_is (labels, at) next h)
noted-ok n labels at (Marks name) next h =
    let none : at + 0 ≡ at = omega arith in
    rw none (marked-ok n labels at name next h).1
noted-ok n labels at (Plain given) next h = rw (append-nil labels) (counted-ok n labels at next h).1
noted-ok n labels at (Jumps code to) next h = rw (append-nil labels) (counted-ok n labels at next h).1
noted-ok n labels at (Branches code k jt jf) next h = rw (append-nil labels) (counted-ok n labels at next h).1

-- what was taken has no such fault
noted-room : (n : ℕ) (labels : Labels) (at : ℕ) (s : Statement) (next : Labels × ℕ) → noted n labels at s ≡ Ok next → size (Some s) ≡ 1 → at < 4096
unfolding noted
noted-room n labels at Silent next h one = absurd (omega arith)
noted-room n labels at (Marks name) next h one = absurd (omega arith)
noted-room n labels at (Plain given) next h one = (counted-ok n labels at next h).0
noted-room n labels at (Jumps code to) next h one = (counted-ok n labels at next h).0
noted-room n labels at (Branches code k jt jf) next h one = (counted-ok n labels at next h).0

noted-new : (n : ℕ) (labels : Labels) (at : ℕ) (name : List ℕ) (next : Labels × ℕ) → noted n labels at (Marks name) ≡ Ok next → label_place labels name ≡ None
unfolding noted
noted-new n labels at name next h = (marked-ok n labels at name next h).0

-- ---- jumps

landed-err : (labels : Labels) (name : List ℕ) (n at most : ℕ) (o : Option ℕ) (f : AsmFault) → label_place labels name ≡ o → landed n at most o ≡ Err f
    → HasJumpFault labels n at most (Labelled name) f
landed-err labels name n at most None f p h =
    subst (HasJumpFault labels n at most (Labelled name)) (err_is (Label n) f h) (refl, p)
landed-err labels name n at most (Some place) f p h = elim (cases_lt at place) [
  | inr back ↦
      let t = le-leb place at back in
      subst (HasJumpFault labels n at most (Labelled name)) (err_is (Back n) f (rw t at h)) (refl, (place, p, back))
  | inl ahead ↦
      let b = lt-leb place at ahead in
      let e = rw b at h in
      elim (cases_lt most (place - at - 1)) [
        | inl far ↦
            let t = lt-ltb most (place - at - 1) far in
            let past : at + 1 + most < place = omega arith in
            subst (HasJumpFault labels n at most (Labelled name)) (err_is (Far n) f (rw t at e)) (refl, (place, p, past))
        | inr near ↦ let u = le-ltb most (place - at - 1) near in let g = rw u at e in cc
      ]
]

distance-err : (labels : Labels) (n at most : ℕ) (to : Destination) (f : AsmFault) → distance labels n at most to ≡ Err f → HasJumpFault labels n at most to f
unfolding distance
distance-err labels n at most (Further count) f h = cc
distance-err labels n at most (Labelled name) f h = landed-err labels name n at most (label_place labels name) f refl h

some_is : (a b : ℕ) → ◌≡◌ {A = Option ℕ} (Some a) (Some b) → a ≡ b
some_is a b h = cc

distance-fine : (labels : Labels) (n at most count : ℕ) (to : Destination) (f : AsmFault) → distance labels n at most to ≡ Ok count → HasJumpFault labels n at most to f → ⊥
distance-fine labels n at most count (Further given) f ok h = h
distance-fine labels n at most count (Labelled name) (Label m) ok h =
    let d = distance-ok labels n at most count (Labelled name) ok in
    let none = h.1 in let some = d.0 in cc
distance-fine labels n at most count (Labelled name) (Back m) ok h =
    let d = distance-ok labels n at most count (Labelled name) ok in
    let same = some_is (at + 1 + count) h.1.0 (sym d.0 ∙ h.1.1) in
    let back = h.1.2 in
    omega (arith, same, back)
distance-fine labels n at most count (Labelled name) (Far m) ok h =
    let d = distance-ok labels n at most count (Labelled name) ok in
    let same = some_is (at + 1 + count) h.1.0 (sym d.0 ∙ h.1.1) in
    let past = h.1.2 in
    let near = d.1 in
    omega (arith, same, past, near)
distance-fine labels n at most count (Labelled name) (Line m) ok h = h
distance-fine labels n at most count (Labelled name) (TooLong m) ok h = h
distance-fine labels n at most count (Labelled name) (Twice m) ok h = h
distance-fine labels n at most count (Labelled name) Memory ok h = h

-- the first destination of a line that has a fault
resolved-err : (labels : Labels) (n at : ℕ) (s : Statement) (f : AsmFault) → resolved labels n at s ≡ Err f → FirstJumpFault labels n at (destinations (Some s)) f
unfolding resolved
resolved-err labels n at Silent f h = cc
resolved-err labels n at (Marks name) f h = cc
resolved-err labels n at (Plain given) f h = cc
resolved-err labels n at (Jumps code to) f h = elim (bind_err (distance labels n at (2 ^ 32 - 1) to) (λ k. Ok (Some (insn code 0 0 k))) f h) [
  | inl e ↦ inl (distance-err labels n at (2 ^ 32 - 1) to f e)
  | inr e ↦ let g = e.2 in cc
]
resolved-err labels n at (Branches code k jt jf) f h = elim (bind_err (distance labels n at 255 jt) (λ t. distance labels n at 255 jf >>= λ f. Ok (Some (insn code t f k))) f h) [
  | inl e ↦ inl (distance-err labels n at 255 jt f e)
  | inr e ↦ elim (bind_err (distance labels n at 255 jf) (λ f. Ok (Some (insn code e.0 f k))) f e.2) [
    | inl g ↦ inr ((λ other. distance-fine labels n at 255 e.0 jt other e.1), inl (distance-err labels n at 255 jf f g))
    | inr g ↦ let c = g.2 in cc
  ]
]

resolved-fine : (labels : Labels) (n at : ℕ) (s : Statement) (given : Option Insn) (f : AsmFault) → resolved labels n at s ≡ Ok given → FirstJumpFault labels n at (destinations (Some s)) f → ⊥
unfolding resolved
resolved-fine labels n at Silent given f ok h = h
resolved-fine labels n at (Marks name) given f ok h = h
resolved-fine labels n at (Plain said) given f ok h = h
resolved-fine labels n at (Jumps code to) given f ok h =
    let d = bind_ok (distance labels n at (2 ^ 32 - 1) to) (λ k. Ok (Some (insn code 0 0 k))) given ok in
    elim h [ inl x ↦ distance-fine labels n at (2 ^ 32 - 1) d.0 to f d.1 x | inr x ↦ x.1 ]
resolved-fine labels n at (Branches code k jt jf) given f ok h =
    let t = bind_ok (distance labels n at 255 jt) (λ t. distance labels n at 255 jf >>= λ f. Ok (Some (insn code t f k))) given ok in
    let u = bind_ok (distance labels n at 255 jf) (λ f. Ok (Some (insn code t.0 f k))) given t.2 in
    elim h [
      | inl x ↦ distance-fine labels n at 255 t.0 jt f t.1 x
      | inr x ↦ elim x.1 [ inl y ↦ distance-fine labels n at 255 u.0 jf f u.1 y | inr y ↦ y.1 ]
    ]

resolved-size : (labels : Labels) (n at : ℕ) (s : Statement) (given : Option Insn) → resolved labels n at s ≡ Ok given → option_len given ≡ size (Some s)
unfolding resolved
resolved-size labels n at Silent given ok = ap option_len (sym (ok_is None given ok))
resolved-size labels n at (Marks name) given ok = ap option_len (sym (ok_is None given ok))
resolved-size labels n at (Plain said) given ok = ap option_len (sym (ok_is (Some said) given ok))
resolved-size labels n at (Jumps code to) given ok =
    let d = bind_ok (distance labels n at (2 ^ 32 - 1) to) (λ k. Ok (Some (insn code 0 0 k))) given ok in
    ap option_len (sym (ok_is (Some (insn code 0 0 d.0)) given d.2))
resolved-size labels n at (Branches code k jt jf) given ok =
    let t = bind_ok (distance labels n at 255 jt) (λ t. distance labels n at 255 jf >>= λ f. Ok (Some (insn code t f k))) given ok in
    let u = bind_ok (distance labels n at 255 jf) (λ f. Ok (Some (insn code t.0 f k))) given t.2 in
    ap option_len (sym (ok_is (Some (insn code t.0 u.0 k)) given u.2))

jump_place : (labels : Labels) (n at most : ℕ) (to : Destination) (f : AsmFault) → HasJumpFault labels n at most to f → (stage_of f ≡ 2) × (line_of f ≡ n)
jump_place labels n at most (Further count) f h = absurd h
jump_place labels n at most (Labelled name) (Label m) h = (refl, h.0)
jump_place labels n at most (Labelled name) (Back m) h = (refl, h.0)
jump_place labels n at most (Labelled name) (Far m) h = (refl, h.0)
jump_place labels n at most (Labelled name) (Line m) h = absurd h
jump_place labels n at most (Labelled name) (TooLong m) h = absurd h
jump_place labels n at most (Labelled name) (Twice m) h = absurd h
jump_place labels n at most (Labelled name) Memory h = absurd h

jumps_place : (labels : Labels) (n at : ℕ) (to : List (ℕ × Destination)) (f : AsmFault) → FirstJumpFault labels n at to f → (stage_of f ≡ 2) × (line_of f ≡ n)
jumps_place labels n at [] f h = absurd h
jumps_place labels n at (to ∷ others) f h = elim h [
  | inl x ↦ jump_place labels n at to.0 to.1 f x
  | inr x ↦ jumps_place labels n at others f x.1
]

-- ---- lines

module _ {X : Type 0} where
  -- a list is cut at a place in one way
  pub cut_once : (xs ys tail other : List X) (a b : X) → xs ++ a ∷ tail ≡ ys ++ b ∷ other → length xs ≡ length ys → (xs ≡ ys) × (a ≡ b)
  cut_once [] [] tail other a b e l = (refl, cc)
  cut_once [] (y ∷ ys) tail other a b e l = absurd (omega arith)
  cut_once (x ∷ xs) [] tail other a b e l = absurd (omega arith)
  cut_once (x ∷ xs) (y ∷ ys) tail other a b e l =
      let head : x ≡ y = cc in
      let rests : xs ++ a ∷ tail ≡ ys ++ b ∷ other = cc in
      let rest = cut_once xs ys tail other a b rests (omega arith) in
      (rw (head, rest.0) refl, rest.1)

instructions_more : (lines more : List (List ℕ)) → instructions_said (lines ++ more) ≡ instructions_said lines + instructions_said more
instructions_more [] more = omega arith
instructions_more (line ∷ lines) more = let e = instructions_more lines more in omega (arith, e)

labels_more : (at : ℕ) (lines more : List (List ℕ)) → labels_said at (lines ++ more) ≡ labels_said at lines ++ labels_said (at + instructions_said lines) more
labels_more at [] more = let none : at + 0 ≡ at = omega arith in rw none refl
labels_more at (line ∷ lines) more =
    let sum : at + size (said line) + instructions_said lines ≡ at + (size (said line) + instructions_said lines) = omega arith in
    ap (λ l. given_at at (said line) ++ l) (labels_more (at + size (said line)) lines more ∙ ap (λ p. labels_said (at + size (said line)) lines ++ labels_said p more) sum)
    ∙ sym (append_assoc (given_at at (said line)) (labels_said (at + size (said line)) lines) (labels_said (at + (size (said line) + instructions_said lines)) more))

-- each of the lines says something
abbrev AllSay : List (List ℕ) → Type 0
AllSay [] = Unit {0}
AllSay (line ∷ lines) = ((s : Statement) × SaysLine line s) × AllSay lines

-- the fault of a line behind these lines, of which all have the given labels
abbrev pub Behind : Labels → List (List ℕ) → List ℕ → AsmFault → Type 0
Behind labels before line (Line n) = (length line ≤ 255) × (said line ≡ None)
Behind labels before line (TooLong n) = (255 < length line) ⊎ ((size (said line) ≡ 1) × (4096 ≤ instructions_said before))
Behind labels before line (Twice n) = (name : List ℕ) × (said line ≡ Some (Marks name)) × IsTrue (is_some (label_place (labels_said 0 before) name))
Behind labels before line (Label n) = FirstJumpFault labels n (instructions_said before) (destinations (said line)) (Label n)
Behind labels before line (Back n) = FirstJumpFault labels n (instructions_said before) (destinations (said line)) (Back n)
Behind labels before line (Far n) = FirstJumpFault labels n (instructions_said before) (destinations (said line)) (Far n)
Behind labels before line Memory = ⊥

module _ (first : ℕ) (lines : List (List ℕ)) where
  pub at_line : (f : AsmFault) → HasFault first lines f → AtLine first lines (line_of f) (λ before line. Behind (labels_said 0 lines) before line f)
  at_line (Line n) h = h
  at_line (TooLong n) h = h
  at_line (Twice n) h = h
  at_line (Label n) h = h
  at_line (Back n) h = h
  at_line (Far n) h = h
  at_line Memory h = absurd h

  -- none of the first so many lines has a fault of a stage
  abbrev Clean : ℕ → ℕ → Type 0
  Clean stage k = (other : AsmFault) → stage_of other ≡ stage → line_of other < first + k → HasFault first lines other → ⊥

  -- what a pass finds: the first fault of its stage, or that there is none
  abbrev Finds : ℕ → AsmFault → Type 0
  Finds stage f =
      HasFault first lines f × (stage_of f ≡ stage)
      × ((other : AsmFault) → stage_of other ≡ stage → line_of other < line_of f → HasFault first lines other → ⊥)

  module _ (done : List (List ℕ)) (line : List ℕ) (more : List (List ℕ)) (cut : lines ≡ done ++ line ∷ more) where
    n : ℕ
    n = first + length done

    here : (P : List (List ℕ) → List ℕ → Type 0) → P done line → AtLine first lines (first + length done) P
    here P h = (done, (line, (more, cut, refl, h)))

    only_here : (P : List (List ℕ) → List ℕ → Type 0) (m : ℕ) → m ≡ first + length done → AtLine first lines m P → P done line
    only_here P m e h =
        let long : length h.0 ≡ length done = let at = h.1.1.2 in omega (arith, e, at) in
        let one = cut_once h.0 done h.1.1.0 more h.1.0 line (sym h.1.1.1 ∙ cut) long in
        subst (λ d. P d line) one.0 (subst (P h.0) one.1 h.1.1.3)

    clean_more : (stage : ℕ) → Clean stage (length done)
        → ((other : AsmFault) → stage_of other ≡ stage → line_of other ≡ first + length done → HasFault first lines other → ⊥)
        → Clean stage (length (done ++ line ∷ []))
    clean_more stage clean fine other s below h =
        let long = length-append done (line ∷ []) in
        elim (cases_lt (line_of other) (first + length done)) [
          | inl before ↦ clean other s before h
          | inr after ↦ fine other s (omega (arith, long, below, after)) h
        ]

    -- the first pass took the line
    taken : (s : Statement) (next : Labels × ℕ) → SaysLine line s → noted (first + length done) (labels_said 0 done) (instructions_said done) s ≡ Ok next
        → (other : AsmFault) → stage_of other ≡ 1 → line_of other ≡ first + length done → HasFault first lines other → ⊥
    taken s next says ok (Line m) stage e h =
        let none = (only_here (λ before line. (length line ≤ 255) × (said line ≡ None)) m e h).1 in
        let some = said-says line s says in
        cc
    taken s next says ok (TooLong m) stage e h =
        elim (only_here (λ before line. (255 < length line) ⊎ ((size (said line) ≡ 1) × (4096 ≤ instructions_said before))) m e h) [
          | inl long ↦ let short = says.short in omega (arith, long, short)
          | inr full ↦
              let one : size (Some s) ≡ 1 = ap size (sym (said-says line s says)) ∙ full.0 in
              let room = noted-room (first + length done) (labels_said 0 done) (instructions_said done) s next ok one in
              let most = full.1 in
              omega (arith, room, most)
        ]
    taken s next says ok (Twice m) stage e h =
        let again = only_here (λ before line. (name : List ℕ) × (said line ≡ Some (Marks name)) × IsTrue (is_some (label_place (labels_said 0 before) name))) m e h in
        let marks : s ≡ Marks again.0 = let a = said-says line s says in let b = again.1 in cc in
        let none = noted-new (first + length done) (labels_said 0 done) (instructions_said done) again.0 next
        (ap (noted (first + length done) (labels_said 0 done) (instructions_said done)) (sym marks) ∙ ok) in
        let some = again.2 in
        let clash : true ≡ false = sym some ∙ ap is_some none in
        cc
    taken s next says ok (Label m) stage e h = absurd (omega arith)
    taken s next says ok (Back m) stage e h = absurd (omega arith)
    taken s next says ok (Far m) stage e h = absurd (omega arith)
    taken s next says ok Memory stage e h = h

    -- the first pass refused it
    refused_line : (f : AsmFault) → checked (first + length done) line ≡ Err f → HasFault first lines f × (stage_of f ≡ 1) × (line_of f ≡ first + length done)
    refused_line f h = elim (checked-err (first + length done) line f h) [
      | inl long ↦
          subst (λ f. HasFault first lines f × (stage_of f ≡ 1) × (line_of f ≡ first + length done)) (sym long.0)
          (here (λ before line. (255 < length line) ⊎ ((size (said line) ≡ 1) × (4096 ≤ instructions_said before))) (inl long.1), refl, refl)
      | inr bad ↦
          subst (λ f. HasFault first lines f × (stage_of f ≡ 1) × (line_of f ≡ first + length done)) (sym bad.0)
          (here (λ before line. (length line ≤ 255) × (said line ≡ None)) (bad.1, bad.2), refl, refl)
    ]

    refused_statement : (s : Statement) (f : AsmFault) → SaysLine line s → noted (first + length done) (labels_said 0 done) (instructions_said done) s ≡ Err f
        → HasFault first lines f × (stage_of f ≡ 1) × (line_of f ≡ first + length done)
    refused_statement s f says h = elim (noted-err (first + length done) (labels_said 0 done) (instructions_said done) s f h) [
      | inl full ↦
          subst (λ f. HasFault first lines f × (stage_of f ≡ 1) × (line_of f ≡ first + length done)) (sym full.0) (
            here (λ before line. (255 < length line) ⊎ ((size (said line) ≡ 1) × (4096 ≤ instructions_said before)))
                (inr (ap size (said-says line s says) ∙ full.1, full.2)),
            refl,
            refl,
          )
      | inr twice ↦
          subst (λ f. HasFault first lines f × (stage_of f ≡ 1) × (line_of f ≡ first + length done)) (sym twice.0) (
            here (λ before line. (name : List ℕ) × (said line ≡ Some (Marks name)) × IsTrue (is_some (label_place (labels_said 0 before) name)))
                (twice.1.0, said-says line s says ∙ ap Some twice.1.1, twice.1.2),
            refl,
            refl,
          )
    ]

    -- the second pass took it, or refused it
    landed_well : (s : Statement) (given : Option Insn) → SaysLine line s → resolved (labels_said 0 lines) (first + length done) (instructions_said done) s ≡ Ok given
        → (other : AsmFault) → stage_of other ≡ 2 → line_of other ≡ first + length done → HasFault first lines other → ⊥
    landed_well s given says ok other stage e h =
        let jumps = jump_in other stage h in
        let at = only_here (λ before line. FirstJumpFault (labels_said 0 lines) (line_of other) (instructions_said before) (destinations (said line)) other) (line_of other) e jumps in
        let mine = subst (λ m. FirstJumpFault (labels_said 0 lines) m (instructions_said done) (destinations (said line)) other) e at in
        resolved-fine (labels_said 0 lines) (first + length done) (instructions_said done) s given other ok
        (subst (λ o. FirstJumpFault (labels_said 0 lines) (first + length done) (instructions_said done) (destinations o) other) (said-says line s says) mine)
      where
        jump_in : (other : AsmFault) → stage_of other ≡ 2 → HasFault first lines other → HasJumpFaultAt first lines (line_of other) other
        jump_in (Label m) stage h = h
        jump_in (Back m) stage h = h
        jump_in (Far m) stage h = h
        jump_in (Line m) stage h = absurd (omega arith)
        jump_in (TooLong m) stage h = absurd (omega arith)
        jump_in (Twice m) stage h = absurd (omega arith)
        jump_in Memory stage h = absurd (omega arith)

    landed_badly : (s : Statement) (f : AsmFault) → SaysLine line s → resolved (labels_said 0 lines) (first + length done) (instructions_said done) s ≡ Err f
        → HasFault first lines f × (stage_of f ≡ 2) × (line_of f ≡ first + length done)
    landed_badly s f says h =
        let jump = resolved-err (labels_said 0 lines) (first + length done) (instructions_said done) s f h in
        let place = jumps_place (labels_said 0 lines) (first + length done) (instructions_said done) (destinations (Some s)) f jump in
        let mine = subst (λ o. FirstJumpFault (labels_said 0 lines) (first + length done) (instructions_said done) (destinations o) f) (sym (said-says line s says)) jump in
        let there = here (λ before line. FirstJumpFault (labels_said 0 lines) (first + length done) (instructions_said before) (destinations (said line)) f) mine in
        (fault_at f (first + length done) place.0 place.1 there, place.0, place.1)
      where
        fault_at : (f : AsmFault) (m : ℕ) → stage_of f ≡ 2 → line_of f ≡ m → HasJumpFaultAt first lines m f → HasFault first lines f
        fault_at (Label k) m stage e h = subst (λ m. HasJumpFaultAt first lines m (Label k)) (sym e) h
        fault_at (Back k) m stage e h = subst (λ m. HasJumpFaultAt first lines m (Back k)) (sym e) h
        fault_at (Far k) m stage e h = subst (λ m. HasJumpFaultAt first lines m (Far k)) (sym e) h
        fault_at (Line k) m stage e h = absurd (omega arith)
        fault_at (TooLong k) m stage e h = absurd (omega arith)
        fault_at (Twice k) m stage e h = absurd (omega arith)
        fault_at Memory m stage e h = absurd (omega arith)

  -- a fault at a line before which there is none
  found_at : (stage k : ℕ) (f : AsmFault) → Clean stage k → HasFault first lines f × (stage_of f ≡ stage) × (line_of f ≡ first + k) → Finds stage f
  found_at stage k f clean h = (
    h.0,
    h.1,
    λ other s below has. let at = h.2 in clean other s (omega (arith, at, below)) has,
  )

  -- ---- the first pass

  abbrev Scanned : List (List ℕ) → Result Labels AsmFault → Type 0
  Scanned rest (Err f) = Finds 1 f
  Scanned rest (Ok final) = Clean 1 (length lines) × AllSay rest × (final ≡ labels_said 0 lines)

  abbrev Scans : List (List ℕ) → Type 0
  Scans rest =
      (done : List (List ℕ)) (result : Result Labels AsmFault) → lines ≡ done ++ rest → Clean 1 (length done)
      → labelled (first + length done) (labels_said 0 done) (instructions_said done) rest ≡ result → Scanned rest result

  scanned : (rest : List (List ℕ)) → Scans rest
  unfolding labelled
  scanned [] done result cut clean h =
      let same : lines ≡ done = cut ∙ append-nil done in
      subst (Scanned []) h (subst (λ l. Clean 1 (length l)) (sym same) clean, tt, ap (labels_said 0) (sym same))
  scanned (line ∷ more) done result cut clean h = by_line (scanned more) (checked (first + length done) line) refl result h
    where
      next_is : (s : Statement) (next : Labels × ℕ) → SaysLine line s → noted (first + length done) (labels_said 0 done) (instructions_said done) s ≡ Ok next
          → (labels_said 0 (done ++ line ∷ []), instructions_said (done ++ line ∷ [])) ≡ next
      next_is s next says ok =
          let o = said-says line s says in
          let from : 0 + instructions_said done ≡ instructions_said done = omega arith in
          let l : labels_said 0 (done ++ line ∷ []) ≡ labels_said 0 done ++ given_at (instructions_said done) (Some s) =
          labels_more 0 done (line ∷ []) ∙ ap (λ k. labels_said 0 done ++ labels_said k (line ∷ [])) from
          ∙ ap (λ l. labels_said 0 done ++ l) (append-nil (given_at (instructions_said done) (said line)) ∙ ap (given_at (instructions_said done)) o) in
          let c : instructions_said (done ++ line ∷ []) ≡ instructions_said done + size (Some s) =
          instructions_more done (line ∷ []) ∙ ap (λ k. instructions_said done + (k + 0)) (ap size o) ∙ omega arith in
          ap (λ a. (a, instructions_said (done ++ line ∷ []))) l ∙ ap (λ b. (labels_said 0 done ++ given_at (instructions_said done) (Some s), b)) c
          ∙ noted-ok (first + length done) (labels_said 0 done) (instructions_said done) s next ok

      go_on : Scans more → (s : Statement) (next : Labels × ℕ) (result : Result Labels AsmFault) → SaysLine line s → noted (first + length done) (labels_said 0 done) (instructions_said done) s ≡ Ok next
          → labelled (first + length done + 1) next.0 next.1 more ≡ result → Scanned (line ∷ more) result
      go_on again s next result says ok h =
          let next_line : first + length (done ++ line ∷ []) ≡ first + length done + 1 = let l = length-append done (line ∷ []) in omega (arith, l) in
          let state = next_is s next says ok in
          let same = ap (λ p. labelled p (labels_said 0 (done ++ line ∷ [])) (instructions_said (done ++ line ∷ [])) more) next_line
          ∙ ap (λ p. labelled (first + length done + 1) p.0 p.1 more) state ∙ h in
          with_line s says result (again (done ++ line ∷ []) result (cut ∙ sym (append_assoc done (line ∷ []) more))
          (clean_more done line more cut 1 clean (taken done line more cut s next says ok)) same)
        where
          with_line : (s : Statement) → SaysLine line s → (result : Result Labels AsmFault) → Scanned more result → Scanned (line ∷ more) result
          with_line s says (Err f) h = h
          with_line s says (Ok final) h = (h.0, ((s, says), h.1), h.2)

      by_statement : Scans more → (s : Statement) → SaysLine line s → (r : Result (Labels × ℕ) AsmFault) → noted (first + length done) (labels_said 0 done) (instructions_said done) s ≡ r
          → (result : Result Labels AsmFault) → (r >>= λ next. labelled (first + length done + 1) next.0 next.1 more) ≡ result → Scanned (line ∷ more) result
      by_statement again s says (Err f) e result h = subst (Scanned (line ∷ more)) h (found_at 1 (length done) f clean (refused_statement done line more cut s f says e))
      by_statement again s says (Ok next) e result h = go_on again s next result says e h

      by_line : Scans more → (c : Result Statement AsmFault) → checked (first + length done) line ≡ c → (result : Result Labels AsmFault)
          → labelled (first + length done) (labels_said 0 done) (instructions_said done) (line ∷ more) ≡ result → Scanned (line ∷ more) result
      by_line again (Err f) e result h =
          let failed = rw e at h in
          subst (Scanned (line ∷ more)) failed (found_at 1 (length done) f clean (refused_line done line more cut f e))
      by_line again (Ok s) e result h = by_statement again s (checked-ok (first + length done) line s e) _ refl result (rw e at h)

  -- ---- the second pass

  abbrev Emitted : Result (List Insn) AsmFault → Type 0
  Emitted (Err f) = Finds 2 f
  Emitted (Ok insns) = Clean 2 (length lines)

  abbrev Emits : List (List ℕ) → Type 0
  Emits rest =
      (done : List (List ℕ)) (result : Result (List Insn) AsmFault) → lines ≡ done ++ rest → Clean 2 (length done) → AllSay rest
      → emitted (labels_said 0 lines) (first + length done) (instructions_said done) rest ≡ result → Emitted result

  emits : (rest : List (List ℕ)) → Emits rest
  unfolding emitted
  emits [] done result cut clean says h =
      let same : lines ≡ done = cut ∙ append-nil done in
      subst Emitted h (subst (λ l. Clean 2 (length l)) (sym same) clean)
  emits (line ∷ more) done result cut clean says h =
      by_given (emits more) (resolved (labels_said 0 lines) (first + length done) (instructions_said done) says.0.0) refl
      (rw (checked-says (first + length done) line says.0.0 says.0.1) at h)
    where
      behind : (given : Option Insn) (r : Result (List Insn) AsmFault) → Emitted r → (r >>= λ insns. Ok (in_front given insns)) ≡ result → Emitted result
      behind given (Err f) found h = subst Emitted h found
      behind given (Ok insns) found h = subst Emitted h found

      by_given : Emits more → (r : Result (Option Insn) AsmFault) → resolved (labels_said 0 lines) (first + length done) (instructions_said done) says.0.0 ≡ r
          → (r >>= λ given. emitted (labels_said 0 lines) (first + length done + 1) (instructions_said done + option_len given) more >>= λ insns. Ok (in_front given insns)) ≡ result → Emitted result
      by_given again (Err f) e h = subst Emitted h (found_at 2 (length done) f clean (landed_badly done line more cut says.0.0 f says.0.1 e))
      by_given again (Ok given) e h =
          let long = length-append done (line ∷ []) in
          let next_line : first + length (done ++ line ∷ []) ≡ first + length done + 1 = omega (arith, long) in
          let size_is = resolved-size (labels_said 0 lines) (first + length done) (instructions_said done) says.0.0 given e in
          let o = ap size (said-says line says.0.0 says.0.1) in
          let count = instructions_more done (line ∷ []) in
          let next_place : instructions_said (done ++ line ∷ []) ≡ instructions_said done + option_len given = omega (arith, size_is, o, count) in
          behind given (emitted (labels_said 0 lines) (first + length done + 1) (instructions_said done + option_len given) more)
          (again (done ++ line ∷ []) _ (cut ∙ sym (append_assoc done (line ∷ []) more))
          (clean_more done line more cut 2 clean (landed_well done line more cut says.0.0 given says.0.1 e)) says.1
          (ap (λ p. emitted (labels_said 0 lines) p (instructions_said (done ++ line ∷ [])) more) next_line
          ∙ ap (λ p. emitted (labels_said 0 lines) (first + length done + 1) p more) next_place))
          h

  -- ---- both

  -- a fault has a stage, and stands at one of the lines
  at_a_line : (n : ℕ) (P : List (List ℕ) → List ℕ → Type 0) → AtLine first lines n P → n < first + length lines
  at_a_line n P h =
      let long = ap length h.1.1.1 ∙ length-append h.0 (h.1.0 ∷ h.1.1.0) in
      let place = h.1.1.2 in
      omega (arith, long, place)

  within : (f : AsmFault) → HasFault first lines f → line_of f < first + length lines
  within f h = at_a_line (line_of f) _ (at_line f h)

  pub staged : (f : AsmFault) → HasFault first lines f → (stage_of f ≡ 1) ⊎ (stage_of f ≡ 2)
  staged (Line n) h = inl refl
  staged (TooLong n) h = inl refl
  staged (Twice n) h = inl refl
  staged (Label n) h = inr refl
  staged (Back n) h = inr refl
  staged (Far n) h = inr refl
  staged Memory h = absurd h

  none_yet : (stage : ℕ) → Clean stage 0
  none_yet stage other s below h = let at = at_least other h in absurd (omega (arith, below, at))
    where
      from : (n : ℕ) (P : List (List ℕ) → List ℕ → Type 0) → AtLine first lines n P → first ≤ n
      from n P h = let place = h.1.1.2 in omega (arith, place)

      at_least : (f : AsmFault) → HasFault first lines f → first ≤ line_of f
      at_least f h = from (line_of f) _ (at_line f h)

  first_pass : (result : Result Labels AsmFault) → labelled first [] 0 lines ≡ result → Scanned lines result
  first_pass result h =
      let none : first + 0 ≡ first = omega arith in
      scanned lines [] result refl (none_yet 1) (ap (λ n. labelled n [] 0 lines) none ∙ h)

  second_pass : (labels : Labels) (result : Result (List Insn) AsmFault) → labels ≡ labels_said 0 lines → AllSay lines → emitted labels first 0 lines ≡ result → Emitted result
  second_pass labels result same says h =
      let none : first + 0 ≡ first = omega arith in
      emits lines [] result refl (none_yet 2) says (ap (λ n. emitted (labels_said 0 lines) n 0 lines) none ∙ ap (λ l. emitted l first 0 lines) (sym same) ∙ h)

  pub passes_find_the_first : (f : AsmFault) → assembled_lines first lines ≡ Err f → IsFirstFault first lines f
  unfolding assembled_lines
  passes_find_the_first f h = elim (bind_err (labelled first [] 0 lines) (λ labels. emitted labels first 0 lines) f h) [
    | inl e ↦
        let s = first_pass (Err f) e in (
          s.0,
          λ other before has. elim before [
            | inl less ↦ elim (staged other has) [ inl one ↦ let at = s.1 in absurd (omega (arith, less, one, at)) | inr two ↦ let at = s.1 in absurd (omega (arith, less, two, at)) ]
            | inr same ↦ s.2 other (same.0 ∙ s.1) same.1 has
          ],
        )
    | inr e ↦
        let s = first_pass (Ok e.0) e.1 in
        let t = second_pass e.0 (Err f) s.2 s.1 e.2 in (
          t.0,
          λ other before has. elim before [
            | inl less ↦ elim (staged other has) [ inl one ↦ s.0 other one (within other has) has | inr two ↦ let at = t.1 in absurd (omega (arith, less, two, at)) ]
            | inr same ↦ t.2 other (same.0 ∙ t.1) same.1 has
          ],
        )
  ]

  pub no_fault_where_assembled : (insns : List Insn) (f : AsmFault) → assembled_lines first lines ≡ Ok insns → HasFault first lines f → ⊥
  unfolding assembled_lines
  no_fault_where_assembled insns f h has =
      let l = bind_ok (labelled first [] 0 lines) (λ labels. emitted labels first 0 lines) insns h in
      let s = first_pass (Ok l.0) l.1 in
      let t = second_pass l.0 (Ok insns) s.2 s.1 l.2 in
      elim (staged f has) [ inl one ↦ s.0 f one (within f has) has | inr two ↦ t f two (within f has) has ]

-- of a text
pub first_of_a_text : (text : List ℕ) (f : AsmFault) → assembled text ≡ Err f → IsFirstTextFault text f
unfolding assembled
first_of_a_text text f h = elim (cases_lt 1048576 (length text)) [
  | inl long ↦ let t = lt-ltb 1048576 (length text) long in inl (long, sym (err_is (TooLong 0) f (rw t at h)))
  | inr short ↦ let b = le-ltb 1048576 (length text) short in inr (short, passes_find_the_first 1 (lines_of text) f (rw b at h))
]

-- what is told as it is given is a fault, unless memory was refused
module _ {T : Type 0} (view : T → List Insn) (Fault : AsmFault → Type 0) (given : Result (List Insn) AsmFault) (holds : (fault : AsmFault) → given ≡ Err fault → Fault fault) where
  pub told : (answer : Result T AsmFault) → Answers view answer given → IfErr answer (λ fault. fault ≢ Memory → Fault fault)
  told (Ok value) h = tt
  told (Err (Line n)) h = λ other. holds (Line n) h
  told (Err (Label n)) h = λ other. holds (Label n) h
  told (Err (Twice n)) h = λ other. holds (Twice n) h
  told (Err (Far n)) h = λ other. holds (Far n) h
  told (Err (Back n)) h = λ other. holds (Back n) h
  told (Err (TooLong n)) h = λ other. holds (TooLong n) h
  told (Err Memory) h = λ other. absurd (other refl)

-- the answer of the passes
module _ {T : Type 0} (view : T → List Insn) (answer : Result T AsmFault) where
  pub answers_first : (text : List ℕ) → Answers view answer (assembled text) → IfErr answer (λ fault. fault ≢ Memory → IsFirstTextFault text fault)
  answers_first text h = told view (IsFirstTextFault text) (assembled text) (first_of_a_text text) answer h

  pub answers_first_line : (first : ℕ) (lines : List (List ℕ)) → Answers view answer (assembled_lines first lines) → IfErr answer (λ fault. fault ≢ Memory → IsFirstFault first lines fault)
  answers_first_line first lines h = told view (IsFirstFault first lines) (assembled_lines first lines) (passes_find_the_first first lines) answer h
