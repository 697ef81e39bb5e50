-- Steps of the reading, one line by itself, and the parting of lines into blocks.
use Rattle.std.proofs.Common.{◌≡◌, ◌≤◌, ◌+◌, ◌∙◌, ap, arith, refl, sym, ℕ, List, [], ◌∷◌, ◌++◌, Option, Some, None, Result, Ok, Err, false, IsTrue, length, inl, inr, lt-ltb, le-ltb}
use Rattle.sk_scenario.proofs.Common.{cases_Bool, cases_lt, list_all, list_any, words_of, begins_comment, is_printable_byte, image_of, Insn, AsmFault, assembled_lines, is_end, until_end, TextFault, begins_bytes, bytes_of, asked_of, Names, Says, behind_end, ◌>>=◌, plain, understood, checked, Gained, Open, Nothing, Undecided, Bytes, Code, Calls, limited, coded, decided, called, inside, within, stepped, finished, closed, reading}
use Rattle.sk_asm.specs.declared.fault.AsmFault.TheVariants as asm

-- ---- steps

pub ok_is : {X : Type 0} (x y : X) → ◌≡◌ {A = Result X TextFault} (Ok x) (Ok y) → x ≡ y
ok_is x y h = cc

-- a chain of steps gives a value only where its first step does
pub bind_ok : {X Y : Type 0} (first : Result X TextFault) (next : X → Result Y TextFault) (y : Y) → (first >>= next) ≡ Ok y → (x : X) × (first ≡ Ok x) × (next x ≡ Ok y)
bind_ok (Ok x) next y h = (x, refl, h)
bind_ok (Err fault) next y h = cc

-- ---- one line

pub plain-ok : (n : ℕ) (line : List ℕ) (good : Unit {0}) → plain n line ≡ Ok good → (length line ≤ 255) × IsTrue (list_all is_printable_byte line)
plain-ok n line good h = elim (cases_lt 255 (length line)) [
  | inl long ↦ let t = lt-ltb 255 (length line) long in let e = rw t at h in cc
  | inr short ↦
      let f = le-ltb 255 (length line) short in
      let e = rw f at h in
      elim (cases_Bool (list_all is_printable_byte line)) [
        | inl t ↦ (short, t)
        | inr bad ↦ let g = rw bad at e in cc
      ]
]

pub plain-is : (n : ℕ) (line : List ℕ) → length line ≤ 255 → IsTrue (list_all is_printable_byte line) → plain n line ≡ Ok tt
plain-is n line short printable = let f = le-ltb 255 (length line) short in rw (f, printable) refl

pub understood-ok : {X : Type 0} (n : ℕ) (o : Option X) (said : X) → understood n o ≡ Ok said → o ≡ Some said
understood-ok n None said h = cc
understood-ok n (Some other) said h = cc

module _ {X : Type 0} (grammar : List ℕ → Option X) (n : ℕ) (line : List ℕ) (said : X) where
  pub checked-ok : checked grammar n line ≡ Ok said → Says grammar line said
  unfolding checked
  checked-ok h =
      let p = bind_ok (plain n line) (λ good. understood n (grammar line)) said h in
      let s = plain-ok n line p.0 p.1 in
      record { short = s.0; printable = s.1; understood = understood-ok n (grammar line) said p.2 }

  pub checked-says : Says grammar line said → checked grammar n line ≡ Ok said
  unfolding checked
  checked-says h =
      let p = plain-is n line h.short h.printable in
      let u = h.understood in
      rw (p, u) refl

-- ---- a block

-- the lines of a block, of which n is the first: the number of the line here them, and the block
unfoldable pub filling : Option Names → ℕ → Open → List (List ℕ) → Result (ℕ × Open) TextFault
filling known n block [] = Ok (n, block)
filling known n block (line ∷ lines) = inside known n block line (line ∷ lines) >>= λ next. filling known (n + 1) next lines

-- whether a block is open, and of which kind
abbrev pub kind : Open → ℕ
kind Nothing = 0
kind Undecided = 1
kind (Bytes image) = 1
kind (Code image) = 1
kind (Calls script) = 2

stepped_open : (known : Option Names) (n : ℕ) (d : Gained) (block : Open) (line : List ℕ) (lines : List (List ℕ)) → 1 ≤ kind block → stepped known n d block line lines ≡ within known n d block line lines
unfolding stepped
stepped_open known n d Nothing line lines h = absurd (omega (arith, h))
stepped_open known n d Undecided line lines h = refl
stepped_open known n d (Bytes image) line lines h = refl
stepped_open known n d (Code image) line lines h = refl
stepped_open known n d (Calls script) line lines h = refl

closed_open : (n : ℕ) (block : Open) (d final : Gained) → 1 ≤ kind block → (closed n block >>= λ none. Ok d) ≡ Ok final → ⊥
closed_open n Nothing d final h e = omega (arith, h)
closed_open n Undecided d final h e = cc
closed_open n (Bytes image) d final h e = cc
closed_open n (Code image) d final h e = cc
closed_open n (Calls script) d final h e = cc

pub limited-ok : (n : ℕ) (image : List ℕ) (next : Open) → limited n image ≡ Ok next → (length image ≤ 32776) × (next ≡ Bytes image)
limited-ok n image next h = elim (cases_lt 32776 (length image)) [
  | inl long ↦ let t = lt-ltb 32776 (length image) long in let e = rw t at h in cc
  | inr short ↦ let f = le-ltb 32776 (length image) short in (short, sym (ok_is (Bytes image) next (rw f at h)))
]

kind_limited : (n : ℕ) (image : List ℕ) (next : Open) → limited n image ≡ Ok next → kind next ≡ 1
kind_limited n image next h = ap kind (limited-ok n image next h).1

kind_coded : (known : Option Names) (r : Result (List Insn) AsmFault) (next : Open) → coded known r ≡ Ok next → kind next ≡ 1
unfolding coded
kind_coded known (Ok insns) next h = ap kind (sym (ok_is (Code (image_of insns)) next h))
kind_coded None (Err (asm.Label m)) next h = ap kind (sym (ok_is (Code []) next h))
kind_coded (Some names) (Err (asm.Label m)) next h = cc
kind_coded known (Err (asm.TooLong m)) next h = cc
kind_coded known (Err (asm.Line m)) next h = cc
kind_coded known (Err (asm.Twice m)) next h = cc
kind_coded known (Err (asm.Far m)) next h = cc
kind_coded known (Err (asm.Back m)) next h = cc
kind_coded known (Err asm.Memory) next h = cc

kind_decided : (known : Option Names) (n : ℕ) (line : List ℕ) (others : List (List ℕ)) (next : Open) → decided known n line others ≡ Ok next → kind next ≡ 1
unfolding decided
kind_decided known n line others next h = elim (cases_Bool (begins_comment (words_of line))) [
  | inl t ↦ ap kind (sym (ok_is Undecided next (rw t at h)))
  | inr f ↦
      let e = rw f at h in
      elim (cases_Bool (begins_bytes (words_of line))) [
        | inl b ↦
            let g = rw b at e in
            let u = bind_ok (understood n (bytes_of line)) (λ bytes. limited n bytes) next g in
            kind_limited n u.0 next u.2
        | inr c ↦ kind_coded known (assembled_lines n others) next (rw c at e)
      ]
]

pub kind_inside : (known : Option Names) (n : ℕ) (block : Open) (line : List ℕ) (here : List (List ℕ)) (next : Open) → inside known n block line here ≡ Ok next → kind next ≡ kind block
unfolding inside
kind_inside known n Nothing line here next h = ap kind (sym (ok_is Nothing next h))
kind_inside known n Undecided line here next h =
    let p = bind_ok (plain n line) (λ good. decided known n line here) next h in
    kind_decided known n line here next p.2
kind_inside known n (Bytes image) line here next h =
    let c = bind_ok (checked bytes_of n line) (λ bytes. limited n (image ++ bytes)) next h in
    kind_limited n (image ++ c.0) next c.2
kind_inside known n (Code image) line here next h = ap kind (sym (ok_is (Code image) next h))
kind_inside known n (Calls script) line here next h =
    let c = bind_ok (checked asked_of n line) (λ asked. called known n script asked >>= λ next. Ok (Calls next)) next h in
    let s = bind_ok (called known n script c.0) (λ next. Ok (Calls next)) next c.2 in
    ap kind (sym (ok_is (Calls s.0) next s.2))

pub kind_filling : (known : Option Names) (n : ℕ) (block : Open) (lines : List (List ℕ)) (next : ℕ × Open) → filling known n block lines ≡ Ok next → kind next.1 ≡ kind block
unfolding filling
kind_filling known n block [] next h = ap (λ (p : ℕ × Open). kind p.1) (sym (ok_is (n, block) next h))
kind_filling known n block (line ∷ lines) next h =
    let i = bind_ok (inside known n block line (line ∷ lines)) (λ other. filling known (n + 1) other lines) next h in
    kind_filling known (n + 1) i.0 lines next i.2 ∙ kind_inside known n block line (line ∷ lines) i.0 i.1

-- a reading in a block fills it up to its end
abbrev pub Filled : Option Names → ℕ → Gained → Open → List (List ℕ) → Result Gained TextFault
Filled known n d block lines = filling known n block (until_end lines) >>= λ next. reading known (next.0 + 1) (finished d next.1) Nothing (behind_end lines)

abbrev paired : Gained → Result Open TextFault → Result (Gained × Open) TextFault
paired d r = r >>= λ next. Ok (d, next)

module _ (known : Option Names) (n : ℕ) (d : Gained) (lines : List (List ℕ)) where
  inside_then : (r : Result Open TextFault) → ((next : Open) → r ≡ Ok next → reading known (n + 1) d next lines ≡ Filled known (n + 1) d next lines)
      → (paired d r >>= λ next. reading known (n + 1) next.0 next.1 lines)
      ≡ ((r >>= λ next. filling known (n + 1) next (until_end lines)) >>= λ next. reading known (next.0 + 1) (finished d next.1) Nothing (behind_end lines))
  inside_then (Ok next) h = h next refl
  inside_then (Err fault) h = refl

  inside_never : (r : Result Open TextFault) (final : Gained) → ((next : Open) → r ≡ Ok next → reading known (n + 1) d next lines ≡ Ok final → ⊥)
      → (paired d r >>= λ next. reading known (n + 1) next.0 next.1 lines) ≡ Ok final → ⊥
  inside_never (Ok next) final h e = h next refl e
  inside_never (Err fault) final h e = cc

pub reading_closes : (known : Option Names) (n : ℕ) (d : Gained) (block : Open) (lines : List (List ℕ)) → 1 ≤ kind block → IsTrue (list_any is_end lines)
    → reading known n d block lines ≡ Filled known n d block lines
unfolding reading filling within
reading_closes known n d block [] h any = cc
reading_closes known n d block (line ∷ lines) h any =
    let s = stepped_open known n d block line (line ∷ lines) h in
    elim (cases_Bool (is_end line)) [
      | inl t ↦ rw s (rw t refl)
      | inr f ↦
          let more : IsTrue (list_any is_end lines) = rw f at any in
          rw s (rw f (inside_then known n d lines (inside known n block line (line ∷ until_end lines))
          (λ next e. reading_closes known (n + 1) d next lines (let k = kind_inside known n block line (line ∷ until_end lines) next e in omega (arith, k, h)) more)))
    ]

-- a block that is not closed gives nothing
pub reading_never_closes : (known : Option Names) (n : ℕ) (d : Gained) (block : Open) (lines : List (List ℕ)) (final : Gained) → 1 ≤ kind block → list_any is_end lines ≡ false
    → reading known n d block lines ≡ Ok final → ⊥
unfolding reading within
reading_never_closes known n d block [] final h none e = closed_open n block d final h e
reading_never_closes known n d block (line ∷ lines) final h none e = elim (cases_Bool (is_end line)) [
  | inl t ↦ let g = rw t at none in cc
  | inr f ↦
      let none_behind : list_any is_end lines ≡ false = rw f at none in
      let s = stepped_open known n d block line (line ∷ lines) h in
      let e1 = rw s at e in
      let e2 = rw f at e1 in
      inside_never known n d lines (inside known n block line (line ∷ until_end lines)) final
      (λ next i rest. reading_never_closes known (n + 1) d next lines final (let k = kind_inside known n block line (line ∷ until_end lines) next i in omega (arith, k, h)) none_behind rest) e2
]
