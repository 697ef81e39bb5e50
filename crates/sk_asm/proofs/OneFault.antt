-- Lines have at most one first fault.
use Rattle.std.proofs.Common.{◌≡◌, ◌≤◌, ◌<◌, ◌-◌, ◌⊎◌, ◌∙◌, ap, arith, refl, sym, subst, ℕ, List, [], ◌∷◌, Some, None, Result, Ok, Err, length, inl, inr}
use Rattle.std.proofs.lemmas.Bool.{cases_lt, lt-ltb, le-leb, lt-leb}
use Rattle.sk_insn.specs.declared.insn.Insn.{Insn}
use Rattle.sk_text.specs.Lines.{lines_of}
use Rattle.sk_asm.specs.declared.fault.AsmFault.{AsmFault}
use Rattle.sk_asm.specs.declared.fault.AsmFault.TheVariants.{Line, Label, Twice, Far, Back, TooLong, Memory}
use Rattle.sk_asm.specs.Grammar.{Destination, Further, Labelled, Marks}
use Rattle.sk_asm.specs.Labels.{Labels, label_place}
use Rattle.sk_asm.specs.LineFaults.{said, size, destinations, instructions_said, labels_said, HasJumpFault, FirstJumpFault, AtLine, HasFault, stage_of, line_of, IsFirstFault, IsFirstTextFault}
use Rattle.sk_asm.specs.Passes.{landed, assembled_lines}
use Rattle.sk_asm.proofs.FirstFaults.{Behind, at_line, staged, cut_once, err_is, passes_find_the_first, no_fault_where_assembled}

-- ---- faults of jumps

landed-has : (labels : Labels) (n at most : ℕ) (name : List ℕ) (f : AsmFault) → HasJumpFault labels n at most (Labelled name) f → landed n at most (label_place labels name) ≡ Err f
landed-has labels n at most name (Label m) h = rw (h.1, h.0) refl
landed-has labels n at most name (Back m) h = let t = le-leb h.1.0 at h.1.2 in rw (h.1.1, t, h.0) refl
landed-has labels n at most name (Far m) h =
    let past = h.1.2 in
    let b = lt-leb h.1.0 at (omega (arith, past)) in
    let t = lt-ltb most (h.1.0 - at - 1) (omega (arith, past)) in
    rw (h.1.1, b, t, h.0) refl
landed-has labels n at most name (Line m) h = absurd h
landed-has labels n at most name (TooLong m) h = absurd h
landed-has labels n at most name (Twice m) h = absurd h
landed-has labels n at most name Memory h = absurd h

jump_once : (labels : Labels) (n at most : ℕ) (to : Destination) (f g : AsmFault) → HasJumpFault labels n at most to f → HasJumpFault labels n at most to g → f ≡ g
jump_once labels n at most (Further count) f g h k = absurd h
jump_once labels n at most (Labelled name) f g h k =
    err_is {X = ℕ} f g (sym (landed-has labels n at most name f h) ∙ landed-has labels n at most name g k)

jumps_once : (labels : Labels) (n at : ℕ) (to : List (ℕ × Destination)) (f g : AsmFault) → FirstJumpFault labels n at to f → FirstJumpFault labels n at to g → f ≡ g
jumps_once labels n at [] f g h k = absurd h
jumps_once labels n at (to ∷ others) f g h k = elim h [
  | inl x ↦ elim k [ inl y ↦ jump_once labels n at to.0 to.1 f g x y | inr y ↦ absurd (y.0 f x) ]
  | inr x ↦ elim k [ inl y ↦ absurd (x.0 g y) | inr y ↦ jumps_once labels n at others f g x.1 y.1 ]
]

-- ---- faults of a line by itself

says_nothing : (line : List ℕ) → 255 < length line → said line ≡ None
unfolding said
says_nothing line long = let t = lt-ltb 255 (length line) long in rw t refl

-- a line is not understood, or too long, or gives a label again: one of them
understood_or_long : (before : List (List ℕ)) (line : List ℕ) → (length line ≤ 255) × (said line ≡ None)
    → (255 < length line) ⊎ ((size (said line) ≡ 1) × (4096 ≤ instructions_said before)) → ⊥
understood_or_long before line h k = elim k [
  | inl long ↦ let short = h.0 in omega (arith, long, short)
  | inr full ↦ let none = ap size h.1 in let one = full.0 in omega (arith, none, one)
]

marks_or_long : (before : List (List ℕ)) (line name : List ℕ) → said line ≡ Some (Marks name)
    → (255 < length line) ⊎ ((size (said line) ≡ 1) × (4096 ≤ instructions_said before)) → ⊥
marks_or_long before line name h k = elim k [
  | inl long ↦ let none = says_nothing line long in cc
  | inr full ↦ let none = ap size h in let one = full.0 in omega (arith, none, one)
]

own_once : (labels : Labels) (before : List (List ℕ)) (line : List ℕ) (f g : AsmFault) → stage_of f ≡ 1 → stage_of g ≡ 1 → line_of f ≡ line_of g
    → Behind labels before line f → Behind labels before line g → f ≡ g
own_once labels before line (Line n) (Line m) s t e h k = ap Line e
own_once labels before line (Line n) (TooLong m) s t e h k = absurd (understood_or_long before line h k)
own_once labels before line (Line n) (Twice m) s t e h k = let none = h.1 in let some = k.1 in cc
own_once labels before line (TooLong n) (Line m) s t e h k = absurd (understood_or_long before line k h)
own_once labels before line (TooLong n) (TooLong m) s t e h k = ap TooLong e
own_once labels before line (TooLong n) (Twice m) s t e h k = absurd (marks_or_long before line k.0 k.1 h)
own_once labels before line (Twice n) (Line m) s t e h k = let none = k.1 in let some = h.1 in cc
own_once labels before line (Twice n) (TooLong m) s t e h k = absurd (marks_or_long before line h.0 h.1 k)
own_once labels before line (Twice n) (Twice m) s t e h k = ap Twice e
own_once labels before line (Label n) g s t e h k = absurd (omega arith)
own_once labels before line (Back n) g s t e h k = absurd (omega arith)
own_once labels before line (Far n) g s t e h k = absurd (omega arith)
own_once labels before line Memory g s t e h k = absurd h
own_once labels before line f (Label m) s t e h k = absurd (omega arith)
own_once labels before line f (Back m) s t e h k = absurd (omega arith)
own_once labels before line f (Far m) s t e h k = absurd (omega arith)
own_once labels before line f Memory s t e h k = absurd k

jumps_behind : (labels : Labels) (before : List (List ℕ)) (line : List ℕ) (f : AsmFault) → stage_of f ≡ 2 → Behind labels before line f
    → FirstJumpFault labels (line_of f) (instructions_said before) (destinations (said line)) f
jumps_behind labels before line (Label n) s h = h
jumps_behind labels before line (Back n) s h = h
jumps_behind labels before line (Far n) s h = h
jumps_behind labels before line (Line n) s h = absurd (omega arith)
jumps_behind labels before line (TooLong n) s h = absurd (omega arith)
jumps_behind labels before line (Twice n) s h = absurd (omega arith)
jumps_behind labels before line Memory s h = absurd h

-- ---- faults of lines

module _ (first : ℕ) (lines : List (List ℕ)) where
  same_line : (n : ℕ) (P Q : List (List ℕ) → List ℕ → Type 0) → AtLine first lines n P → AtLine first lines n Q → (before : List (List ℕ)) × ((line : List ℕ) × (P before line × Q before line))
  same_line n P Q h k =
      let a = h.1.1.2 in
      let b = k.1.1.2 in
      let one = cut_once k.0 h.0 k.1.1.0 h.1.1.0 k.1.0 h.1.0 (sym k.1.1.1 ∙ h.1.1.1) (omega (arith, a, b)) in
      (h.0, (h.1.0, (h.1.1.3, subst (λ before. Q before h.1.0) one.0 (subst (Q k.0) one.1 k.1.1.3))))

  one_of_a_line : (f g : AsmFault) → stage_of f ≡ stage_of g → line_of f ≡ line_of g → HasFault first lines f → HasFault first lines g → f ≡ g
  one_of_a_line f g s e h k =
      let both = same_line (line_of f) _ _ (at_line first lines f h) (subst (λ n. AtLine first lines n (λ before line. Behind (labels_said 0 lines) before line g)) (sym e) (at_line first lines g k)) in
      elim (staged first lines f h) [
        | inl one ↦ own_once (labels_said 0 lines) both.0 both.1.0 f g one (sym s ∙ one) e both.1.1.0 both.1.1.1
        | inr two ↦
            let jump = jumps_behind (labels_said 0 lines) both.0 both.1.0 g (sym s ∙ two) both.1.1.1 in
            jumps_once (labels_said 0 lines) (line_of f) (instructions_said both.0) (destinations (said both.1.0)) f g
            (jumps_behind (labels_said 0 lines) both.0 both.1.0 f two both.1.1.0)
            (subst (λ n. FirstJumpFault (labels_said 0 lines) n (instructions_said both.0) (destinations (said both.1.0)) g) (sym e) jump)
      ]

  pub one_first_fault : (f g : AsmFault) → IsFirstFault first lines f → IsFirstFault first lines g → f ≡ g
  one_first_fault f g h k = elim (cases_lt (stage_of f) (stage_of g)) [
    | inl less ↦ absurd (k.1 f (inl less) h.0)
    | inr more ↦ elim (cases_lt (stage_of g) (stage_of f)) [
      | inl less ↦ absurd (h.1 g (inl less) k.0)
      | inr no_more ↦
          let s : stage_of f ≡ stage_of g = omega (arith, more, no_more) in
          elim (cases_lt (line_of f) (line_of g)) [
            | inl before ↦ absurd (k.1 f (inr (s, before)) h.0)
            | inr behind ↦ elim (cases_lt (line_of g) (line_of f)) [
              | inl before ↦ absurd (h.1 g (inr (sym s, before)) k.0)
              | inr no_further ↦ one_of_a_line f g s (omega (arith, behind, no_further)) h.0 k.0
            ]
          ]
    ]
  ]

  -- the passes find the one that there is
  pub first_is_found : (f : AsmFault) → IsFirstFault first lines f → assembled_lines first lines ≡ Err f
  first_is_found f h = by_answer (assembled_lines first lines) refl
    where
      by_answer : (answer : Result (List Insn) AsmFault) → assembled_lines first lines ≡ answer → assembled_lines first lines ≡ Err f
      by_answer (Ok insns) e = absurd (no_fault_where_assembled first lines insns f e h.0)
      by_answer (Err g) e = e ∙ ap Err (one_first_fault g f (passes_find_the_first first lines g e) h)

-- of a text
pub one_first_text_fault : (text : List ℕ) (f g : AsmFault) → IsFirstTextFault text f → IsFirstTextFault text g → f ≡ g
one_first_text_fault text f g h k = elim h [
  | inl long ↦ elim k [ inl also ↦ long.1 ∙ sym also.1 | inr short ↦ let a = long.0 in let b = short.0 in absurd (omega (arith, a, b)) ]
  | inr short ↦ elim k [
    | inl long ↦ let a = long.0 in let b = short.0 in absurd (omega (arith, a, b))
    | inr also ↦ one_first_fault 1 (lines_of text) f g short.1 also.1
  ]
]
