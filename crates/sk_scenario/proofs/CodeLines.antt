-- A fault of the assembler is told of one of its lines.
use Rattle.std.proofs.Common.{◌≡◌, ◌≤◌, ◌<◌, ◌+◌, ◌-◌, arith, refl, subst, ℕ, List, [], ◌∷◌, Option, Some, None, is_some, Result, Ok, Err, length, nat_le, nat_lt, inl, inr, ◌⊎◌, ◌^◌}
use Rattle.sk_scenario.proofs.Common.{option_len, cases_Bool, list_all, is_printable_byte, AsmFault, Destination, Further, Labelled, Statement, Marks, Plain, Jumps, Branches, insn, statement_of, counted, noted, labelled, landed, distance, in_front, emitted, assembled_lines}
use Rattle.sk_asm.specs.declared.fault.AsmFault.TheVariants.{Line, Label, Twice, Far, Back, TooLong, Memory}
use Rattle.sk_asm.specs.Faults.{◌>>=◌}
use Rattle.sk_asm.specs.Grammar.{Silent}
use Rattle.sk_asm.specs.Labels.{Labels, label_place}
use Rattle.sk_asm.specs.Passes.{understood, checked, resolved}

-- the fault is told of a line from `first` on that stands before `last`
abbrev pub IsWithin : ℕ → ℕ → AsmFault → Type 0
IsWithin first last (Line n) = (first ≤ n) × (n < last)
IsWithin first last (Label n) = (first ≤ n) × (n < last)
IsWithin first last (Twice n) = (first ≤ n) × (n < last)
IsWithin first last (Far n) = (first ≤ n) × (n < last)
IsWithin first last (Back n) = (first ≤ n) × (n < last)
IsWithin first last (TooLong n) = (first ≤ n) × (n < last)
IsWithin first last Memory = ⊥

module _ (first last : ℕ) (fault : AsmFault) (n m : ℕ) (low : n ≤ first) (high : last ≤ m) where
  between : (k : ℕ) → (first ≤ k) × (k < last) → (n ≤ k) × (k < m)
  between k h = let a = h.0 in let b = h.1 in (omega (arith, low, a), omega (arith, high, b))

wider : (first last n m : ℕ) (fault : AsmFault) → n ≤ first → last ≤ m → IsWithin first last fault → IsWithin n m fault
wider first last n m (Line k) low high h = between first last (Line k) n m low high k h
wider first last n m (Label k) low high h = between first last (Label k) n m low high k h
wider first last n m (Twice k) low high h = between first last (Twice k) n m low high k h
wider first last n m (Far k) low high h = between first last (Far k) n m low high k h
wider first last n m (Back k) low high h = between first last (Back k) n m low high k h
wider first last n m (TooLong k) low high h = between first last (TooLong k) n m low high k h
wider first last n m Memory low high h = h

err_is : {X : Type 0} (x y : AsmFault) → ◌≡◌ {A = Result X AsmFault} (Err x) (Err y) → x ≡ y
err_is x y h = cc

bind_err : {X Y : Type 0} (first : Result X AsmFault) (next : X → Result Y AsmFault) (fault : AsmFault) → (first >>= next) ≡ Err fault → (first ≡ Err fault) ⊎ ((x : X) × (first ≡ Ok x) × (next x ≡ Err fault))
bind_err (Ok x) next fault h = inr (x, refl, h)
bind_err (Err other) next fault h = inl (ap_err other fault h)
  where
    ap_err : {X Y : Type 0} (x y : AsmFault) → ◌≡◌ {A = Result Y AsmFault} (Err x) (Err y) → ◌≡◌ {A = Result X AsmFault} (Err x) (Err y)
    ap_err x y h = cc

module _ (n : ℕ) where
  understood-here : (o : Option Statement) (fault : AsmFault) → understood n o ≡ Err fault → IsWithin n (n + 1) fault
  understood-here None fault h = subst (IsWithin n (n + 1)) (err_is {X = Statement} (Line n) fault h) (omega arith, omega arith)
  understood-here (Some statement) fault h = cc

  checked-here : (line : List ℕ) (fault : AsmFault) → checked n line ≡ Err fault → IsWithin n (n + 1) fault
  unfolding checked
  checked-here line fault h = elim (cases_Bool (nat_lt 255 (length line))) [
    | inl long ↦ subst (IsWithin n (n + 1)) (err_is {X = Statement} (TooLong n) fault (rw long at h)) (omega arith, omega arith)
    | inr short ↦
        let g = rw short at h in
        elim (cases_Bool (list_all is_printable_byte line)) [
          | inl good ↦ understood-here (statement_of line) fault (rw good at g)
          | inr bad ↦ subst (IsWithin n (n + 1)) (err_is {X = Statement} (Line n) fault (rw bad at g)) (omega arith, omega arith)
        ]
  ]

  counted-here : (labels : Labels) (at : ℕ) (fault : AsmFault) → counted n labels at ≡ Err fault → IsWithin n (n + 1) fault
  counted-here labels at fault h = elim (cases_Bool (nat_lt at 4096)) [
    | inl room ↦ let g = rw room at h in cc
    | inr full ↦ subst (IsWithin n (n + 1)) (err_is {X = Labels × ℕ} (TooLong n) fault (rw full at h)) (omega arith, omega arith)
  ]

  noted-here : (labels : Labels) (at : ℕ) (statement : Statement) (fault : AsmFault) → noted n labels at statement ≡ Err fault → IsWithin n (n + 1) fault
  unfolding noted
  noted-here labels at Silent fault h = cc
  noted-here labels at (Marks name) fault h = elim (cases_Bool (is_some (label_place labels name))) [
    | inl again ↦ subst (IsWithin n (n + 1)) (err_is {X = Labels × ℕ} (Twice n) fault (rw again at h)) (omega arith, omega arith)
    | inr once ↦ let g = rw once at h in cc
  ]
  noted-here labels at (Plain given) fault h = counted-here labels at fault h
  noted-here labels at (Jumps code to) fault h = counted-here labels at fault h
  noted-here labels at (Branches code k jt jf) fault h = counted-here labels at fault h

  landed-here : (at most : ℕ) (place : Option ℕ) (fault : AsmFault) → landed n at most place ≡ Err fault → IsWithin n (n + 1) fault
  landed-here at most None fault h = subst (IsWithin n (n + 1)) (err_is {X = ℕ} (Label n) fault h) (omega arith, omega arith)
  landed-here at most (Some place) fault h = elim (cases_Bool (nat_le place at)) [
    | inl back ↦ subst (IsWithin n (n + 1)) (err_is {X = ℕ} (Back n) fault (rw back at h)) (omega arith, omega arith)
    | inr ahead ↦
        let g = rw ahead at h in
        elim (cases_Bool (nat_lt most (place - at - 1))) [
          | inl far ↦ subst (IsWithin n (n + 1)) (err_is {X = ℕ} (Far n) fault (rw far at g)) (omega arith, omega arith)
          | inr near ↦ let e = rw near at g in cc
        ]
  ]

  distance-here : (labels : Labels) (at most : ℕ) (to : Destination) (fault : AsmFault) → distance labels n at most to ≡ Err fault → IsWithin n (n + 1) fault
  unfolding distance
  distance-here labels at most (Further count) fault h = cc
  distance-here labels at most (Labelled name) fault h = landed-here at most (label_place labels name) fault h

  resolved-here : (labels : Labels) (at : ℕ) (statement : Statement) (fault : AsmFault) → resolved labels n at statement ≡ Err fault → IsWithin n (n + 1) fault
  unfolding resolved
  resolved-here labels at Silent fault h = cc
  resolved-here labels at (Marks name) fault h = cc
  resolved-here labels at (Plain given) fault h = cc
  resolved-here labels at (Jumps code to) fault h = elim (bind_err (distance labels n at (2 ^ 32 - 1) to) (λ k. Ok (Some (insn code 0 0 k))) fault h) [
    | inl e ↦ distance-here labels at (2 ^ 32 - 1) to fault e
    | inr rest ↦ let e = rest.2 in absurd cc
  ]
  resolved-here labels at (Branches code k jt jf) fault h = elim (bind_err (distance labels n at 255 jt) (λ t. distance labels n at 255 jf >>= λ f. Ok (Some (insn code t f k))) fault h) [
    | inl e ↦ distance-here labels at 255 jt fault e
    | inr rest ↦ elim (bind_err (distance labels n at 255 jf) (λ f. Ok (Some (insn code rest.0 f k))) fault rest.2) [
      | inl e ↦ distance-here labels at 255 jf fault e
      | inr more ↦ let e = more.2 in absurd cc
    ]
  ]

labelled-within : (n : ℕ) (labels : Labels) (at : ℕ) (lines : List (List ℕ)) (fault : AsmFault) → labelled n labels at lines ≡ Err fault → IsWithin n (n + length lines) fault
unfolding labelled
labelled-within n labels at [] fault h = cc
labelled-within n labels at (line ∷ lines) fault h =
    elim (bind_err (checked n line) (λ statement. noted n labels at statement >>= λ next. labelled (n + 1) next.0 next.1 lines) fault h) [
      | inl e ↦ wider n (n + 1) n (n + length (line ∷ lines)) fault (omega arith) (omega arith) (checked-here n line fault e)
      | inr rest ↦ elim (bind_err (noted n labels at rest.0) (λ next. labelled (n + 1) next.0 next.1 lines) fault rest.2) [
        | inl e ↦ wider n (n + 1) n (n + length (line ∷ lines)) fault (omega arith) (omega arith) (noted-here n labels at rest.0 fault e)
        | inr more ↦ wider (n + 1) (n + 1 + length lines) n (n + length (line ∷ lines)) fault (omega arith) (omega arith) (labelled-within (n + 1) more.0.0 more.0.1 lines fault more.2)
      ]
    ]

emitted-within : (labels : Labels) (n at : ℕ) (lines : List (List ℕ)) (fault : AsmFault) → emitted labels n at lines ≡ Err fault → IsWithin n (n + length lines) fault
unfolding emitted
emitted-within labels n at [] fault h = cc
emitted-within labels n at (line ∷ lines) fault h =
    elim (bind_err (checked n line) (λ statement. resolved labels n at statement >>= λ given. emitted labels (n + 1) (at + option_len given) lines >>= λ insns. Ok (in_front given insns)) fault h) [
      | inl e ↦ wider n (n + 1) n (n + length (line ∷ lines)) fault (omega arith) (omega arith) (checked-here n line fault e)
      | inr rest ↦ elim (bind_err (resolved labels n at rest.0) (λ given. emitted labels (n + 1) (at + option_len given) lines >>= λ insns. Ok (in_front given insns)) fault rest.2) [
        | inl e ↦ wider n (n + 1) n (n + length (line ∷ lines)) fault (omega arith) (omega arith) (resolved-here n labels at rest.0 fault e)
        | inr more ↦ elim (bind_err (emitted labels (n + 1) (at + option_len more.0) lines) (λ insns. Ok (in_front more.0 insns)) fault more.2) [
          | inl e ↦ wider (n + 1) (n + 1 + length lines) n (n + length (line ∷ lines)) fault (omega arith) (omega arith) (emitted-within labels (n + 1) (at + option_len more.0) lines fault e)
          | inr last ↦ let e = last.2 in absurd cc
        ]
      ]
    ]

pub assembled-within : (n : ℕ) (lines : List (List ℕ)) (fault : AsmFault) → assembled_lines n lines ≡ Err fault → IsWithin n (n + length lines) fault
unfolding assembled_lines
assembled-within n lines fault h = elim (bind_err (labelled n [] 0 lines) (λ labels. emitted labels n 0 lines) fault h) [
  | inl e ↦ labelled-within n [] 0 lines fault e
  | inr rest ↦ emitted-within rest.0 n 0 lines fault rest.2
]
