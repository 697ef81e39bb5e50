-- A text is cut at a byte, arguments are read one by one, and their parts too.
use Rattle.std.proofs.Common.{◌≡◌, ◌<◌, ◌≤◌, ◌+◌, ◌==◌, ◌++◌, ◌∙◌, ap, arith, sym, refl, inl, inr, ℕ, List, [], ◌∷◌, length, count_by, set, bit_or, Option, Some, None, Result, Ok, Err, replicate, subst, length-take, append_assoc}
use Rattle.std.proofs.lemmas.Bool.{lt-ltb, le-ltb, cases_lt}
use Rattle.std.proofs.lemmas.List.Sums.{fails_before_first}
use Rattle.std.proofs.lemmas.Option.{none-some, some_pair_parts}
use Rattle.std.proofs.lemmas.List.Splits.{length-slice_split, slice_split_first, slice_split_none}
use Rattle.std.specs.Prelude.{⊤}
use Rattle.std.specs.List.{after_first, before_first, position_or_len}
use Rattle.sk_replay.specs.Faults.{Fault, wrong}
use Rattle.sk_replay.specs.CallWords.{◌&>◌, ◌>>=◌, address_text, argument_of, cut_all, cut_at, in_place, left_of, numbers_from, part_of, plain_of, six_of, six_or_fault, with_addresses, with_bits}

-- ---- cuts

pub cut_found : (byte : ℕ) (text before behind : List ℕ) → before ≡ before_first (λ b. b == byte) text → behind ≡ after_first (λ b. b == byte) text
    → length before < length text → Some (before, behind) ≡ cut_at byte text
cut_found byte text before behind front back shorter =
    let n = position_or_len (λ b. b == byte) text in
    let len = ap length front ∙ length-take n text in
    let t = lt-ltb n (length text) (omega (arith, len)) in
    rw (t, front, back) refl

pub cut_none : (byte : ℕ) (text before : List ℕ) → before ≡ before_first (λ b. b == byte) text → length text ≤ length before → None ≡ cut_at byte text
cut_none byte text before front longer =
    let n = position_or_len (λ b. b == byte) text in
    let len = ap length front ∙ length-take n text in
    let f = le-ltb n (length text) (omega (arith, len)) in
    rw f refl

-- ---- pieces

pub left_behind : (byte : ℕ) (text piece rest : List ℕ) → Some (piece, rest) ≡ cut_at byte text → cut_all byte text ≡ piece ∷ cut_all byte rest
left_behind byte text piece rest h = elim (cases_lt (position_or_len (λ b. b == byte) text) (length text)) [
  | inl lt ↦
      let t = lt-ltb (position_or_len (λ b. b == byte) text) (length text) lt in
      let e : Some (piece, rest) ≡ Some (before_first (λ b. b == byte) text, after_first (λ b. b == byte) text) = rw t at h in
      let parts = some_pair_parts _ _ _ _ e in
      slice_split_first (λ b. b == byte) text 0 lt ∙ sym (rw (parts.0, parts.1) refl)
  | inr ge ↦
      let f = le-ltb (position_or_len (λ b. b == byte) text) (length text) ge in
      let e : Some (piece, rest) ≡ None = rw f at h in
      absurd (none-some (piece, rest) (sym e))
]

pub none_left : (byte : ℕ) (text : List ℕ) → None ≡ cut_at byte text → cut_all byte text ≡ text ∷ []
none_left byte text h = elim (cases_lt (position_or_len (λ b. b == byte) text) (length text)) [
  | inl lt ↦
      let t = lt-ltb (position_or_len (λ b. b == byte) text) (length text) lt in
      let e : None ≡ Some (before_first (λ b. b == byte) text, after_first (λ b. b == byte) text) = rw t at h in
      absurd (none-some (before_first (λ b. b == byte) text, after_first (λ b. b == byte) text) e)
  | inr ge ↦ slice_split_none (λ b. b == byte) text (λ k d within. fails_before_first (λ b. b == byte) text k d (omega arith))
]

pub length_cut : (text : List ℕ) → length (cut_all 44 text) ≡ count_by (λ b. b == 44) text + 1
length_cut text = length-slice_split (λ b. b == 44) text

-- ---- arguments

-- these numbers, in their places from one on
abbrev pub filled : ℕ → List ℕ → List ℕ → List ℕ
filled count args [] = args
filled count args (number ∷ numbers) = filled (count + 1) (set args count number) numbers

-- what the texts make that are left, where so many arguments are read
abbrev pub placed : ℕ → List ℕ → List (List ℕ) → Result (List ℕ) Fault
placed count args texts = numbers_from (count + 1) texts &> λ numbers. Ok (filled count args numbers)

one_more : (count number : ℕ) (args : List ℕ) (numbers : Result (List ℕ) Fault)
    → ((numbers &> λ numbers. Ok (number ∷ numbers)) &> λ numbers. Ok (filled count args numbers))
    ≡ (numbers &> λ numbers. Ok (filled (count + 1) (set args count number) numbers))
one_more count number args (Ok numbers) = refl
one_more count number args (Err fault) = refl

pub placed-right : (count number : ℕ) (args text : List ℕ) (texts : List (List ℕ)) → Ok number ≡ argument_of text
    → placed count args (text ∷ texts) ≡ placed (count + 1) (set args count number) texts
placed-right count number args text texts h = rw (← h) (one_more count number args (numbers_from (count + 1 + 1) texts))

pub placed-wrong : (count : ℕ) (args text part : List ℕ) (left texts : List (List ℕ)) (total : Result (List ℕ) Fault) → left ≡ text ∷ texts
    → Err part ≡ argument_of text → placed count args left ≡ total → Err (wrong (count + 1) part) ≡ total
placed-wrong count args text part left texts total cut h so_far =
    let stops : placed count args (text ∷ texts) ≡ Err (wrong (count + 1) part) = rw (← h) refl in
    sym stops ∙ sym (ap (placed count args) cut) ∙ so_far

-- none is read yet
abbrev pub zeros : List ℕ
zeros = replicate 6 0

filled-six : (numbers : List ℕ) → length numbers ≤ 6 → filled 0 zeros numbers ≡ six_of numbers
filled-six [] h = refl
filled-six (a ∷ []) h = refl
filled-six (a ∷ b ∷ []) h = refl
filled-six (a ∷ b ∷ c ∷ []) h = refl
filled-six (a ∷ b ∷ c ∷ d ∷ []) h = refl
filled-six (a ∷ b ∷ c ∷ d ∷ e ∷ []) h = refl
filled-six (a ∷ b ∷ c ∷ d ∷ e ∷ f ∷ []) h = refl
filled-six (a ∷ b ∷ c ∷ d ∷ e ∷ f ∷ g ∷ numbers) h = absurd (omega arith)

-- no more numbers than texts
abbrev AreFew : ℕ → Result (List ℕ) Fault → Type 0
AreFew most (Ok numbers) = length numbers ≤ most
AreFew most (Err fault) = ⊤

few_then : (most number : ℕ) (numbers : Result (List ℕ) Fault) → AreFew most numbers → AreFew (most + 1) (numbers &> λ numbers. Ok (number ∷ numbers))
few_then most number (Ok numbers) few = omega (arith, few)
few_then most number (Err fault) few = tt

few_next : (most place : ℕ) (first : Result ℕ (List ℕ)) (numbers : Result (List ℕ) Fault) → AreFew most numbers
    → AreFew (most + 1) (in_place place first &> λ number. numbers &> λ numbers. Ok (number ∷ numbers))
few_next most place (Ok number) numbers few = few_then most number numbers few
few_next most place (Err part) numbers few = tt

few_numbers : (place : ℕ) (texts : List (List ℕ)) → AreFew (length texts) (numbers_from place texts)
few_numbers place [] = omega arith
few_numbers place (text ∷ texts) =
    subst (λ most. AreFew most (numbers_from place (text ∷ texts))) (omega arith)
    (few_next (length texts) place (argument_of text) (numbers_from (place + 1) texts) (few_numbers (place + 1) texts))

all_filled : (most : ℕ) (numbers : Result (List ℕ) Fault) → AreFew most numbers → most ≤ 6
    → (numbers &> λ numbers. Ok (filled 0 zeros numbers)) ≡ (numbers &> λ numbers. Ok (six_of numbers))
all_filled most (Ok numbers) few six = ap Ok (filled-six numbers (omega (arith, few, six)))
all_filled most (Err fault) few six = refl

pub placed_all : (texts : List (List ℕ)) → length texts ≤ 6 → placed 0 zeros texts ≡ six_or_fault texts
placed_all texts few = all_filled (length texts) (numbers_from 1 texts) (few_numbers 1 texts) few

-- ---- parts

pub bits-right : (bits more : ℕ) (part : List ℕ) (left parts : List (List ℕ)) (total : Result ℕ (List ℕ)) → left ≡ part ∷ parts
    → Ok more ≡ part_of part → with_bits bits left ≡ total → with_bits (bit_or bits more) parts ≡ total
bits-right bits more part left parts total cut h so_far =
    let goes_on : with_bits bits (part ∷ parts) ≡ with_bits (bit_or bits more) parts = rw (← h) refl in
    sym goes_on ∙ sym (ap (with_bits bits) cut) ∙ so_far

pub bits-wrong : (bits : ℕ) (part text : List ℕ) (left parts : List (List ℕ)) (total : Result ℕ (List ℕ)) → left ≡ part ∷ parts
    → Err text ≡ part_of part → with_bits bits left ≡ total → Err text ≡ total
bits-wrong bits part text left parts total cut h so_far =
    let stops : with_bits bits (part ∷ parts) ≡ Err text = rw (← h) refl in
    sym stops ∙ sym (ap (with_bits bits) cut) ∙ so_far

-- ---- texts in double quotes

-- a text behind those that are done
abbrev pub behind : List ℕ → Option (List ℕ) → Option (List ℕ)
behind done rest = rest >>= λ more. Some (done ++ more)

behind_more : (done outside : List ℕ) (rest : Option (List ℕ))
    → behind done (rest >>= λ more. Some (outside ++ (address_text ++ more))) ≡ behind ((done ++ outside) ++ address_text) rest
behind_more done outside None = refl
behind_more done outside (Some more) = ap Some (sym (append_assoc (done ++ outside) address_text more ∙ append_assoc done outside (address_text ++ more)))

pub quoted-next : (done rest outside left inside after : List ℕ) → Some (outside, left) ≡ cut_at 34 rest → Some (inside, after) ≡ cut_at 34 left
    → behind done (with_addresses (cut_all 34 rest)) ≡ behind ((done ++ outside) ++ address_text) (with_addresses (cut_all 34 after))
quoted-next done rest outside left inside after first second =
    rw (left_behind 34 rest outside left first, left_behind 34 left inside after second)
    (behind_more done outside (with_addresses (cut_all 34 after)))

pub quoted-open : (done rest outside left : List ℕ) → Some (outside, left) ≡ cut_at 34 rest → None ≡ cut_at 34 left
    → behind done (with_addresses (cut_all 34 rest)) ≡ None
quoted-open done rest outside left first second = rw (left_behind 34 rest outside left first, none_left 34 left second) refl

pub quoted-end : (done rest : List ℕ) → None ≡ cut_at 34 rest → behind done (with_addresses (cut_all 34 rest)) ≡ Some (done ++ rest)
quoted-end done rest none = rw (none_left 34 rest none) refl

pub plain_from : (word : List ℕ) → behind [] (with_addresses (cut_all 34 word)) ≡ plain_of word
unfolding plain_of
plain_from word = from (with_addresses (cut_all 34 word)) where
  from : (all : Option (List ℕ)) → behind [] all ≡ all
  from None = refl
  from (Some plain) = refl
