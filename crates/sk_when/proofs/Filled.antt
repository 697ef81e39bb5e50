-- The parts of a text, and how they fill lines.
use Rattle.std.proofs.Common.{ℕ, zero, suc, ◌≡◌, ◌==◌, ◌≤◌, ◌<◌, ◌-◌, ◌++◌, ◌&&◌, ◌||◌, nat_lt, Bool, true, false, if◌then◌else◌, List, [], ◌∷◌, length, take, drop, get_or, eqb, refl, ap, sym, ◌∙◌, append_assoc, arith}
use Rattle.std.proofs.Math.Nat.{sub-zero}
use Rattle.std.proofs.lemmas.Bool.{and_parts, eqb-true, lt-ltb, le-ltb}
use Rattle.std.specs.Str.{IsCharBoundary}
use Rattle.std.proofs.lemmas.Str.{IsCharBoundary-before_ascii}
use Rattle.sk_when.specs.Filling.{break_text, depth_behind, filled, joins, part_length, rest_of_part, room_of_line, until_operator}

either_has : (a b d : Bool) → ((a && b) || (a && d)) ≡ true → a ≡ true
either_has true b d e = refl
either_has false b d e = e

-- an operator begins with a blank
joins_blank : (c : ℕ) (text : List ℕ) → joins (c ∷ text) ≡ true → c ≡ 32
joins_blank c text e = sym (eqb-true 32 c (either_has (eqb 32 c) _ _ e))

within_if : (b : Bool) (n m : ℕ) → n ≤ m → (if b then 0 else suc n) ≤ suc m
within_if true n m within = omega arith
within_if false n m within = omega (arith, within)

-- a part ends within its text
until_within : (any : Bool) (depth : ℕ) (text : List ℕ) → until_operator any depth text ≤ length text
until_within any depth [] = omega arith
until_within any depth (c ∷ text) =
    within_if ((any || (depth == 0)) && joins (c ∷ text)) (until_operator any (depth_behind depth c) text) (length text) (until_within any (depth_behind depth c) text)

blank_if : (b : Bool) (n c : ℕ) (text : List ℕ) → (b ≡ true → c ≡ 32) → (n < length text → get_or text n 0 ≡ 32)
    → (if b then 0 else suc n) < suc (length text) → get_or (c ∷ text) (if b then 0 else suc n) 0 ≡ 32
blank_if true n c text blank other lt = blank refl
blank_if false n c text blank other lt = other (omega (arith, lt))

-- a part that others follow ends before a blank
until_blank : (any : Bool) (depth : ℕ) (text : List ℕ) → until_operator any depth text < length text → get_or text (until_operator any depth text) 0 ≡ 32
until_blank any depth [] lt = absurd (omega (arith, lt))
until_blank any depth (c ∷ text) lt =
    blank_if ((any || (depth == 0)) && joins (c ∷ text)) (until_operator any (depth_behind depth c) text) c text
    (λ e. joins_blank c text (and_parts (any || (depth == 0)) (joins (c ∷ text)) e).1) (until_blank any (depth_behind depth c) text) lt

abbrev IsCut : List ℕ → ℕ → Type 0
IsCut text n = (n ≤ length text) × (n < length text → get_or text n 0 ≡ 32)

cut_if : (b : Bool) (n m : ℕ) (text : List ℕ) → IsCut text n → IsCut text m → IsCut text (if b then n else m)
cut_if true n m text one other = one
cut_if false n m text one other = other

cut_behind : (room c : ℕ) (text : List ℕ) → IsCut text (rest_of_part room c text)
cut_behind room c text =
    let depth = depth_behind 0 c in
    cut_if (nat_lt (until_operator false depth text) room) (until_operator false depth text) (until_operator true depth text) text
    (until_within false depth text, until_blank false depth text) (until_within true depth text, until_blank true depth text)

-- a text may be cut behind its first part
pub part_boundary : (room : ℕ) (text : List ℕ) → IsCharBoundary text (part_length room text)
part_boundary room [] = (omega arith, λ lt. absurd (omega (arith, lt)))
part_boundary room (c ∷ text) =
    let cut = cut_behind room c text in (
      omega (arith, cut.0),
      λ lt. (IsCharBoundary-before_ascii (c ∷ text) (suc (rest_of_part room c text)) lt
          (let blank = cut.1 (omega (arith, lt)) in omega (arith, blank))).1 lt,
    )

pub part_within : (room : ℕ) (text : List ℕ) → part_length room text ≤ length text
part_within room text = (part_boundary room text).0

-- what is left of a part stands as it is
pub filled_part : (room n : ℕ) (text : List ℕ) → n ≤ length text → filled room n text ≡ take n text ++ filled (room - n) 0 (drop n text)
filled_part room zero text within = ap (λ k. filled k 0 text) (sym (sub-zero room))
filled_part room (suc n) [] within = absurd (omega (arith, within))
filled_part room (suc n) (c ∷ text) within =
    let same : room - 1 - n ≡ room - suc n = omega arith in
    ap (λ rest. c ∷ rest) (filled_part (room - 1) n text (omega (arith, within)) ∙ ap (λ k. take n text ++ filled k 0 (drop n text)) same)

-- a part stands behind the one before it if there is room
pub filled_here : (room : ℕ) (text : List ℕ) → part_length room_of_line text ≤ room → filled room 0 text ≡ filled room (part_length room_of_line text) text
filled_here room [] fits = refl
filled_here room (c ∷ text) fits =
    let rest = rest_of_part room_of_line c text in
    ap (λ b. if b then c ∷ filled (room - 1) rest text else break_text ++ (c ∷ filled (room_of_line - 1) rest text)) (lt-ltb rest room (omega (arith, fits)))

-- and else in the next line
pub filled_below : (room : ℕ) (text : List ℕ) → room < part_length room_of_line text
    → filled room 0 text ≡ break_text ++ filled room_of_line (part_length room_of_line text) text
filled_below room [] more = absurd (omega (arith, more))
filled_below room (c ∷ text) more =
    let rest = rest_of_part room_of_line c text in
    ap (λ b. if b then c ∷ filled (room - 1) rest text else break_text ++ (c ∷ filled (room_of_line - 1) rest text)) (le-ltb rest room (omega (arith, more)))

-- the first part of what is left, and what is behind it
pub record IsCutOff (rest part others : List ℕ) : Type 0 where
  pub first : part ≡ take (part_length room_of_line rest) rest
  pub behind : others ≡ drop (part_length room_of_line rest) rest
  pub long : length part ≡ part_length room_of_line rest

-- behind a text there is one part less to write
pub next_here : (text rest part others : List ℕ) (room : ℕ) → IsCutOff rest part others → length part ≤ room
    → (text ++ part) ++ filled (room - length part) 0 others ≡ text ++ filled room 0 rest
next_here text rest part others room cut fits =
    let n = part_length room_of_line rest in
    (λ i. (text ++ cut.first i) ++ filled (room - cut.long i) 0 (cut.behind i))
    ∙ append_assoc text (take n rest) (filled (room - n) 0 (drop n rest))
    ∙ ap (λ it. text ++ it) (sym (filled_here room rest (omega (arith, cut.long, fits)) ∙ filled_part room n rest (part_within room_of_line rest)))

pub next_below : (text rest part others : List ℕ) (room : ℕ) → IsCutOff rest part others → room < length part
    → ((text ++ break_text) ++ part) ++ filled (room_of_line - length part) 0 others ≡ text ++ filled room 0 rest
next_below text rest part others room cut more =
    let n = part_length room_of_line rest in
    (λ i. ((text ++ break_text) ++ cut.first i) ++ filled (room_of_line - cut.long i) 0 (cut.behind i))
    ∙ append_assoc (text ++ break_text) (take n rest) (filled (room_of_line - n) 0 (drop n rest))
    ∙ append_assoc text break_text (take n rest ++ filled (room_of_line - n) 0 (drop n rest))
    ∙ ap (λ it. text ++ it)
    (sym (filled_below room rest (omega (arith, cut.long, more)) ∙ ap (λ it. break_text ++ it) (filled_part room_of_line n rest (part_within room_of_line rest))))

pub first_here : (text condition part others : List ℕ) (room : ℕ) → part ≡ take (part_length room condition) condition
    → others ≡ drop (part_length room condition) condition → length part ≡ part_length room condition
    → (text ++ part) ++ filled (room - length part) 0 others ≡ text ++ filled room (part_length room condition) condition
first_here text condition part others room part_is others_is long =
    let n = part_length room condition in
    (λ i. (text ++ part_is i) ++ filled (room - long i) 0 (others_is i))
    ∙ append_assoc text (take n condition) (filled (room - n) 0 (drop n condition))
    ∙ ap (λ it. text ++ it) (sym (filled_part room n condition (part_within room condition)))
