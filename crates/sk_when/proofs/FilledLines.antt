-- The lines of a filled condition, joined again and measured.
use Rattle.std.proofs.Common.{ℕ, zero, suc, ◌≡◌, ◌≢◌, ◌≤◌, ◌<◌, ◌+◌, ◌-◌, ◌++◌, ◌&&◌, nat_lt, nat_le, Bool, true, false, if◌then◌else◌, List, [], ◌∷◌, refl, ap, sym, ◌∙◌, arith}
use Rattle.std.proofs.lemmas.Bool.{ltb-true, le-leb, ne_eqb}
use Rattle.sk_when.specs.Filling.{break_text, depth_behind, filled, filled_behind, joins, most_columns, part_length, rest_of_part, room_of_line, until_operator}
use Rattle.sk_when.specs.FillingLaws.{joined, are_within, HasNoLineFeed, HasShortParts, JoiningGivesBack, LinesAreWithin, FillingWorks}

pub filling_works : FillingWorks
unfolding filled_behind
filling_works = record { fits = refl; goes_on = refl; whole = refl; parted = refl; third = refl }

other_joined : (c : ℕ) (text : List ℕ) → c ≢ 10 → joined 0 (c ∷ text) ≡ c ∷ joined 0 text
other_joined c text other = ap (λ b. if b then joined 5 text else c ∷ joined 0 text) (ne_eqb c 10 other)

joined_if : (b : Bool) (c : ℕ) (here below text : List ℕ) → c ≢ 10 → joined 0 here ≡ text → joined 0 below ≡ text
    → joined 0 (if b then c ∷ here else break_text ++ (c ∷ below)) ≡ c ∷ text
joined_if true c here below text other one two = other_joined c here other ∙ ap (λ it. c ∷ it) one
joined_if false c here below text other one two = other_joined c below other ∙ ap (λ it. c ∷ it) two

joined_filled : (room left : ℕ) (text : List ℕ) → HasNoLineFeed text → joined 0 (filled room left text) ≡ text
joined_filled room left [] none = refl
joined_filled room (suc left) (c ∷ text) none = other_joined c (filled (room - 1) left text) none.0 ∙ ap (λ it. c ∷ it) (joined_filled (room - 1) left text none.1)
joined_filled room zero (c ∷ text) none =
    let rest = rest_of_part room_of_line c text in
    joined_if (nat_lt rest room) c (filled (room - 1) rest text) (filled (room_of_line - 1) rest text) text none.0
    (joined_filled (room - 1) rest text none.1) (joined_filled (room_of_line - 1) rest text none.1)

pub joining_gives_back : JoiningGivesBack
unfolding filled_behind
joining_gives_back column condition = joined_filled (most_columns - column) (part_length (most_columns - column) condition) condition

-- up to any operator it is as far, whatever brackets are open
any_depth : (one other : ℕ) (text : List ℕ) → until_operator true one text ≡ until_operator true other text
any_depth one other [] = refl
any_depth one other (c ∷ text) = ap (λ n. if joins (c ∷ text) then 0 else suc n) (any_depth (depth_behind one c) (depth_behind other c) text)

shorter_if : (b : Bool) (outer inner room : ℕ) → b ≡ nat_lt outer room → inner < room → (if b then outer else inner) < room
shorter_if true outer inner room is short = ltb-true outer room (sym is)
shorter_if false outer inner room is short = short

-- a part fits into the room if there is an operator before it is full
part_fits : (room c : ℕ) (text : List ℕ) → until_operator true 0 text < room → rest_of_part room c text < room
part_fits room c text short =
    let outer = until_operator false (depth_behind 0 c) text in
    let same = any_depth (depth_behind 0 c) 0 text in
    shorter_if (nat_lt outer room) outer (until_operator true (depth_behind 0 c) text) room refl (omega (arith, same, short))

other_within : (column c : ℕ) (text : List ℕ) → c ≢ 10 → are_within (column + 1) text ≡ true → are_within column (c ∷ text) ≡ true
other_within column c text other within =
    ap (λ b. if b then nat_le column most_columns && are_within 0 text else are_within (column + 1) text) (ne_eqb c 10 other) ∙ within

break_within : (column : ℕ) (text : List ℕ) → column ≤ most_columns → are_within 5 text ≡ true → are_within column (break_text ++ text) ≡ true
break_within column text fits within = ap (λ b. b && are_within 5 text) (le-leb column most_columns fits) ∙ within

within_if : (b : Bool) (column c : ℕ) (here below : List ℕ) → column ≤ most_columns → c ≢ 10 → (b ≡ true → are_within (column + 1) here ≡ true)
    → are_within 6 below ≡ true → are_within column (if b then c ∷ here else break_text ++ (c ∷ below)) ≡ true
within_if true column c here below fits other one two = other_within column c here other (one refl)
within_if false column c here below fits other one two = break_within column (c ∷ below) fits (other_within 5 c below other two)

within_filled : (column room left : ℕ) (text : List ℕ) → column + room ≡ most_columns → left ≤ room → HasNoLineFeed text → HasShortParts text
    → are_within column (filled room left text) ≡ true
within_filled column room left [] sum fits none short = le-leb column most_columns (omega (arith, sum))
within_filled column room (suc left) (c ∷ text) sum fits none short =
    other_within column c (filled (room - 1) left text) none.0
    (within_filled (column + 1) (room - 1) left text (omega (arith, sum, fits)) (omega (arith, fits)) none.1 short.1)
within_filled column room zero (c ∷ text) sum fits none short =
    let rest = rest_of_part room_of_line c text in
    let part = part_fits room_of_line c text short.0 in
    within_if (nat_lt rest room) column c (filled (room - 1) rest text) (filled (room_of_line - 1) rest text) (omega (arith, sum)) none.0
    (λ is. let less = ltb-true rest room is in
    within_filled (column + 1) (room - 1) rest text (omega (arith, sum, less)) (omega (arith, less)) none.1 short.1)
    (within_filled 6 (room_of_line - 1) rest text refl (omega (arith, part)) none.1 short.1)

pub lines_are_within : LinesAreWithin
unfolding filled_behind
lines_are_within column c text none short first =
    let part = part_fits (most_columns - column) c text (omega (arith, first)) in
    within_filled column (most_columns - column) (suc (rest_of_part (most_columns - column) c text)) (c ∷ text) (omega (arith, first)) (omega (arith, part)) none short
