-- How a long condition is written in several lines: it goes on behind a blank margin, with an operator that joins conditions.
use Rattle.std.specs.Prelude.{ℕ, zero, suc, ◌==◌, ◌+◌, ◌-◌, ◌++◌, ◌&&◌, ◌||◌, nat_lt, Bool, true, false, if◌then◌else◌, List, [], ◌∷◌, codes, eqb}
use Rattle.std.specs.List.{starts_with}

-- the most columns of a line
abbrev pub most_columns : ℕ
most_columns = 110

-- what stands between the lines: the margin, to which the blank before the operator belongs
abbrev pub break_text : List ℕ
break_text = codes "\n     "

-- the room behind it
abbrev pub room_of_line : ℕ
room_of_line = 105

-- an operator that joins conditions stands here
abbrev pub joins : List ℕ → Bool
joins text = starts_with eqb text (codes " || ") || starts_with eqb text (codes " && ")

-- how many brackets are open behind a character
abbrev pub depth_behind : ℕ → ℕ → ℕ
depth_behind depth c = if c == 40 then depth + 1 else if c == 41 then depth - 1 else depth

-- how much stands before the next such operator, or the next one outside of brackets
abbrev pub until_operator : Bool → ℕ → List ℕ → ℕ
until_operator any depth [] = 0
until_operator any depth (c ∷ text) =
    if (any || (depth == 0)) && joins (c ∷ text) then 0 else suc (until_operator any (depth_behind depth c) text)

-- how much belongs to the first part of a text behind its first character: what stands before an operator outside of its brackets, or
-- before any one where that does not fit into the room
abbrev pub rest_of_part : ℕ → ℕ → List ℕ → ℕ
rest_of_part room c text =
    if nat_lt (until_operator false (depth_behind 0 c) text) room then until_operator false (depth_behind 0 c) text
    else until_operator true (depth_behind 0 c) text

-- how long that part is, which stays in one line
abbrev pub part_length : ℕ → List ℕ → ℕ
part_length room [] = 0
part_length room (c ∷ text) = suc (rest_of_part room c text)

-- a text for which this room is left, so much of it being left of a part: each part stands behind the one before it if there is
-- room, and else in the next line
abbrev pub filled : ℕ → ℕ → List ℕ → List ℕ
filled room left [] = []
filled room (suc left) (c ∷ text) = c ∷ filled (room - 1) left text
filled room zero (c ∷ text) =
    if nat_lt (rest_of_part room_of_line c text) room then c ∷ filled (room - 1) (rest_of_part room_of_line c text) text
    else break_text ++ (c ∷ filled (room_of_line - 1) (rest_of_part room_of_line c text) text)

-- a condition behind so many columns of its line, where its first part stands
unfoldable pub filled_behind : ℕ → List ℕ → List ℕ
filled_behind column condition = filled (most_columns - column) (part_length (most_columns - column) condition) condition
