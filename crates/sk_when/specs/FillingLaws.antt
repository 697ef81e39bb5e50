-- What is so of all conditions that fill lines, and some of them worked out.
use Rattle.std.specs.Prelude.{ℕ, zero, suc, ◌≡◌, ◌≢◌, ◌==◌, ◌<◌, ◌+◌, ◌++◌, ◌&&◌, nat_le, Bool, true, if◌then◌else◌, List, [], ◌∷◌, replicate, codes}
use Rattle.sk_when.specs.Filling.{filled_behind, most_columns, room_of_line, until_operator}

-- a text whose lines are joined, after so many characters more that are left out: without line feeds, and the five blanks behind each
abbrev pub joined : ℕ → List ℕ → List ℕ
joined left_out [] = []
joined (suc left_out) (c ∷ text) = joined left_out text
joined zero (c ∷ text) = if c == 10 then joined 5 text else c ∷ joined 0 text

-- no line of a text is longer than it may be; so many columns stand before it
abbrev pub are_within : ℕ → List ℕ → Bool
are_within column [] = nat_le column most_columns
are_within column (c ∷ text) = if c == 10 then nat_le column most_columns && are_within 0 text else are_within (column + 1) text

abbrev pub HasNoLineFeed : List ℕ → Type 0
HasNoLineFeed [] = Unit {0}
HasNoLineFeed (c ∷ text) = (c ≢ 10) × HasNoLineFeed text

-- from each place on an operator comes before a line is full, or the text ends
abbrev pub HasShortParts : List ℕ → Type 0
HasShortParts [] = Unit {0}
HasShortParts (c ∷ text) = (until_operator true 0 text < room_of_line) × HasShortParts text

-- whoever joins the lines of a condition has it again
abbrev pub JoiningGivesBack : Type 0
JoiningGivesBack = (column : ℕ) (condition : List ℕ) → HasNoLineFeed condition → joined 0 (filled_behind column condition) ≡ condition

-- no line is longer than it may be where operators are near enough to each other, the first one to the begin of its line
abbrev pub LinesAreWithin : Type 0
LinesAreWithin =
    (column c : ℕ) (text : List ℕ) → HasNoLineFeed (c ∷ text) → HasShortParts (c ∷ text) → column + until_operator true 0 text < most_columns
    → are_within column (filled_behind column (c ∷ text)) ≡ true

-- operands of conditions, of this length
abbrev pub operand : ℕ → List ℕ
operand n = replicate n 120

-- what just fits stays in its line; a column more, and it goes on in the next one; where brackets fit into a line they are not
-- parted, and else at each operator
pub record FillingWorks : Type 0 where
  pub fits : filled_behind 22 (operand 60 ++ (codes " || " ++ operand 24)) ≡ operand 60 ++ (codes " || " ++ operand 24)
  pub goes_on : filled_behind 22 (operand 60 ++ (codes " || " ++ operand 25)) ≡ operand 60 ++ (codes "\n      || " ++ operand 25)
  pub whole : filled_behind 20 (operand 60 ++ (codes " || (" ++ (operand 10 ++ (codes " && " ++ (operand 20 ++ codes ")")))))
      ≡ operand 60 ++ (codes "\n      || (" ++ (operand 10 ++ (codes " && " ++ (operand 20 ++ codes ")"))))
  pub parted : filled_behind 22 (codes "(" ++ (operand 50 ++ (codes " || " ++ (operand 50 ++ (codes ") && " ++ operand 5)))))
      ≡ codes "(" ++ (operand 50 ++ (codes "\n      || " ++ (operand 50 ++ (codes ") && " ++ operand 5))))
  pub third : filled_behind 22 (operand 80 ++ (codes " && " ++ (operand 90 ++ (codes " && " ++ operand 20))))
      ≡ operand 80 ++ (codes "\n      && " ++ (operand 90 ++ (codes "\n      && " ++ operand 20)))
