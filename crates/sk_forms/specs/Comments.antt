-- A text in C without its comments (5.1.1.2 of the standard). One with an end of its own is a blank. One behind `//` ends before its line does.
use Rattle.std.specs.Prelude.{ℕ, ◌==◌, ◌&&◌, ◌||◌, Bool, false, if◌then◌else◌, List, [], ◌∷◌, ◌++◌, Option, Some, None}
use Rattle.std.specs.Option.{option_to_list}
use Rattle.sk_forms.specs.declared.comments.Place.{Place}
use Rattle.sk_forms.specs.declared.comments.Place.TheVariants.{Code, Opening, Block, Closing, Line}

-- whether a text begins with this byte
abbrev pub follows : ℕ → List ℕ → Bool
follows byte [] = false
follows byte (first ∷ rest) = first == byte

-- where the byte behind this one stands: `/` is 47, `*` is 42, and a line ends with 10
unfoldable pub next_place : Place → ℕ → List ℕ → Place
next_place Code byte rest = if byte == 47 && follows 42 rest then Opening else if byte == 47 && follows 47 rest then Line else Code
next_place Opening byte rest = Block
next_place Block byte rest = if byte == 42 && follows 47 rest then Closing else Block
next_place Closing byte rest = Code
next_place Line byte rest = if byte == 10 then Code else Line

-- what is left of a byte: itself outside comments, a blank (32) where one ends
unfoldable pub kept : Place → ℕ → List ℕ → Option ℕ
kept Code byte rest = if byte == 47 && (follows 42 rest || follows 47 rest) then None else Some byte
kept Opening byte rest = None
kept Block byte rest = None
kept Closing byte rest = Some 32
kept Line byte rest = if byte == 10 then Some byte else None

-- a comment that does not end is a NUL byte, which stands in no form
unfoldable pub end_of : Place → Option ℕ
end_of Code = None
end_of Opening = Some 0
end_of Block = Some 0
end_of Closing = Some 0
end_of Line = None

-- what is left of a text that begins in such a place
abbrev pub left_from : Place → List ℕ → List ℕ
left_from place [] = option_to_list (end_of place)
left_from place (byte ∷ rest) = option_to_list (kept place byte rest) ++ left_from (next_place place byte rest) rest

abbrev pub uncommented : List ℕ → List ℕ
uncommented text = left_from Code text
