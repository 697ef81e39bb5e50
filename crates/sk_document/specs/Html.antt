-- Texts of HTML: elements, and any text written so that none of it is markup.
use Rattle.std.specs.Prelude.{ℕ, ◌≡◌, ◌==◌, ◌||◌, ◌++◌, not, Bool, true, if◌then◌else◌, List, [], ◌∷◌, codes, flat_map}
use Rattle.std.specs.List.{list_all}

-- ---- texts

-- a byte that may be markup, or end the value of an attribute, as a reference: HTML, "Character references"
unfoldable pub escape : ℕ → List ℕ
escape byte =
    if byte == 38 then codes "&amp;"
    else if byte == 60 then codes "&lt;"
    else if byte == 62 then codes "&gt;"
    else if byte == 34 then codes "&quot;"
    else if byte == 39 then codes "&#39;"
    else byte ∷ []

-- a text as it is shown, whatever stands in it
abbrev pub escaped : List ℕ → List ℕ
escaped text = flat_map escape text

-- begins or ends a tag, or the value of an attribute: `<`, `>`, `"` and `'`
abbrev pub is_markup : ℕ → Bool
is_markup byte = byte == 60 || (byte == 62 || (byte == 34 || byte == 39))

-- nothing in a text does
abbrev pub IsPlain : List ℕ → Type 0
IsPlain text = list_all (λ byte. not (is_markup byte)) text ≡ true

-- ---- elements

-- an attribute with its value, behind a blank
unfoldable pub attribute : List ℕ → List ℕ → List ℕ
attribute name value = codes " " ++ (name ++ (codes "=\"" ++ (value ++ codes "\"")))

-- the tag that an element begins with, and its attributes
unfoldable pub begun : List ℕ → List ℕ → List ℕ
begun name attributes = codes "<" ++ (name ++ (attributes ++ codes ">"))

-- the tag that it ends with, which ends a line
unfoldable pub ended : List ℕ → List ℕ
ended name = codes "</" ++ (name ++ codes ">\n")

-- an element with attributes
abbrev pub element_with : List ℕ → List ℕ → List ℕ → List ℕ
element_with name attributes inner = begun name attributes ++ (inner ++ ended name)

-- an element without any
abbrev pub element : List ℕ → List ℕ → List ℕ
element name inner = element_with name [] inner

-- an element with one attribute
abbrev pub element_at : List ℕ → List ℕ → List ℕ → List ℕ → List ℕ
element_at name key value inner = element_with name (attribute key value) inner
