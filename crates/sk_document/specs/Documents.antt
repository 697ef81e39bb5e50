-- Documents of JSON as lists of tokens, and the text of such a list.
use Rattle.std.specs.Prelude.{ℕ, ◌++◌, Bool, List, [], ◌∷◌, codes, Option, Some, None}
use Rattle.std.specs.Fmt.{decimal}
use Rattle.json.specs.Token.{Token, begin_object, end_object, begin_array, end_array, key, string, number, boolean, null}
use Rattle.json.specs.Print.{print}

-- the text of a document, in one line
abbrev pub document : List Token → List ℕ
document tokens = print tokens ++ codes "\n"

-- ---- values of one token

-- a number
abbrev pub counted : ℕ → List Token
counted n = number (decimal n) ∷ []

-- a text
abbrev pub said : List ℕ → List Token
said text = string text ∷ []

-- `true` or `false`
abbrev pub decided : Bool → List Token
decided is = boolean is ∷ []

-- `null`
abbrev pub none : List Token
none = null ∷ []

-- a value, or `null` where there is none
abbrev pub maybe : {T : Type 0} → (T → List Token) → Option T → List Token
maybe value None = none
maybe value (Some it) = value it

-- ---- objects and arrays

-- the members of an object between its braces
abbrev pub object : List Token → List Token
object members = begin_object ∷ (members ++ end_object ∷ [])

-- the values of an array between its brackets
abbrev pub array : List Token → List Token
array values = begin_array ∷ (values ++ end_array ∷ [])

-- the name of a member, behind which its value stands
unfoldable pub at : List ℕ → List Token
at name = key name ∷ []

-- a member that is a number
unfoldable pub number_at : List ℕ → ℕ → List Token
number_at name n = at name ++ counted n

-- a member that is a text
unfoldable pub string_at : List ℕ → List ℕ → List Token
string_at name text = at name ++ said text

-- a member that is `true` or `false`
unfoldable pub boolean_at : List ℕ → Bool → List Token
boolean_at name is = at name ++ decided is

-- the word that was asked, which a document names first
unfoldable pub word_at : List ℕ → List Token
word_at word = string_at (codes "word") word
