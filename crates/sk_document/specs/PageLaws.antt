-- What holds of each page: nothing that a file says in it is markup.
use Rattle.std.specs.Prelude.{ℕ, List}
use Rattle.sk_document.specs.Html.{escaped, IsPlain}

-- a text as it is shown begins and ends no tag, and no value of an attribute
abbrev pub ShownTextsArePlain : Type 0
ShownTextsArePlain = (text : List ℕ) → IsPlain (escaped text)
