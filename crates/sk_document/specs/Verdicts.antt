-- Verdicts in documents.
use Rattle.std.specs.Prelude.{ℕ, ◌++◌, List, codes, flat_map, Option}
use Rattle.json.specs.Token.{Token}
use Rattle.sk_insn.specs.Actions.{action_of, action_name, data_part}
use Rattle.sk_filter.specs.VerdictText.{verdict_text}
use Rattle.sk_document.specs.Documents.{array, at, maybe, number_at, object, string_at}

-- what a filter's value asks for, and what is written of it
unfoldable pub judged : ℕ → List ℕ → List Token
judged value text =
    object (number_at (codes "value") value
    ++ (string_at (codes "action") (action_name (action_of value))
    ++ (number_at (codes "data") (data_part value) ++ string_at (codes "text") text)))

-- a verdict, with its text
abbrev pub verdict : ℕ → List Token
verdict value = judged value (verdict_text value)

-- the verdict that is told, if one is
abbrev pub maybe_verdict : Option ℕ → List Token
maybe_verdict value = maybe verdict value

-- verdicts in their order
abbrev pub verdict_list : List ℕ → List Token
verdict_list values = array (flat_map verdict values)

-- the verdicts that may come; none stands for any value
abbrev pub verdicts : Option (List ℕ) → List Token
verdicts values = maybe verdict_list values

-- the same as a member
unfoldable pub verdicts_at : Option (List ℕ) → List Token
verdicts_at values = at (codes "verdicts") ++ verdicts values
