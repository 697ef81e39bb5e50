-- What decides on a call in the texts that filters are made of, in documents.
use Rattle.std.specs.Prelude.{ℕ, ◌++◌, List, codes, flat_map, Option, Some, None}
use Rattle.json.specs.Token.{Token}
use Rattle.sk_document.specs.declared.deciding.Decider.{Decider}
use Rattle.sk_document.specs.declared.deciding.Decider.TheVariants.{Entry, NoEntry, NoCall, Foreign, Row, Default, Others}
use Rattle.sk_document.specs.declared.deciding.Decision.{Decision}
use Rattle.sk_document.specs.Documents.{array, at, counted, maybe, object, string_at}

-- the language of the text
abbrev pub kind_name : Decider → List ℕ
kind_name (Entry entry line) = codes "profile"
kind_name NoEntry = codes "profile"
kind_name NoCall = codes "profile"
kind_name Foreign = codes "profile"
kind_name (Row line) = codes "policy"
kind_name (Default line) = codes "policy"
kind_name (Others line) = codes "policy"

-- what of it decides
abbrev pub by_name : Decider → List ℕ
by_name (Entry entry line) = codes "entry"
by_name NoEntry = codes "no_entry"
by_name NoCall = codes "no_call"
by_name Foreign = codes "foreign"
by_name (Row line) = codes "row"
by_name (Default line) = codes "default"
by_name (Others line) = codes "others"

-- the place of an entry in its list, from 0 on
abbrev pub entry_of : Decider → Option ℕ
entry_of (Entry entry line) = Some entry
entry_of decider = None

-- the line that decides, or in which the entry begins
abbrev pub line_of : Decider → Option ℕ
line_of (Entry entry line) = line
line_of (Row line) = line
line_of (Default line) = line
line_of (Others line) = line
line_of decider = None

-- which entry it is, or which line
unfoldable pub where_at : Decider → List Token
where_at decider = at (codes "entry") ++ (maybe counted (entry_of decider) ++ (at (codes "line") ++ maybe counted (line_of decider)))

-- what decides in the text of a file with this name
unfoldable pub decision : List ℕ → Decider → List Token
decision file decider =
    object (string_at (codes "file") file
    ++ (string_at (codes "kind") (kind_name decider) ++ (string_at (codes "by") (by_name decider) ++ where_at decider)))

abbrev pub decision_of : List ℕ × Decider → List Token
decision_of it = decision it.0 it.1

-- those of all texts, in their order
unfoldable pub decisions_at : List (List ℕ × Decider) → List Token
decisions_at decisions = at (codes "entries") ++ array (flat_map decision_of decisions)

-- ---- what the code has

abbrev pub pair_of : Decision → List ℕ × Decider
pair_of it = (it.file.now, it.decider)
