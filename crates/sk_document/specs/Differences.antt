-- What is told of a part of a comparison in documents.
use Rattle.std.specs.Prelude.{ℕ, ◌++◌, Bool, true, false, List, codes}
use Rattle.json.specs.Token.{Token}
use Rattle.sk_conditions.specs.declared.differences.Verdicts.{Verdicts}
use Rattle.sk_conditions.specs.declared.numbers.Numbers.{Numbers}
use Rattle.sk_conditions.specs.declared.standing.Relation.{Relation}
use Rattle.sk_conditions.specs.declared.standing.Relation.TheVariants.{Same, AsStrict, Expected}
use Rattle.sk_when.specs.declared.diff_engine.Finding.{Finding}
use Rattle.sk_when.specs.declared.diff_engine.Finding.TheVariants as finding
use Rattle.sk_when.specs.declared.names.Names.{Names}
use Rattle.sk_when.specs.declared.piece.Outcome.{Outcome}
use Rattle.sk_when.specs.declared.piece.Outcome.TheVariants.{Undecided, Apart}
use Rattle.sk_when.specs.declared.piece.Part.{Part}
use Rattle.sk_when.specs.DiffText.{expected_text}
use Rattle.sk_when.specs.Naming.{constants_of}
use Rattle.sk_document.specs.Documents.{at, boolean_at, none}
use Rattle.sk_document.specs.Verdicts.{judged, verdict}
use Rattle.sk_document.specs.Calls.{call}
use Rattle.sk_document.specs.Terms.{meeting}

-- whether all is as it is asked for
abbrev pub holds : Finding → Bool
holds finding.Holds = true
holds other = false

-- the same as a member
unfoldable pub holds_at : Finding → List Token
holds_at finding = boolean_at (codes "holds") (holds finding)

-- below this name stand the differences
unfoldable pub differences_name : List Token
differences_name = at (codes "differences")

-- the verdict of the old chain, or the value that stands for what it expects
abbrev pub old_verdict : Relation → ℕ → List Token
old_verdict Same value = verdict value
old_verdict AsStrict value = verdict value
old_verdict Expected value = judged value (expected_text value)

-- no verdicts
unfoldable pub no_pair : List Token
no_pair = at (codes "old") ++ (none ++ (at (codes "new") ++ none))

-- the verdicts of both chains
unfoldable pub old_and_new : Relation → Verdicts → List Token
old_and_new relation it = at (codes "old") ++ (old_verdict relation it.old ++ (at (codes "new") ++ verdict it.new))

-- the same, where they are known
abbrev pub pair : Relation → Outcome → List Token
pair relation Undecided = no_pair
pair relation (Apart it shown) = old_and_new relation it

-- the call that shows them
abbrev pub shown_call : Names → Outcome → List Token
shown_call names Undecided = none
shown_call names (Apart it shown) = call names shown

-- the verdicts, the condition under which they come, and a call that shows them
unfoldable pub difference : Relation → Names → Numbers → Part → List Token
difference relation names numbers part =
    pair relation part.outcome
    ++ (meeting (constants_of names numbers.first numbers.last) part.calls ++ (at (codes "call") ++ shown_call names part.outcome))
