-- What `ask when` tells.
use Rattle.std.specs.Prelude.{ℕ, ◌≡◌, ◌≤◌, ◌==◌, ◌+◌, Bool, true, false, List, [], Option, Some, None}
use Rattle.std.specs.List.{All}
use Rattle.sk_insn.specs.declared.insn.Insn.{Insn}
use Rattle.sk_names.specs.declared.architecture.Architecture.{Architecture}
use Rattle.sk_arguments.specs.declared.naming.Naming.{Naming}
use Rattle.sk_filter.specs.Chains.{cost_of}
use Rattle.sk_conditions.specs.Steps.{GoOneWay, NeverPart}
use Rattle.sk_show.specs.Lines.{end_told, first_told}
use Rattle.sk_when.specs.Picture.{IsPicture}
use Rattle.sk_when.specs.declared.names.Names.{Names}
use Rattle.sk_when.specs.declared.row.ConditionalRow.{ConditionalRow}
use Rattle.sk_when.specs.Naming.{names_of}
use Rattle.sk_when.specs.Telling.{AreTold}
use Rattle.sk_when.specs.WhenText.{when_text}
use Rattle.sk_document.specs.WhenDocument.{when_document}
use Rattle.sk_ask.specs.declared.printing.Printing.{Printing}
use Rattle.sk_ask.specs.declared.printing.Printing.TheVariants.{Text, Document}
use Rattle.sk_ask.specs.Architectures.{chain_on}
use Rattle.sk_ask.specs.Calls.{OfEach}
use Rattle.sk_ask.specs.declared.only.Sought.{Sought}
use Rattle.sk_ask.specs.Endings.{Ending, answered}
use Rattle.sk_ask.specs.Only.{rows_sought}
use Rattle.sk_ask.specs.Steps.{MayBeSpent, when_steps, picture_steps}

-- the picture of the tree of a call, as far as the steps reach that ask gives. Where it goes one way through each filter, it took no
-- more steps than the filters count. Of all calls together there is none
abbrev pub IsPictured : (ℕ → Bool) → List (List Insn) → Option ℕ → List ℕ → Type 0
IsPictured may_spend chain (Some nr) text =
    (steps_left : ℕ) × IsPicture chain nr steps_left text × MayBeSpent may_spend picture_steps (steps_left == 0)
    × (All (GoOneWay nr nr) chain → picture_steps ≤ steps_left + cost_of chain)
IsPictured may_spend chain None text = text ≡ []

-- the conditions of the chain's verdicts, as far as the steps reach that ask gives. Where all calls of each row go one way through
-- each filter, the steps of no row were used up
abbrev pub AreRowsTold : (ℕ → Bool) → Architecture → List (List Insn) → Option ℕ → List ConditionalRow → Type 0
AreRowsTold may_spend by chain call rows =
    (is_spent : Bool) × AreTold by call chain is_spent rows × MayBeSpent may_spend when_steps is_spent
    × (NeverPart (first_told call) (end_told call) chain → is_spent ≡ false)

-- the rows as a text, with numbers written so, or as a document
abbrev pub when_printed : Printing → Names → List ConditionalRow → List ℕ
when_printed Text names rows = when_text names rows
when_printed Document names rows = when_document names rows

-- of all calls, or of those that are asked for, the rows with a verdict that is looked for; `--dot` draws their trees
abbrev pub IsWhenText : (ℕ → Bool) → Naming → Printing → Architecture → Bool → List ℕ → List Sought → List (List Insn) → List ℕ → Type 0
IsWhenText may_spend naming printing by true calls only chain text = OfEach (IsPictured may_spend chain) calls text
IsWhenText may_spend naming printing by false calls only chain text =
    (rows : List ConditionalRow) × OfEach (AreRowsTold may_spend by chain) calls rows
    × (text ≡ when_printed printing (names_of naming by) (rows_sought only rows))

-- that of the chain as it is for the architecture
abbrev pub TellsWhenOf : (ℕ → Bool) → Naming → Printing → Architecture → Bool → List ℕ → List Sought → List (List Insn) → List ℕ → Ending → Type 0
TellsWhenOf may_spend naming printing by dot calls only chain notes ending =
    (text : List ℕ) × IsWhenText may_spend naming printing by dot calls only (chain_on by chain) text × (ending ≡ answered notes text false)
