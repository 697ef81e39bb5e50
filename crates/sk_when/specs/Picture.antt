-- The tree of one call as text for Graphviz, in its language DOT: https://graphviz.org/doc/info/lang.html.
use Rattle.std.specs.Prelude.{ℕ, ◌≡◌, ◌+◌, ◌-◌, ◌^◌, ◌<◌, ◌++◌, List, codes, min, None}
use Rattle.std.specs.List.{All}
use Rattle.std.specs.Fmt.{decimal}
use Rattle.sk_insn.specs.declared.action.Action.{Action}
use Rattle.sk_insn.specs.declared.action.Action.TheVariants.{KillProcess, KillThread, Unknown, Allow, Log}
use Rattle.sk_insn.specs.declared.insn.Insn.{Insn}
use Rattle.sk_insn.specs.declared.record.Record.{Record}
use Rattle.sk_insn.specs.Actions.{action_of}
use Rattle.sk_filter.specs.Verdict.{verdict_of}
use Rattle.sk_conditions.specs.Conditions.{Agrees}
use Rattle.sk_conditions.specs.Followed.{AreFollowed}
use Rattle.sk_survey.specs.Answers.{IsCallOf}
use Rattle.sk_terms.specs.declared.decision.Decision.{Decision}
use Rattle.sk_terms.specs.declared.decision.Decision.TheVariants.{Is, Untold, Ask'}
use Rattle.sk_terms.specs.Decisions.{DecidesAll, decided}
use Rattle.sk_terms.specs.Text.{term_text}
use Rattle.sk_filter.specs.VerdictText.{verdict_text}

-- green where the call runs, red where it kills, yellow where something else becomes of it
abbrev pub colour_of : Action → List ℕ
colour_of Allow = codes "palegreen"
colour_of Log = codes "palegreen"
colour_of KillProcess = codes "salmon"
colour_of KillThread = codes "salmon"
colour_of Unknown = codes "salmon"
colour_of action = codes "khaki"

-- nodes are counted in the order of their lines; the count stops at 2 ^ 64 - 1
abbrev pub next_node : ℕ → ℕ
next_node node = min (node + 1) (2 ^ 64 - 1)

-- the number behind those of a tree's nodes
abbrev pub node_after : ℕ → Decision → ℕ
node_after node (Is value) = next_node node
node_after node Untold = next_node node
node_after node (Ask' term p held q failed) = node_after (node_after (next_node node) held) failed

unfoldable pub fill_text : List ℕ → List ℕ
fill_text colour = codes "\", style=filled, fillcolor=" ++ (colour ++ codes "];\n")

unfoldable pub leaf_text : ℕ → List ℕ → List ℕ → List ℕ
leaf_text node text colour = codes "  n" ++ (decimal node ++ (codes " [label=\"" ++ (text ++ fill_text colour)))

unfoldable pub inner_text : ℕ → List ℕ → List ℕ
inner_text node text = codes "  n" ++ (decimal node ++ (codes " [label=\"" ++ (text ++ codes "\"];\n")))

unfoldable pub edge_text : ℕ → ℕ → List ℕ → List ℕ
edge_text from to answer = codes "  n" ++ (decimal from ++ (codes " -> n" ++ (decimal to ++ (codes " [label=" ++ (answer ++ codes "];\n")))))

-- a leaf is a verdict; a term leads by `yes` to the tree where it holds, and by `no` to the other one
abbrev pub nodes_text : ℕ → Decision → List ℕ
nodes_text node (Is value) = leaf_text node (verdict_text value) (colour_of (action_of value))
nodes_text node Untold = leaf_text node (codes "not followed") (codes "white")
nodes_text node (Ask' term p held q failed) =
    inner_text node (term_text None term)
    ++ (edge_text node (next_node node) (codes "yes")
    ++ (nodes_text (next_node node) held
    ++ (edge_text node (node_after (next_node node) held) (codes "no")
    ++ nodes_text (node_after (next_node node) held) failed)))

abbrev pub dot_text : Decision → List ℕ
dot_text decision = codes "digraph {\n" ++ (nodes_text 0 decision ++ codes "}\n")

-- the text is that of a tree that tells of each call with the number the chain's verdict, or nothing; where the filters are
-- followed, and some steps were left, the tree has a verdict at each end
abbrev pub IsPicture : List (List Insn) → ℕ → ℕ → List ℕ → Type 0
IsPicture programs nr steps_left text =
    (decision : Decision) × ((call : Record) → IsCallOf nr nr call → Agrees (decided decision call) (verdict_of programs call))
    × (All AreFollowed programs → 0 < steps_left → DecidesAll decision) × (text ≡ dot_text decision)
