-- Conditions on calls in documents.
use Rattle.std.specs.Prelude.{ℕ, ◌++◌, List, codes, flat_map, Option}
use Rattle.json.specs.Token.{Token}
use Rattle.sk_terms.specs.declared.choices.Choice.{Choice}
use Rattle.sk_terms.specs.declared.lines.Line.{Line}
use Rattle.sk_terms.specs.declared.term.Register.{Register}
use Rattle.sk_terms.specs.declared.term.Term.{Term}
use Rattle.sk_terms.specs.Text.{condition_text, register_text}
use Rattle.sk_when.specs.declared.piece.Calls.{Calls}
use Rattle.sk_when.specs.declared.piece.Calls.TheVariants.{Every, Meeting}
use Rattle.sk_document.specs.Documents.{array, at, boolean_at, none, object, string_at}
use Rattle.sk_document.specs.Calls.{hexadecimal_at}

-- a register of a call, as conditions name it
unfoldable pub argument_at : Register → List Token
argument_at register = string_at (codes "argument") (register_text register)

-- some bits of a register, and the range in which their number lies, or outside of which it lies
unfoldable pub term : Term → List Token
term it =
    object (argument_at it.register
    ++ (hexadecimal_at (codes "mask") it.mask
    ++ (hexadecimal_at (codes "from") it.first ++ (hexadecimal_at (codes "to") it.last ++ boolean_at (codes "inside") it.inside))))

-- terms of which one holds
abbrev pub choice : Choice → List Token
choice it = array (flat_map term it.terms.items)

-- of each of these lists one term holds
abbrev pub choices : List Choice → List Token
choices its = array (flat_map choice its)

-- a condition of C, with the constants of a call where one is given
unfoldable pub condition_at : Option ℕ → Line → List Token
condition_at constants line = string_at (codes "condition") (condition_text constants line)

-- the condition of a line in terms and in C
unfoldable pub condition : Option ℕ → Line → List Token
condition constants line = at (codes "choices") ++ (choices line.choices.items ++ condition_at constants line)

-- every call
unfoldable pub no_condition : List Token
no_condition = at (codes "choices") ++ (none ++ (at (codes "condition") ++ none))

-- the condition that calls meet, where it is not every call
abbrev pub meeting : Option ℕ → Calls → List Token
meeting constants Every = no_condition
meeting constants (Meeting line) = condition constants line
