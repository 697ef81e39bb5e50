-- Calls in documents.
use Rattle.std.specs.Prelude.{ℕ, ◌++◌, List, codes, flat_map}
use Rattle.json.specs.Token.{Token}
use Rattle.hex.specs.Hex.{encode_lower}
use Rattle.sk_insn.specs.declared.record.Record.{Record}
use Rattle.sk_insn.specs.Record.{record_bytes}
use Rattle.sk_names.specs.declared.architecture.Architecture.{Architecture}
use Rattle.sk_names.specs.Names.{name_on}
use Rattle.sk_terms.specs.Text.{hexadecimal}
use Rattle.sk_when.specs.declared.names.Names.{Names}
use Rattle.sk_when.specs.DiffText.{call_text, of_architecture}
use Rattle.sk_document.specs.Documents.{array, at, number_at, object, said, string_at}
use Rattle.sk_document.specs.Numbers.{name_at}

-- a number as C reads it in hexadecimal
abbrev pub hexadecimal_said : ℕ → List Token
hexadecimal_said n = said (hexadecimal n)

-- a member that is such a number
unfoldable pub hexadecimal_at : List ℕ → ℕ → List Token
hexadecimal_at name n = at name ++ hexadecimal_said n

-- the six arguments
unfoldable pub arguments_at : Record → List Token
arguments_at it = at (codes "args") ++ array (flat_map hexadecimal_said it.args)

-- the arguments, and where the call stands
unfoldable pub registers : Record → List Token
registers it = arguments_at it ++ hexadecimal_at (codes "ip") it.ip

-- the record of the same call of an architecture, in digits
unfoldable pub record_digits : Architecture → Record → List ℕ
record_digits architecture it = encode_lower (record_bytes (of_architecture architecture it))

-- the digits as a member
unfoldable pub record_at : Architecture → Record → List Token
record_at architecture it = string_at (codes "record") (record_digits architecture it)

-- the call as C makes it
unfoldable pub text_at : Names → Record → List Token
text_at names it = string_at (codes "text") (call_text names it)

-- a call of an architecture: its registers, its record, and its text
unfoldable pub call : Names → Record → List Token
call names it =
    object (number_at (codes "number") it.nr
    ++ (name_at (name_on names.architecture it.nr)
    ++ (registers it ++ (record_at names.architecture it ++ text_at names it))))
