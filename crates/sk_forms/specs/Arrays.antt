-- Arrays of C: rows `{ 0x20, 0, 0, 0x00000004 },`, as `tcpdump -dd` and `bpf_asm -c` write them. In a program a head stands before them.
use Rattle.std.specs.Prelude.{ℕ, ◌&&◌, ◌==◌, ◌||◌, not, Bool, true, false, if◌then◌else◌, List, length, filter, Option, Some, None}
use Rattle.std.specs.List.{list_all, before_first, after_first, count_by}
use Rattle.std.specs.Option.{option_or}
use Rattle.sk_insn.specs.declared.insn.Insn.{Insn}
use Rattle.sk_forms.specs.declared.token.Token.{Token}
use Rattle.sk_forms.specs.declared.token.Token.TheVariants.{Decimal, Name, Sign}
use Rattle.sk_forms.specs.declared.rows.Form.TheVariants.{Array}
use Rattle.sk_forms.specs.Tokens.{is_sign}
use Rattle.sk_forms.specs.declared.names.Word.TheVariants as word
use Rattle.sk_forms.specs.Grammar.{◌>>=◌, behind, behind_word, number_at, past}
use Rattle.sk_forms.specs.Rows.{begins_instruction, rows}

-- a comma (44) may stand behind the last row, and nothing else
unfoldable pub ends : List Token → Bool
ends tokens = length (past 44 tokens) == 0

-- before the brace that closes (125) as well; behind it a semicolon (59) may stand
unfoldable pub closes : List Token → Bool
closes tokens = elim (behind 125 (past 44 tokens)) [
  | None ↦ false
  | Some rest ↦ length (past 59 rest) == 0
]

-- as many rows as there are tokens that begin one, and at least one
unfoldable pub rows_there : List Token → Option (List Insn × List Token)
rows_there tokens =
    let count = count_by begins_instruction tokens in
    if count == 0 then None else rows Array 0 count tokens

-- rows by themselves
unfoldable pub bare : List Token → Option (List Insn)
bare tokens = do
  given ← rows_there tokens
  if ends given.1 then Some given.0 else None

-- rows in braces
unfoldable pub in_braces : List Token → Option (List Insn)
in_braces tokens = do
  inside ← behind 123 tokens
  given ← rows_there inside
  if closes given.1 then Some given.0 else None

-- names, numbers and brackets (91, 93) declare an array
abbrev pub declares : Token → Bool
declares (Name name) = true
declares (Decimal n) = true
declares (Sign byte) = byte == 91 || byte == 93
declares token = false

-- a declaration stands before `=` (61), and the rows in braces behind it
unfoldable pub declared : List Token → Option (List Insn)
declared tokens =
    if list_all declares (before_first (is_sign 61) tokens) then in_braces (after_first (is_sign 61) tokens) else None

-- line ends (10) part nothing in C
abbrev pub in_one_line : List Token → List Token
in_one_line tokens = filter (λ token. not (is_sign 10 token)) tokens

-- ---- as strace writes them

-- `filter=[ rows ]`: brackets are 91 and 93
unfoldable pub list_at : List Token → Option (List Token)
list_at tokens = do
  named ← behind_word word.Filter tokens
  list ← behind 61 named
  behind 91 list

unfoldable pub filter_at : List Token → Option (List Insn × List Token)
filter_at tokens = do
  inside ← list_at tokens
  given ← rows_there inside
  rest ← behind 93 given.1
  Some (given.0, rest)

unfoldable pub filter_alone : List Token → Option (List Insn)
filter_alone tokens = do
  given ← filter_at tokens
  if length given.1 == 0 then Some given.0 else None

-- `{len=N, filter=[ rows ]}`, with N rows
unfoldable pub length_at : List Token → Option (ℕ × List Token)
length_at tokens = do
  inside ← behind 123 tokens
  named ← behind_word word.Length inside
  number ← behind 61 named
  count ← number_at 65535 number
  rest ← behind 44 count.1
  Some (count.0, rest)

unfoldable pub ends_program : List Token → Bool
ends_program tokens = elim (behind 125 tokens) [
  | None ↦ false
  | Some rest ↦ length rest == 0
]

unfoldable pub program : List Token → Option (List Insn)
program tokens = do
  count ← length_at tokens
  given ← filter_at count.1
  if length given.0 == count.0 && ends_program given.1 then Some given.0 else None

-- ---- any of these

unfoldable pub array : List Token → Option (List Insn)
array tokens =
    option_or (bare tokens) (option_or (in_braces tokens) (option_or (declared tokens) (option_or (filter_alone tokens) (program tokens))))
