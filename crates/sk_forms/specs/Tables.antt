-- Tables: a row ` 0000: 0x20 0x00 0x00 0x00000004  A = arch` for each instruction, as `seccomp-tools dump` and scmp_bpf_disasm of libseccomp write them.
use Rattle.std.specs.Prelude.{ℕ, ◌+◌, ◌==◌, ◌&&◌, ◌||◌, Bool, if◌then◌else◌, List, [], ◌∷◌, length, Option, Some, None}
use Rattle.std.specs.List.{list_all, list_any, before_first, after_first}
use Rattle.sk_insn.specs.declared.insn.Insn.{Insn}
use Rattle.sk_text.specs.Lines.{lines_of}
use Rattle.sk_forms.specs.declared.token.Token.{Token}
use Rattle.sk_forms.specs.Words.{is_blank, is_word_byte}
use Rattle.sk_forms.specs.Tokens.{place_in, tokens_of}
use Rattle.sk_forms.specs.Grammar.{◌>>=◌, behind, number_at}
use Rattle.sk_forms.specs.Rows.{insn}

-- ---- rows

-- what stands behind the number of a row
unfoldable pub behind_place : ℕ → List Token → Option (List Token)
behind_place place [] = None
behind_place place (token ∷ rest) = do
  number ← place_in token
  if number == place then Some rest else None

-- the number of a row, from 0, a colon (58), and code, jt, jf and k; whatever stands behind them
unfoldable pub table_row : ℕ → List Token → Option Insn
table_row place tokens = do
  colon ← behind_place place tokens
  fields ← behind 58 colon
  code ← number_at 65535 fields
  jt ← number_at 255 code.1
  jf ← number_at 255 jt.1
  k ← number_at 4294967295 jf.1
  Some (insn code.0 jt.0 jf.0 k.0)

-- the rows of some lines, from a number on; a line without a word is none
abbrev pub table_rows : ℕ → List (List ℕ) → Option (List Insn)
table_rows place [] = Some []
table_rows place (line ∷ lines) =
    if length (tokens_of line) == 0
    then table_rows place lines
    else (table_row place (tokens_of line) >>= λ first. table_rows (place + 1) lines >>= λ others. Some (first ∷ others))

-- ---- the head

-- names of columns
unfoldable pub is_head : List ℕ → Bool
is_head line = list_all (λ byte. is_word_byte byte || is_blank byte) line

-- a line of `=` (61)
unfoldable pub is_rule : List ℕ → Bool
is_rule line = list_all (λ byte. byte == 61 || is_blank byte) line && list_any (λ byte. byte == 61) line

-- the names of the columns may stand before the rows, with such a line below them; a line ends with 10
unfoldable pub behind_head : List ℕ → List ℕ
behind_head text =
    let first = before_first (λ byte. byte == 10) text in
    let behind_first = after_first (λ byte. byte == 10) text in
    let second = before_first (λ byte. byte == 10) behind_first in
    if is_head first && is_rule second then after_first (λ byte. byte == 10) behind_first else text

-- ---- tables

-- at least one row
abbrev pub some_rows : Option (List Insn) → Option (List Insn)
some_rows None = None
some_rows (Some []) = None
some_rows (Some (first ∷ rest)) = Some (first ∷ rest)

unfoldable pub table : List ℕ → Option (List Insn)
table text = some_rows (table_rows 0 (lines_of (behind_head text)))
