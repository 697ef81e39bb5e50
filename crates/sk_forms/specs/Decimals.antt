-- Decimals: a number N, and N rows of four. `tcpdump -ddd` writes them in lines, and bpf_asm of the kernel (tools/bpf) in one line.
use Rattle.std.specs.Prelude.{ℕ, ◌/◌, ◌==◌, ◌&&◌, not, Bool, false, if◌then◌else◌, List, Option, Some, None}
use Rattle.std.specs.List.{count_by, list_all}
use Rattle.std.specs.Option.{is_some}
use Rattle.sk_insn.specs.declared.insn.Insn.{Insn}
use Rattle.sk_forms.specs.declared.token.Token.{Token}
use Rattle.sk_forms.specs.declared.rows.Form.TheVariants.{Decimals}
use Rattle.sk_forms.specs.Tokens.{tokens_in}
use Rattle.sk_forms.specs.Grammar.{◌>>=◌, decimal_at}
use Rattle.sk_forms.specs.Rows.{rows, ends_row}

-- so many rows, at least one, and nothing behind them but ends of rows
unfoldable pub counted : ℕ → List Token → Option (List Insn)
counted count tokens =
    if count == 0 then None
    else (rows Decimals 0 count tokens >>= λ given. if list_all ends_row given.1 then Some given.0 else None)

unfoldable pub decimals : List Token → Option (List Insn)
decimals tokens = do
  count ← decimal_at 4294967295 tokens
  counted count.0 count.1

-- ---- another number

-- how many rows there are words for
abbrev pub fours : List Token → ℕ
fours tokens = count_by (λ token. not (ends_row token)) tokens / 4

-- a number and rows, at least one, but not as many as it says
unfoldable pub is_miscounted : List Token → Bool
is_miscounted tokens = elim (decimal_at 4294967295 tokens) [
  | None ↦ false
  | Some count ↦ not (fours count.1 == count.0) && is_some (counted (fours count.1) count.1)
]

abbrev pub is_nearly_decimals : List ℕ → Bool
is_nearly_decimals text = is_miscounted (tokens_in text)
