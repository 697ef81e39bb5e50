-- The rows of the forms: each is an instruction, `struct sock_filter` of linux/filter.h.
use Rattle.std.specs.Prelude.{ℕ, zero, suc, ◌==◌, ◌||◌, Bool, if◌then◌else◌, List, [], ◌∷◌, Option, Some, None}
use Rattle.std.specs.Option.{option_or}
use Rattle.sk_insn.specs.declared.insn.Insn.{Insn}
use Rattle.sk_forms.specs.declared.token.Token.{Token}
use Rattle.sk_forms.specs.declared.rows.Form.{Form}
use Rattle.sk_forms.specs.declared.rows.Form.TheVariants.{Array, Decimals}
use Rattle.sk_forms.specs.declared.names.Word.TheVariants as word
use Rattle.sk_forms.specs.Tokens.{is_sign, is_word}
use Rattle.sk_forms.specs.Grammar.{◌>>=◌, behind, behind_word, decimal_at}
use Rattle.sk_forms.specs.Values.{value_at}

abbrev pub insn : ℕ → ℕ → ℕ → ℕ → Insn
insn code jt jf k = record { code = code; jt = jt; jf = jf; k = k }

-- ---- rows of arrays in C

-- `{ code, jt, jf, k }`: commas (44) stand between values, braces (123, 125) around them
unfoldable pub braces : List Token → Option (Insn × List Token)
braces tokens = do
  inside ← behind 123 tokens
  code ← value_at 65535 inside
  first ← behind 44 code.1
  jt ← value_at 255 first
  second ← behind 44 jt.1
  jf ← value_at 255 second
  third ← behind 44 jf.1
  k ← value_at 4294967295 third
  rest ← behind 125 k.1
  Some (insn code.0 jt.0 jf.0 k.0, rest)

-- `BPF_STMT(code, k)`: brackets are 40 and 41
unfoldable pub statement : List Token → Option (Insn × List Token)
statement tokens = do
  called ← behind_word word.Statement tokens
  inside ← behind 40 called
  code ← value_at 65535 inside
  first ← behind 44 code.1
  k ← value_at 4294967295 first
  rest ← behind 41 k.1
  Some (insn code.0 0 0 k.0, rest)

-- `BPF_JUMP(code, k, jt, jf)`
unfoldable pub jump : List Token → Option (Insn × List Token)
jump tokens = do
  called ← behind_word word.Jump tokens
  inside ← behind 40 called
  code ← value_at 65535 inside
  first ← behind 44 code.1
  k ← value_at 4294967295 first
  second ← behind 44 k.1
  jt ← value_at 255 second
  third ← behind 44 jt.1
  jf ← value_at 255 third
  rest ← behind 41 jf.1
  Some (insn code.0 jt.0 jf.0 k.0, rest)

-- one of these
unfoldable pub instruction : List Token → Option (Insn × List Token)
instruction tokens = option_or (braces tokens) (option_or (statement tokens) (jump tokens))

-- what each of them begins with
abbrev pub begins_instruction : Token → Bool
begins_instruction token = is_sign 123 token || is_word word.Statement token || is_word word.Jump token

-- a comma stands before each row but the first
unfoldable pub between : ℕ → List Token → Option (List Token)
between place tokens = if place == 0 then Some tokens else behind 44 tokens

-- ---- rows of decimals: `code jt jf k`

-- a row ends with a comma (44), as bpf_asm writes it, or with its line (10), as `tcpdump -ddd` does
abbrev pub ends_row : Token → Bool
ends_row token = is_sign 44 token || is_sign 10 token

unfoldable pub behind_end : List Token → Option (List Token)
behind_end [] = None
behind_end (token ∷ rest) = if ends_row token then Some rest else None

unfoldable pub four : List Token → Option (Insn × List Token)
four tokens = do
  code ← decimal_at 65535 tokens
  jt ← decimal_at 255 code.1
  jf ← decimal_at 255 jt.1
  k ← decimal_at 4294967295 jf.1
  Some (insn code.0 jt.0 jf.0 k.0, k.1)

-- ---- rows of each form

-- the row of a place, and what stands behind it
unfoldable pub row : Form → ℕ → List Token → Option (Insn × List Token)
row Array place tokens = between place tokens >>= λ begun. instruction begun
row Decimals place tokens = behind_end tokens >>= λ begun. four begun

-- so many rows, from a place on, and what stands behind them
abbrev pub rows : Form → ℕ → ℕ → List Token → Option (List Insn × List Token)
rows form place zero tokens = Some ([], tokens)
rows form place (suc n) tokens = do
  first ← row form place tokens
  others ← rows form (suc place) n first.1
  Some (first.0 ∷ others.0, others.1)
