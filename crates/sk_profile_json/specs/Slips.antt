-- What people write in JSON and RFC 8259 does not have: a comment, and a comma before the bracket that closes. It is told of a text that is
-- no JSON alone, where it stands outside of strings.
use Rattle.std.specs.Prelude.{ℕ, ◌+◌, ◌++◌, ◌==◌, ◌&&◌, ◌||◌, nat_lt, not, Bool, true, false, if◌then◌else◌, List, [], ◌∷◌, length, reverse, fold, count_by, take_while, slice_get, Option, Some, None}
use Rattle.std.specs.Option.{option_map, option_or}
use Rattle.sk_profile_json.specs.declared.slip.Extra.{Extra}
use Rattle.sk_profile_json.specs.declared.slip.Extra.TheVariants.{Comment, Comma}
use Rattle.sk_profile_json.specs.declared.slip.Reading.{Reading}
use Rattle.sk_profile_json.specs.declared.slip.Reading.TheVariants.{Outside, Inside, Escaped, Lost}
use Rattle.sk_profile_json.specs.declared.slip.Slip.{Slip}
use Rattle.sk_profile_json.specs.Forms.{first_of, is_byte}

-- ---- outside of strings

-- a string begins and ends at a quotation mark (34), and a backslash (92) stands before what it escapes; a string has no control
-- character, and where one stands nobody can tell what is outside (section 7)
abbrev pub in_string : ℕ → Reading
in_string byte = if byte == 34 then Outside else if byte == 92 then Escaped else if nat_lt byte 32 then Lost else Inside

abbrev pub past : Reading → ℕ → Reading
past Outside byte = if byte == 34 then Inside else Outside
past Inside byte = in_string byte
past Escaped byte = if nat_lt byte 32 then Lost else Inside
past Lost byte = Lost

abbrev pub is_outside : Reading → Bool
is_outside Outside = true
is_outside other = false

-- where the byte behind these stands
abbrev pub reading_behind : List ℕ → Reading
reading_behind before = fold past Outside before

-- ---- what stands there

-- `#` (35), `//` or `/*` (47 and 42)
abbrev pub is_comment : ℕ → Option ℕ → Bool
is_comment byte next = byte == 35 || (byte == 47 && (is_byte 47 next || is_byte 42 next))

-- a comma (44) with blanks alone before `]` (93) or `}` (125)
abbrev pub is_late_comma : ℕ → Option ℕ → Bool
is_late_comma byte next = byte == 44 && (is_byte 93 next || is_byte 125 next)

abbrev pub extra_at : ℕ → List ℕ → Option Extra
extra_at byte behind =
    if is_comment byte (slice_get behind 0) then Some Comment
    else if is_late_comma byte (first_of behind) then Some Comma
    else None

-- ---- where, behind these bytes: lines and the bytes of a line are counted from 1 on, as gcc counts them

abbrev pub line_of : List ℕ → ℕ
line_of before = count_by (λ byte. byte == 10) before + 1

-- how many bytes stand on the last line
abbrev pub on_line : List ℕ → ℕ
on_line before = length (take_while (λ byte. not (byte == 10)) (reverse before))

abbrev pub column_of : List ℕ → ℕ
column_of before = on_line before + 1

abbrev pub slip_at : List ℕ → Extra → Slip
slip_at before extra = record { line = line_of before; column = column_of before; extra = extra }

-- ---- the first

abbrev pub slip_here : Reading → List ℕ → ℕ → List ℕ → Option Slip
slip_here reading before byte behind = if is_outside reading then option_map (slip_at before) (extra_at byte behind) else None

abbrev pub slip_from : List ℕ → List ℕ → Option Slip
slip_from before [] = None
slip_from before (byte ∷ behind) = option_or (slip_here (reading_behind before) before byte behind) (slip_from (before ++ (byte ∷ [])) behind)

unfoldable pub slip_of : List ℕ → Option Slip
slip_of text = slip_from [] text
