-- Which form a file has is decided by its bytes alone.
use Rattle.std.specs.Prelude.{ℕ, ◌==◌, ◌&&◌, ◌||◌, nat_eq, nat_le, not, Bool, true, false, if◌then◌else◌, List, [], ◌∷◌, filter, codes, slice_index, Option, Some, None}
use Rattle.std.specs.List.{list_all, list_any, starts_with}
use Rattle.sk_profile_json.specs.Forms.{is_profile}
use Rattle.sk_text.specs.Lines.{lines_of, words_of}
use Rattle.sk_ask.specs.OtherNames.{behind}
use Rattle.sk_ask.specs.declared.form.Form.{Form}
use Rattle.sk_ask.specs.declared.form.Form.TheVariants as form

-- a digit in hexadecimal of either case, a space (32), a line feed (10) or a carriage return (13)
unfoldable pub is_digit_or_blank : ℕ → Bool
is_digit_or_blank byte =
    (nat_le 48 byte && nat_le byte 57) || ((nat_le 97 byte && nat_le byte 102) || ((nat_le 65 byte && nat_le byte 70)
    || (byte == 32 || (byte == 10 || byte == 13))))

-- a raw filter has a NUL byte, since the upper byte of each code of seccomp(2) is 0; a text has none
unfoldable pub form_of : List ℕ → Form
form_of bytes =
    if list_any (λ byte. byte == 0) bytes then form.Raw
    else if list_all is_digit_or_blank bytes then form.Digits
    else form.Lines

-- a byte order mark (U+FEFF, in UTF-8 239, 187 and 191) may stand before a text and says nothing: section 23.8 of the Unicode standard
abbrev pub text_behind : List ℕ → Option (List ℕ) → List ℕ
text_behind bytes None = bytes
text_behind bytes (Some text) = if list_any (λ byte. byte == 0) text then bytes else text

unfoldable pub unmarked : List ℕ → List ℕ
unmarked bytes = text_behind bytes (behind (239 ∷ 187 ∷ 191 ∷ []) bytes)

-- a carriage return says nothing, wherever it stands
abbrev pub without_returns : List ℕ → List ℕ
without_returns bytes = filter (λ byte. not (byte == 13)) bytes

-- ---- policies

abbrev pub is_lines : Form → Bool
is_lines form.Raw = false
is_lines form.Digits = false
is_lines form.Lines = true

-- the words of a line that is meant to be `filter HEX`, with whatever behind `filter`
abbrev pub begins_filter : List (List ℕ) → Bool
begins_filter [] = false
begins_filter (word ∷ words) = starts_with nat_eq word (codes "filter")

-- the words of a line that is no remark: these begin with `;` (59) or `#` (35), and a carriage return (13) says nothing
abbrev pub says_something : List (List ℕ) → Bool
says_something [] = false
says_something (word ∷ words) = let first = slice_index word 0 in not (first == 59 || first == 35 || first == 13)

-- a text that says something, and has no such line, is a policy
unfoldable pub is_policy : List ℕ → Bool
is_policy bytes =
    is_lines (form_of bytes) && not (is_profile bytes)
    && list_any (λ line. says_something (words_of line)) (lines_of bytes)
    && not (list_any (λ line. begins_filter (words_of line)) (lines_of bytes))
