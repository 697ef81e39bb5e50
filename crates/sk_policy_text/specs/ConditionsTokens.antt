-- What the words of a condition stand for: operators of C, registers of a call, numbers, and constants of Linux's headers.
use Rattle.std.specs.Prelude.{ℕ, if◌then◌else◌, List, map, codes, Option, Some, None}
use Rattle.std.specs.Str.{bytes_eq}
use Rattle.sk_replay.specs.CallWords.{number_or_constant}
use Rattle.sk_terms.specs.declared.term.Register.{Register}
use Rattle.sk_terms.specs.declared.term.Register.TheVariants as register
use Rattle.sk_policy_text.specs.declared.token.Relation.TheVariants as relation
use Rattle.sk_policy_text.specs.declared.token.Token.{Token}
use Rattle.sk_policy_text.specs.declared.token.Token.TheVariants as token
use Rattle.sk_policy_text.specs.declared.word.Word.{Word}

unfoldable pub relation_named : List ℕ → Option Token
relation_named word =
    if bytes_eq word (codes "==") then Some (token.Compare relation.Is)
    else if bytes_eq word (codes "!=") then Some (token.Compare relation.IsNot)
    else if bytes_eq word (codes "<") then Some (token.Compare relation.Below)
    else if bytes_eq word (codes "<=") then Some (token.Compare relation.AtMost)
    else if bytes_eq word (codes ">") then Some (token.Compare relation.Above)
    else if bytes_eq word (codes ">=") then Some (token.Compare relation.AtLeast)
    else None

unfoldable pub operator_named : List ℕ → Option Token
operator_named word =
    if bytes_eq word (codes "(") then Some token.Open
    else if bytes_eq word (codes ")") then Some token.Close
    else if bytes_eq word (codes "&&") then Some token.And
    else if bytes_eq word (codes "||") then Some token.Or
    else if bytes_eq word (codes "&") then Some token.BitAnd
    else if bytes_eq word (codes "|") then Some token.BitOr
    else if bytes_eq word (codes "~") then Some token.BitNot
    else relation_named word

unfoldable pub register_named : List ℕ → Option Register
register_named word =
    if bytes_eq word (codes "nr") then Some register.Number
    else if bytes_eq word (codes "ip") then Some register.Pointer
    else if bytes_eq word (codes "args[0]") then Some (register.Argument 0)
    else if bytes_eq word (codes "args[1]") then Some (register.Argument 1)
    else if bytes_eq word (codes "args[2]") then Some (register.Argument 2)
    else if bytes_eq word (codes "args[3]") then Some (register.Argument 3)
    else if bytes_eq word (codes "args[4]") then Some (register.Argument 4)
    else if bytes_eq word (codes "args[5]") then Some (register.Argument 5)
    else None

-- the first of these that there is
abbrev pub first_of : Option Token → Option Register → Option ℕ → Token
first_of (Some operator) register value = operator
first_of None (Some register) value = token.Register register
first_of None None (Some n) = token.Number n
first_of None None None = token.Other

unfoldable pub token_of : List ℕ → Token
token_of word = first_of (operator_named word) (register_named word) (number_or_constant word)

abbrev pub tokens_of : List Word → List Token
tokens_of words = map (λ (word : Word). token_of word.text.now) words
