-- Lines and texts that are cut by hand.
use Rattle.std.specs.Prelude.{ℕ, ◌≡◌, List, [], ◌∷◌, ◌++◌, codes}
use Rattle.sk_policy_text.specs.declared.word.Place.{Place}
use Rattle.sk_policy_text.specs.declared.word.Place.TheVariants.{Row, Case, Behind}
use Rattle.sk_policy_text.specs.Words.{Word, words_of_line, words_of_text}
use Rattle.sk_policy_text.specs.Sentences.{sentence_length}

abbrev pub word : List ℕ → ℕ → Place → Word
word text line place = record { text = text; line = line; place = place }

-- lines, each ended by a line feed (10)
abbrev pub lines : List (List ℕ) → List ℕ
lines [] = []
lines (line ∷ others) = line ++ (10 ∷ lines others)

-- rows of two lines, and a case of two lines
abbrev pub policy : List ℕ
policy =
    lines (codes "read, # and"
    ∷ codes "  write" ∷ [] ∷ codes "  allow where nr == 0" ∷ codes "      || nr == 2" ∷ codes "  log else" ∷ codes "2 trap" ∷ [])

pub record WorkedWords : Type 0 where
  pub row : words_of_line (codes "read,write: allow") ≡ codes "read" ∷ codes "," ∷ codes "write" ∷ codes ":" ∷ codes "allow" ∷ []
  pub range : words_of_line (codes "334-4294967295 -") ≡ codes "334-4294967295" ∷ codes "-" ∷ []
  pub verdict : words_of_line (codes "errno/1 EPERM") ≡ codes "errno/1" ∷ codes "EPERM" ∷ []
  pub mask :
      words_of_line (codes "(args[0]&0x7e020000)==0")
      ≡ codes "(" ∷ codes "args[0]" ∷ codes "&" ∷ codes "0x7e020000" ∷ codes ")" ∷ codes "==" ∷ codes "0" ∷ []
  pub pairs :
      words_of_line (codes "a<=b&&~c||d!=e>=f<g>h")
      ≡ codes "a" ∷ codes "<=" ∷ codes "b" ∷ codes "&&" ∷ codes "~" ∷ codes "c" ∷ codes "||" ∷ codes "d" ∷ codes "!=" ∷ codes "e"
      ∷ codes ">=" ∷ codes "f" ∷ codes "<" ∷ codes "g" ∷ codes ">" ∷ codes "h" ∷ []
  pub three : words_of_line (codes "&&&") ≡ codes "&&" ∷ codes "&" ∷ []
  pub others : words_of_line (codes "a$$=1") ≡ codes "a" ∷ codes "$" ∷ codes "$" ∷ codes "=" ∷ codes "1" ∷ []
  pub blanks : words_of_line (9 ∷ 97 ∷ 9 ∷ 32 ∷ 98 ∷ 13 ∷ []) ≡ codes "a" ∷ codes "b" ∷ []
  pub remark : words_of_line (codes "a#b c") ≡ codes "a" ∷ []
  pub remark_alone : words_of_line (codes "  # a") ≡ []
  pub text :
      words_of_text policy
      ≡ word (codes "read") 1 Row ∷ word (codes ",") 1 Behind ∷ word (codes "write") 2 Behind
      ∷ word (codes "allow") 4 Case ∷ word (codes "where") 4 Behind ∷ word (codes "nr") 4 Behind ∷ word (codes "==") 4 Behind ∷ word (codes "0") 4 Behind
      ∷ word (codes "||") 5 Behind ∷ word (codes "nr") 5 Behind ∷ word (codes "==") 5 Behind ∷ word (codes "2") 5 Behind
      ∷ word (codes "log") 6 Case ∷ word (codes "else") 6 Behind
      ∷ word (codes "2") 7 Row ∷ word (codes "trap") 7 Behind ∷ []
  pub sentence : sentence_length (words_of_text policy) ≡ 3
  pub last_sentence : sentence_length (words_of_text (codes "2 trap")) ≡ 2
  pub no_sentence : sentence_length (words_of_text []) ≡ 0
