-- Strings and base64 that are read by hand, and texts that are none.
use Rattle.std.specs.Prelude.{ℕ, ◌==◌, if◌then◌else◌, List, [], ◌∷◌, ◌++◌, map, codes}
use Rattle.sk_forms.specs.Rows.{insn}
use Rattle.sk_forms.specs.WorkedArrays.{lists, lists_none, refuses}

-- a text between quotes (34), with a backslash (92) for each `/`
abbrev pub quoted : List ℕ → List ℕ
quoted text = 34 ∷ (map (λ byte. if byte == 47 then 92 else byte) text ++ 34 ∷ [])

pub record WorkedStrings : Type 0 where
  pub string : lists (quoted (codes "/x06/x00/x00/x00/x00/x00/xFF/x7f")) (insn 6 0 0 2147418112 ∷ [])
  pub two_strings :
      lists (quoted (codes "/x20/x00/x00/x00/x04/x00/x00/x00") ++ 10 ∷ (32 ∷ quoted (codes "/x06/x00/x00/x00/x00/x00/x00/x00"))) (insn 32 0 0 4 ∷ insn 6 0 0 0 ∷ [])
  -- `base64` of coreutils 9.1, of three instructions of a filter of docker's
  pub base64 : lists (codes "IAAAAAQAAAAVAAEAPgAAwAYAAAAAAP9/" ++ 10 ∷ []) (insn 32 0 0 4 ∷ insn 21 1 0 3221225534 ∷ insn 6 0 0 2147418112 ∷ [])
  pub padding : lists (codes "BgAAAAAAAAA=") refuses
  pub broken_line : lists (codes "BgAAAA" ++ 13 ∷ (10 ∷ codes "AAAAA=")) refuses
  pub seven : lists_none (quoted (codes "/x06/x00/x00/x00/x00/x00/x00"))
  pub other_escape : lists_none (quoted (codes "/x06/x00/x00/x00/x00/x00/x00/n00"))
  pub no_escape : lists_none (quoted (codes "x06/x00/x00/x00/x00/x00/x00/x00"))
  pub no_digit : lists_none (quoted (codes "/x06/x00/x00/x00/x00/x00/x00/x0g"))
  pub more : lists_none (quoted (codes "/x06/x00/x00/x00/x00/x00/x00/x00;"))
  pub no_padding : lists_none (codes "BgAAAAAAAAA")
  pub six_bytes : lists_none (codes "BgAAAAAA")
  pub other_letter : lists_none (codes "BgAAAAAAAA-=")
  pub parted : lists_none (codes "BgAAAA AAAAA=")
  pub word : lists_none (codes "allowing")
  -- 32 digits are 24 bytes in base64, and 16 in hexadecimal
  pub digits : lists_none (codes "06000000000000000600000000000000")
  -- three `ld #0`, and no valid filter: these letters are hexadecimal digits too
  pub loads : lists_none (codes "AAAAAAAAAAAAAAAAAAAAAAAAAAAAAAAA")
