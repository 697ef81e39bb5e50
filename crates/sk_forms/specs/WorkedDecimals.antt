-- Decimals that are read by hand, and texts that are none.
use Rattle.std.specs.Prelude.{◌≡◌, true, false, ℕ, List, [], ◌∷◌, ◌++◌, codes}
use Rattle.sk_forms.specs.Decimals.{is_nearly_decimals}
use Rattle.sk_forms.specs.Rows.{insn}
use Rattle.sk_forms.specs.WorkedArrays.{lines, lists, lists_none, refuses}

-- a text that would be one of decimals with another number before it
abbrev pub miscounts : List ℕ → Type 0
miscounts text = is_nearly_decimals text ≡ true

abbrev pub miscounts_none : List ℕ → Type 0
miscounts_none text = is_nearly_decimals text ≡ false

pub record WorkedDecimals : Type 0 where
  -- `tcpdump -ddd -y EN10MB icmp`, of libpcap 1.10
  pub tcpdump :
      lists (lines (codes "6" ∷ codes "40 0 0 12" ∷ codes "21 0 3 2048" ∷ codes "48 0 0 23" ∷ codes "21 0 1 1" ∷ codes "6 0 0 262144" ∷ codes "6 0 0 0" ∷ []))
      (insn 40 0 0 12 ∷ insn 21 0 3 2048 ∷ insn 48 0 0 23 ∷ insn 21 0 1 1 ∷ insn 6 0 0 262144 ∷ insn 6 0 0 0 ∷ [])
  -- bpf_asm, of Documentation/networking/filter.rst
  pub bpf_asm :
      lists (codes "4,40 0 0 12,21 0 1 2054,6 0 0 4294967295,6 0 0 0," ++ 10 ∷ [])
      (insn 40 0 0 12 ∷ insn 21 0 1 2054 ∷ insn 6 0 0 4294967295 ∷ insn 6 0 0 0 ∷ [])
  pub no_last_comma : lists (codes "1,6 0 0 0") refuses
  pub open_line : lists (codes "1" ++ 10 ∷ codes "6 0 0 0") refuses
  pub returns : lists (codes "1" ++ 13 ∷ 10 ∷ codes "6 0 0 0" ++ 13 ∷ 10 ∷ []) refuses
  -- all of its characters are hexadecimal digits
  pub not_hexadecimal : lists (lines (codes "1" ∷ codes "48 0 0 1000" ∷ [])) (insn 48 0 0 1000 ∷ [])
  pub greatest : lists (codes "1,65535 255 255 4294967295") (insn 65535 255 255 4294967295 ∷ [])
  pub none : lists_none (codes "0")
  pub nothing : lists_none (codes "0,")
  pub count_alone : lists_none (codes "1")
  pub fewer : lists_none (codes "2,6 0 0 0")
  pub many_more : lists_none (codes "4294967295,6 0 0 0")
  pub more : lists_none (codes "1,6 0 0 0,6 0 0 0")
  pub three : lists_none (codes "1,6 0 0")
  pub five : lists_none (codes "1,6 0 0 0 0")
  pub three_and_five : lists_none (lines (codes "2" ∷ codes "6 0 0" ∷ codes "6 0 0 0 0" ∷ []))
  pub in_a_row : lists_none (codes "1 6 0 0 0")
  pub code : lists_none (codes "1,65536 0 0 0")
  pub far_true : lists_none (codes "1,6 256 0 0")
  pub far_false : lists_none (codes "1,6 0 256 0")
  pub operand : lists_none (codes "1,6 0 0 4294967296")
  pub hexadecimal : lists_none (codes "1,0x6 0 0 0")
  pub padded : lists_none (codes "1,06 0 0 00")
  pub padded_count : lists_none (codes "01,6 0 0 0")
  pub letters : lists_none (codes "1,6 0 0 0x")
  pub empty_row : lists_none (codes "1,,6 0 0 0")
  -- three rows of `tcpdump -ddd -y EN10MB icmp` with the number of all six, and the six with that of five
  pub cut_short : miscounts (lines (codes "6" ∷ codes "40 0 0 12" ∷ codes "21 0 3 2048" ∷ codes "48 0 0 23" ∷ []))
  pub one_more : miscounts (codes "5,40 0 0 12,21 0 3 2048,48 0 0 23,21 0 1 1,6 0 0 262144,6 0 0 0,")
  pub counts_none : miscounts (codes "0,6 0 0 0")
  pub counted : miscounts_none (codes "1,6 0 0 0")
  pub no_rows : miscounts_none (codes "3")
  pub short_row : miscounts_none (codes "2,6 0 0 0,6 0 0")
  pub long_row : miscounts_none (codes "2,6 0 0 0 0,6 0 0 0,6 0 0 0")
  pub no_number : miscounts_none (codes ",6 0 0 0")
  pub parted : miscounts_none (codes "2 6 0 0 0")
  pub wide : miscounts_none (codes "2,6 256 0 0")
  pub digits : miscounts_none (codes "2,06 0 0 0")
  -- these digits are those of `ret a` in hexadecimal as well
  pub by_chance : miscounts (lines (codes "16" ∷ codes "0 0 0 0" ∷ codes "0 0 1 2" ∷ codes "1 2 3 456" ∷ []))
