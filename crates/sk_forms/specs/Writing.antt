-- Filters as texts: arrays as `tcpdump -dd` writes them (bpf_dump of libpcap), decimals as bpf_asm of the kernel (tools/bpf) does, and base64 (RFC 4648).
use Rattle.std.specs.Prelude.{ℕ, false, List, ◌++◌, length, flat_map, codes}
use Rattle.std.specs.Fmt.{decimal, digits}
use Rattle.base64.specs.Engines.{standard}
use Rattle.base64.specs.GeneralPurpose.{encode_of}
use Rattle.sk_text.specs.Hexadecimal.{hex_word}
use Rattle.sk_insn.specs.declared.insn.Insn.{Insn}

-- ---- arrays

-- `{ 0x20, 0, 0, 0x00000004 },`: the code in as many hexadecimal digits as it has, the operand in eight
abbrev pub array_line : Insn → List ℕ
array_line insn =
    codes "{ 0x" ++ (digits 16 false insn.code ++ (codes ", " ++ (decimal insn.jt ++ (codes ", " ++ (decimal insn.jf ++ (codes ", 0x" ++ (hex_word insn.k ++ codes " },\n")))))))

abbrev pub array_text : List Insn → List ℕ
array_text insns = flat_map array_line insns

-- ---- decimals

-- `32 0 0 4,`
abbrev pub decimals_row : Insn → List ℕ
decimals_row insn = decimal insn.code ++ (codes " " ++ (decimal insn.jt ++ (codes " " ++ (decimal insn.jf ++ (codes " " ++ (decimal insn.k ++ codes ","))))))

abbrev pub decimals_rows : List Insn → List ℕ
decimals_rows insns = flat_map decimals_row insns

-- the number of the rows stands before them
abbrev pub decimals_text : List Insn → List ℕ
decimals_text insns = decimal (length insns) ++ (codes "," ++ (decimals_rows insns ++ codes "\n"))

-- ---- base64

abbrev pub base64_text : List ℕ → List ℕ
base64_text image = encode_of standard image ++ codes "\n"
