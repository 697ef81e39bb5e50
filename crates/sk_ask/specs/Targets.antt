-- The forms that a filter is written in.
use Rattle.std.specs.Prelude.{ℕ, ◌++◌, false, if◌then◌else◌, List, [], ◌∷◌, codes, flat_map, Option, Some, None}
use Rattle.std.specs.Fmt.{decimal}
use Rattle.std.specs.Str.{bytes_eq}
use Rattle.hex.specs.Hex.{encode_lower}
use Rattle.sk_forms.specs.Writing.{array_text, base64_text, decimals_text}
use Rattle.sk_insn.specs.declared.insn.Insn.{Insn}
use Rattle.sk_insn.specs.Instructions.{image_of}
use Rattle.sk_ask.specs.Complaints.{of_word}
use Rattle.sk_ask.specs.Endings.{Ending, answered, refused, ComesTo}
use Rattle.sk_ask.specs.FilterText.{filter_line, filter_lines}
use Rattle.sk_ask.specs.declared.target.Grant.{Grant}
use Rattle.sk_ask.specs.declared.target.Grant.TheVariants.{Policy, Profile}
use Rattle.sk_ask.specs.declared.target.Target.{Target}
use Rattle.sk_ask.specs.declared.target.Target.TheVariants.{Lines, Raw, Hex, C, Base64, BpfAsm, Json}

-- the form behind `--to`
abbrev pub target_named : List ℕ → Option Target
target_named name =
    if bytes_eq name (codes "lines") then Some Lines
    else if bytes_eq name (codes "raw") then Some Raw
    else if bytes_eq name (codes "hex") then Some Hex
    else if bytes_eq name (codes "c") then Some C
    else if bytes_eq name (codes "base64") then Some Base64
    else if bytes_eq name (codes "bpf_asm") then Some BpfAsm
    else if bytes_eq name (codes "json") then Some Json
    else None

-- what is written to allow calls, behind `--to` of `ask allow`
abbrev pub grant_named : List ℕ → Option Grant
grant_named name =
    if bytes_eq name (codes "policy") then Some Policy
    else if bytes_eq name (codes "profile") then Some Profile
    else None

-- the option that asks for it
abbrev pub target_option : Target → List ℕ
target_option Lines = codes "--to lines"
target_option Raw = codes "--raw"
target_option Hex = codes "--to hex"
target_option C = codes "--to c"
target_option Base64 = codes "--to base64"
target_option BpfAsm = codes "--to bpf_asm"
target_option Json = codes "--to json"

-- ---- JSON

-- an instruction by the members of `struct sock_filter`
unfoldable pub json_row : Insn → List ℕ
json_row insn =
    codes "{\"code\":" ++ (decimal insn.code ++ (codes ",\"jt\":" ++ (decimal insn.jt
    ++ (codes ",\"jf\":" ++ (decimal insn.jf ++ (codes ",\"k\":" ++ (decimal insn.k ++ codes "}")))))))

-- behind another one
unfoldable pub json_more : Insn → List ℕ
json_more insn = codes ",\n " ++ json_row insn

abbrev pub json_rows : List Insn → List ℕ
json_rows [] = []
json_rows (insn ∷ insns) = json_row insn ++ flat_map json_more insns

-- an array of them: RFC 8259
abbrev pub json_text : List Insn → List ℕ
json_text insns = codes "[" ++ (json_rows insns ++ codes "]\n")

-- ---- one filter

abbrev pub written_text : Target → List Insn → List ℕ
written_text Lines insns = filter_line (image_of insns)
written_text Raw insns = image_of insns
written_text Hex insns = encode_lower (image_of insns) ++ codes "\n"
written_text C insns = array_text insns
written_text Base64 insns = base64_text (image_of insns)
written_text BpfAsm insns = decimals_text insns
written_text Json insns = json_text insns

-- ---- the filters of a chain, which have these images

-- the only one, in a form
abbrev pub GivesOne : Target → List (List Insn) → List ℕ → Ending → Type 0
GivesOne target (insns ∷ []) notes ending = ComesTo (answered notes (written_text target insns) false) ending
GivesOne target chain notes ending =
    ComesTo (refused (of_word (codes "filter: the FILEs hold several filters: expected one with ") (target_option target))) ending

-- there is a line for each, and another form is that of one
abbrev pub Gives : Target → List (List Insn) → List (List ℕ) → List ℕ → Ending → Type 0
Gives Lines chain images notes ending = ComesTo (answered notes (filter_lines images) false) ending
Gives target chain images notes ending = GivesOne target chain notes ending
