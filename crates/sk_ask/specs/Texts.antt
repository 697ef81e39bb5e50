-- What is said of a file that is refused, behind its name: what is wrong, and what was expected.
use Rattle.std.specs.Prelude.{ℕ, ◌++◌, List, [], codes, Option, Some, None}
use Rattle.std.specs.Fmt.{decimal}
use Rattle.sk_insn.specs.declared.image.NoImage.{NoImage}
use Rattle.sk_insn.specs.declared.image.NoImage.TheVariants.{Ragged, Empty as NoInstruction, TooLong as LongImage}
use Rattle.sk_filter.specs.declared.fault.CheckFault.{CheckFault}
use Rattle.sk_filter.specs.declared.fault.CheckFault.TheVariants.{Empty, TooLong, Code, Load, DivZero, Shift, Word, Jump, NoReturn, Unstored}
use Rattle.sk_engines.specs.declared.filters.Refusal.{Refusal}
use Rattle.sk_engines.specs.declared.filters.Refusal.TheVariants.{Image, Program, PathLimit}
use Rattle.sk_ask.specs.declared.fault.LineFault.{LineFault}
use Rattle.sk_ask.specs.declared.fault.LineFault.TheVariants.{UnknownWord, NotHexadecimal}
use Rattle.sk_ask.specs.declared.fault.FileFault.{FileFault}
use Rattle.sk_ask.specs.declared.fault.FileFault.TheVariants.{NoFilter, OddDigits, Line, TooMany, Filter}

-- what is wrong with a line, if it is one of several
abbrev pub at_line : Option ℕ → List ℕ
at_line None = []
at_line (Some line) = codes "line " ++ decimal line ++ codes ": "

-- what is wrong with an instruction, by its place from 0 on
abbrev pub at_instruction : ℕ → List ℕ → List ℕ
at_instruction place what = codes "instruction " ++ decimal place ++ codes ": " ++ what

abbrev pub line_fault_text : LineFault → List ℕ
line_fault_text UnknownWord = codes "expected filter HEX"
line_fault_text NotHexadecimal = codes "expected hexadecimal digits behind filter, two for each byte"

abbrev pub no_image_text : NoImage → List ℕ
no_image_text Ragged = codes "the length is no multiple of 8 bytes: expected instructions as struct sock_filter has them"
no_image_text NoInstruction = codes "there is no instruction"
no_image_text LongImage = codes "there are more than 4096 instructions"

abbrev pub check_fault_text : CheckFault → List ℕ
check_fault_text Empty = codes "there is no instruction"
check_fault_text TooLong = codes "there are more than 4096 instructions"
check_fault_text (Code place) = at_instruction place (codes "the code is none of the 41 that seccomp(2) permits")
check_fault_text (Load place) =
    at_instruction place (codes "no word of struct seccomp_data begins at k: expected a multiple of 4 below 64")
check_fault_text (DivZero place) = at_instruction place (codes "division by the constant 0")
check_fault_text (Shift place) = at_instruction place (codes "shift by a constant of 32 or more")
check_fault_text (Word place) = at_instruction place (codes "there are 16 scratch words: expected k below 16")
check_fault_text (Jump place) = at_instruction place (codes "a jump past the last instruction")
check_fault_text NoReturn = codes "the last instruction is no return"
check_fault_text (Unstored place word) =
    at_instruction place (codes "loads scratch word " ++ decimal word ++ codes ", which some path there does not store")

abbrev pub refusal_text : Refusal → List ℕ
refusal_text (Image why) = no_image_text why
refusal_text (Program fault) = check_fault_text fault
refusal_text PathLimit =
    codes "the filters are too long together: expected at most 32768 instructions, with 4 more for each filter before this one"

abbrev pub fault_text : FileFault → List ℕ
fault_text NoFilter =
    codes "holds no filter: expected bytes of struct sock_filter, hexadecimal digits, lines filter HEX, another form of a filter, a policy, or a profile in JSON"
fault_text OddDigits = codes "has an odd number of hexadecimal digits: expected two for each byte"
fault_text (Line line fault) = at_line (Some line) ++ line_fault_text fault
fault_text (TooMany line) = at_line line ++ codes "one filter too many: expected at most 32 in all files"
fault_text (Filter line why) = at_line line ++ refusal_text why
