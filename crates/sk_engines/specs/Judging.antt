-- The texts of images and programs that are refused.
use Rattle.std.specs.Prelude.{ℕ, ◌++◌, List, codes}
use Rattle.std.specs.Fmt.{decimal}
use Rattle.sk_insn.specs.declared.image.NoImage.{NoImage}
use Rattle.sk_insn.specs.declared.image.NoImage.TheVariants.{Ragged, Empty as EmptyImage, TooLong as LongImage}
use Rattle.sk_filter.specs.declared.fault.CheckFault.{CheckFault}
use Rattle.sk_filter.specs.declared.fault.CheckFault.TheVariants.{Empty, TooLong, Code, Load, DivZero, Shift, Word, Jump, NoReturn, Unstored}

-- bytes that are no image
abbrev pub no_image_text : NoImage → List ℕ
no_image_text Ragged = codes "refused image ragged"
no_image_text EmptyImage = codes "refused image empty"
no_image_text LongImage = codes "refused image too long"

-- a program that is not valid
abbrev pub check_fault_text : CheckFault → List ℕ
check_fault_text Empty = codes "refused 1 empty"
check_fault_text TooLong = codes "refused 2 too long"
check_fault_text (Code place) = codes "refused 3 code at " ++ decimal place
check_fault_text (Load place) = codes "refused 4 load at " ++ decimal place
check_fault_text (DivZero place) = codes "refused 5 divzero at " ++ decimal place
check_fault_text (Shift place) = codes "refused 6 shift at " ++ decimal place
check_fault_text (Word place) = codes "refused 7 word at " ++ decimal place
check_fault_text (Jump place) = codes "refused 8 jump at " ++ decimal place
check_fault_text NoReturn = codes "refused 9 no return"
check_fault_text (Unstored place word) =
    codes "refused 10 unstored at " ++ (decimal place ++ (codes " word " ++ decimal word))
