-- What a caller of the library is told of its filters: a number of include/skern.h, and where.
use Rattle.std.specs.Prelude.{ℕ, ◌≡◌, ◌⊎◌, nat_lt, if◌then◌else◌, List, Option, Some, None, Result, Ok, Err}
use Rattle.sk_insn.specs.declared.insn.Insn.{Insn}
use Rattle.sk_insn.specs.declared.image.NoImage.{NoImage}
use Rattle.sk_insn.specs.declared.image.NoImage.TheVariants.{Ragged, Empty as EmptyImage, TooLong as LongImage}
use Rattle.sk_filter.specs.declared.fault.CheckFault.{CheckFault}
use Rattle.sk_filter.specs.declared.fault.CheckFault.TheVariants.{Empty, TooLong, Code, Load, DivZero, Shift, Word, Jump, NoReturn, Unstored}
use Rattle.sk_filter.specs.FirstFault.{first_fault}
use Rattle.sk_filter.specs.Valid.{fault_place}
use Rattle.sk_engines.specs.declared.filters.Refusal.{Refusal}
use Rattle.sk_engines.specs.declared.filters.Refusal.TheVariants.{Image, Program, PathLimit}
use Rattle.libskern.specs.declared.fault.Fault.{Fault}

-- nothing is wrong
abbrev pub fine : ℕ
fine = 0

-- memory was refused
abbrev pub no_memory : ℕ
no_memory = 13

-- the new filters do not answer the call that is shown as they are to
abbrev pub differ : ℕ
differ = 14

-- there is less room than what is to be written takes
abbrev pub no_room : ℕ
no_room = 22

-- it is not known: a filter does what is not followed, or the steps were used up
abbrev pub unfollowed : ℕ
unfollowed = 15

abbrev pub spent : ℕ
spent = 16

-- the faults of a program, seccomp(2): EINVAL; so `skern check` counts them
abbrev pub number_of : CheckFault → ℕ
number_of Empty = 1
number_of TooLong = 2
number_of (Code place) = 3
number_of (Load place) = 4
number_of (DivZero place) = 5
number_of (Shift place) = 6
number_of (Word place) = 7
number_of (Jump place) = 8
number_of NoReturn = 9
number_of (Unstored place word) = 10

-- bytes that are no whole struct sock_filters of linux/filter.h, or not 1 to 4096
abbrev pub no_image_number : NoImage → ℕ
no_image_number EmptyImage = 1
no_image_number LongImage = 2
no_image_number Ragged = 11

-- a number that is said of all filters together
abbrev pub plain : ℕ → Fault
plain number = record { reason = number; chain = 0; filter = 0; place = 0 }

-- a filter of a chain is refused; 12 says that those before it leave no room, seccomp(2): ENOMEM
abbrev pub refusal_at : ℕ → ℕ → Refusal → Fault
refusal_at chain filter (Image why) = record { reason = no_image_number why; chain = chain; filter = filter; place = 0 }
refusal_at chain filter (Program fault) =
    record { reason = number_of fault; chain = chain; filter = filter; place = fault_place fault }
refusal_at chain filter PathLimit = record { reason = 12; chain = chain; filter = filter; place = 0 }

-- what is told of one filter, by its first fault
abbrev pub told_of_program : Option CheckFault → Fault
told_of_program None = plain fine
told_of_program (Some fault) = refusal_at 0 0 (Program fault)

-- and by what its image holds
abbrev pub told_of_image : Result (List Insn) NoImage → Fault
told_of_image (Ok insns) = told_of_program (first_fault insns)
told_of_image (Err why) = refusal_at 0 0 (Image why)

-- what is told beside an answer, or in its place
abbrev pub told_of : {X : Type 0} → Result X Fault → Fault
told_of (Ok answer) = plain fine
told_of (Err fault) = fault

-- of a chain that is asked about so many calls, with room for so many verdicts
abbrev pub told_of_calls : {X : Type 0} → ℕ → ℕ → Result X Fault → Fault
told_of_calls calls room chain = if nat_lt room calls then plain no_room else told_of chain

-- of two chains one of these is told, and of filters that are refused the fault
abbrev pub IsTold : {X : Type 0} → Result X Fault → Fault → Type 0
IsTold (Ok chains) it = (it ≡ plain fine) ⊎ ((it ≡ plain differ) ⊎ ((it ≡ plain unfollowed) ⊎ (it ≡ plain spent)))
IsTold (Err fault) it = it ≡ fault
