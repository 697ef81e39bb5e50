-- Rows of the tables, as the manual pages of the calls and the headers of Linux have them.
use Rattle.std.specs.Prelude.{◌≡◌, ℕ, ◌+◌, ◌^◌, List, [], ◌∷◌, codes, Option, Some, None}
use Rattle.sk_names.specs.declared.architecture.Architecture.TheVariants as architecture
use Rattle.sk_arguments.specs.declared.forms.Form.{Form}
use Rattle.sk_arguments.specs.declared.forms.Form.TheVariants as form
use Rattle.sk_arguments.specs.declared.kinds.Kind.TheVariants as kind
use Rattle.sk_arguments.specs.declared.naming.Naming.TheVariants as naming
use Rattle.sk_arguments.specs.Reading.{kind_of, unread_places, decided_by, argument_name}
use Rattle.sk_arguments.specs.Constants.{name_in, number_of_constant, form_of}
use Rattle.sk_arguments.specs.Naming.{call_with_constants}

-- socket(2) has three ints, on x32 too. clone(2) reads half of its flags, and chmod(2) a mode. No call has the number 400.
abbrev pub WorkedKinds : Type 0
WorkedKinds =
    (kind_of 41 0 ≡ kind.Int)
    × (kind_of 41 3 ≡ kind.Absent)
    × (kind_of (2 ^ 30 + 41) 0 ≡ kind.Int)
    × (kind_of 56 0 ≡ kind.Unsigned)
    × (kind_of 56 1 ≡ kind.Long)
    × (kind_of 90 0 ≡ kind.Pointer)
    × (kind_of 90 1 ≡ kind.Mode)
    × (kind_of 400 0 ≡ kind.Long)
    × (kind_of 41 6 ≡ kind.Long)

-- struct seccomp_data has the arguments from 16 on, with the lower half of each first
abbrev pub WorkedPlaces : Type 0
WorkedPlaces =
    (unread_places 41 ≡ 20 ∷ 28 ∷ 36 ∷ 40 ∷ 44 ∷ 48 ∷ 52 ∷ 56 ∷ 60 ∷ [])
    × (unread_places 400 ≡ [])

-- fcntl(2) reads its third argument for some of its commands, and socket(2) its protocol always
abbrev pub WorkedRows : Type 0
WorkedRows =
    (decided_by 72 2 ≡ Some 1)
    × (decided_by 72 1 ≡ None)
    × (decided_by 157 4 ≡ Some 0)
    × (decided_by 41 2 ≡ None)
    × (argument_name 41 0 ≡ Some (codes "domain"))
    × (argument_name 41 3 ≡ None)
    × (argument_name (2 ^ 30 + 59) 0 ≡ Some (codes "pathname"))

abbrev pub WorkedConstants : Type 0
WorkedConstants =
    (number_of_constant (codes "AF_UNIX") ≡ Some 1)
    × (number_of_constant (codes "AF_LOCAL") ≡ Some 1)
    × (number_of_constant (codes "CLONE_NEWUSER") ≡ Some (2 ^ 28))
    × (number_of_constant (codes "AT_FDCWD") ≡ Some 4294967196)
    × (number_of_constant (codes "AF_") ≡ None)

-- the name of a number that stands alone
abbrev pub name_by : Form → ℕ → Option (List ℕ)
name_by (form.One set) number = name_in set number
name_by (form.Bits set field) number = name_in set number
name_by form.Plain number = None

-- what is known of the first two arguments
abbrev pub two : Option ℕ → Option ℕ → List (Option ℕ)
two first second = first ∷ second ∷ None ∷ None ∷ None ∷ None ∷ []

-- 9 is NETLINK_AUDIT to AF_NETLINK, 16, and 17 IPPROTO_UDP to AF_INET, 2. Bits of the upper half are not read.
-- F_SETFL, 4, takes flags of open(2), and F_ADD_SEALS, 1033, takes none.
abbrev pub WorkedForms : Type 0
WorkedForms =
    (name_by (form_of 41 2 (two (Some 16) None)) 9 ≡ Some (codes "NETLINK_AUDIT"))
    × (name_by (form_of 41 2 (two (Some (2 ^ 32 + 16)) None)) 9 ≡ Some (codes "NETLINK_AUDIT"))
    × (name_by (form_of 41 2 (two (Some 2) None)) 17 ≡ Some (codes "IPPROTO_UDP"))
    × (form_of 41 2 (two None None) ≡ form.Plain)
    × (name_by (form_of 72 2 (two None (Some 4))) 2048 ≡ Some (codes "O_NONBLOCK"))
    × (name_by (form_of 72 2 (two None (Some 2))) 1 ≡ Some (codes "FD_CLOEXEC"))
    × (form_of 72 2 (two None (Some 1033)) ≡ form.Plain)
    × (form_of 0 0 (two None None) ≡ form.Plain)

-- execve(2) is 59 on x86-64, and 520 with bit 30 on x32
abbrev pub WorkedNaming : Type 0
WorkedNaming =
    (call_with_constants naming.Constants architecture.X86_64 59 ≡ Some 59)
    × (call_with_constants naming.Constants architecture.X86_64 400 ≡ None)
    × (call_with_constants naming.Constants architecture.X32 (2 ^ 30 + 520) ≡ Some 59)
    × (call_with_constants naming.Constants architecture.I386 11 ≡ None)
    × (call_with_constants naming.Numbers architecture.X86_64 59 ≡ None)
