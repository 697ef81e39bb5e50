-- Profiles that are worked out by hand.
use Rattle.std.specs.Prelude.{ℕ, ◌≡◌, ◌+◌, Bool, true, false, List, [], ◌∷◌, map, codes, Some, None, Result, Ok, Err}
use Rattle.std.specs.Borrow.{Bor}
use Rattle.std.specs.Option.{option_map}
use Rattle.json.specs.Json.{Json, document, null, string, number, array, object, Items, no_items, item, Members, no_members, member}
use Rattle.sk_profile.specs.declared.condition.Condition.{Condition}
use Rattle.sk_profile.specs.declared.condition.Test.{Test}
use Rattle.sk_profile.specs.declared.condition.Test.TheVariants.{Is, IsNot, Below, AtMost, Above, AtLeast, Masked}
use Rattle.sk_profile.specs.Profiles.{Rule, Part, Profile}
use Rattle.sk_profile_json.specs.declared.context.Context.{Context}
use Rattle.sk_profile_json.specs.declared.context.Kernel.{Kernel}
use Rattle.sk_profile_json.specs.declared.fault.Fault.{Fault}
use Rattle.sk_profile_json.specs.declared.fault.Field.TheVariants as field
use Rattle.sk_profile_json.specs.declared.fault.Place.{Place}
use Rattle.sk_profile_json.specs.declared.fault.Place.TheVariants as place
use Rattle.sk_profile_json.specs.declared.fault.Wrong.{Wrong}
use Rattle.sk_profile_json.specs.declared.fault.Wrong.TheVariants.{NotAnObject, UnknownKey, Missing, NotTaken, Contradicts}
use Rattle.sk_profile_json.specs.declared.machine.Machine.{Machine}
use Rattle.sk_profile_json.specs.declared.machine.Machine.TheVariants as machine
use Rattle.sk_profile_json.specs.Contexts.{kernel_of}
use Rattle.sk_profile_json.specs.Machines.{machine_named}
use Rattle.sk_profile_json.specs.Wholes.{profile_in}

-- ---- what the rows are made of

abbrev pub of : {A : Type 0} → A → Bor A
of x = record { ref_ptr = (0, 0); now = x }

abbrev pub kernel : ℕ → ℕ → Kernel
kernel major minor = record { major = major; minor = minor }

-- kernel 5.4 without capabilities, on a machine
abbrev pub on_machine : Machine → Context
on_machine machine = record { capabilities = of []; kernel = kernel 5 4; runc = false; machine = Some machine; native = false }

abbrev pub plain : Context
plain = on_machine machine.X86_64

-- with a capability; where runc attaches the filter; and for the machine's own architecture alone
abbrev pub admin : Context
admin = record plain { capabilities = of (of (codes "CAP_SYS_ADMIN") ∷ []) }

abbrev pub by_runc : Context
by_runc = record plain { runc = true }

abbrev pub native : Context
native = record plain { native = true }

abbrev pub items_from : List Json → Items
items_from [] = no_items
items_from (j ∷ js) = item j (items_from js)

abbrev pub members_from : List (List ℕ × Json) → Members
members_from [] = no_members
members_from (m ∷ ms) = member m.0 m.1 (members_from ms)

abbrev pub listed : List Json → Json
listed js = array (items_from js)

-- what every entry of the rows has
abbrev pub entry : List ℕ → List ℕ → List (List ℕ × Json) → Json
entry name action more = object (members_from ((codes "names", listed (string name ∷ [])) ∷ (codes "action", string action) ∷ more))

abbrev pub argument : List ℕ → List ℕ → List ℕ → List (List ℕ × Json) → Json
argument index value op more =
    object (members_from ((codes "index", number index) ∷ (codes "value", number value) ∷ (codes "op", string op) ∷ more))

abbrev pub profile : List ℕ → List (List ℕ × Json) → Json
profile action more = object (members_from ((codes "defaultAction", string action) ∷ more))

-- a profile that refuses by EPERM but for these entries
abbrev pub refusing : List Json → Json
refusing entries = profile (codes "SCMP_ACT_ERRNO") ((codes "syscalls", listed entries) ∷ [])

abbrev pub allowing : List ℕ → List (List ℕ × Json) → Json
allowing name more = entry name (codes "SCMP_ACT_ALLOW") more

-- the call may be made where these hold
abbrev pub allowing_where : List ℕ → List Json → Json
allowing_where name arguments = allowing name ((codes "args", listed arguments) ∷ [])

abbrev pub rule : ℕ → ℕ → List Condition → ℕ → Rule
rule place nr conditions value = record { number = nr; conditions = conditions; value = value; entry = place }

abbrev pub condition : ℕ → Test → ℕ → Condition
condition index test value = record { index = index; test = test; value = value }

-- the parts of x86-64, without x32 and with it, of i386, and of one by its number of linux/audit.h
abbrev pub x86_64_alone : List Rule → Part
x86_64_alone rules = record { audit = 0xC000003E; narrow = false; without_x32 = true; rules = rules; top = 0; x32_top = 0 }

abbrev pub x86_64_and_x32 : List Rule → Part
x86_64_and_x32 rules = record { audit = 0xC000003E; narrow = false; without_x32 = false; rules = rules; top = 0; x32_top = 0 }

abbrev pub i386 : List Rule → Part
i386 rules = record { audit = 0x40000003; narrow = true; without_x32 = false; rules = rules; top = 0; x32_top = 0 }

abbrev pub part : ℕ → Bool → List Rule → Part
part audit narrow rules = record { audit = audit; narrow = narrow; without_x32 = false; rules = rules; top = 0; x32_top = 0 }

-- with the greatest numbers that runc's instructions know
abbrev pub up_to : ℕ → ℕ → Part → Part
up_to top x32_top part = record part { top = top; x32_top = x32_top }

abbrev pub says_of : List Part → ℕ → Result Profile Fault
says_of parts default = Ok (record { parts = parts; default = default; bad = 0 })

abbrev pub says : List Rule → ℕ → Result Profile Fault
says rules default = says_of (x86_64_alone rules ∷ []) default

abbrev pub wrong : Place → Wrong → Result Profile Fault
wrong spot it = Err (record { place = spot; wrong = it })

abbrev pub eq : List ℕ
eq = codes "SCMP_CMP_EQ"

abbrev pub masked : List ℕ
masked = codes "SCMP_CMP_MASKED_EQ"

-- docker's entry for clone, without CAP_SYS_ADMIN
abbrev pub clone : Json
clone = allowing (codes "clone") (
    (codes "args", listed (argument (codes "0") (codes "2114060288") masked [] ∷ []))
    ∷ (codes "comment", string [])
    ∷ (codes "includes", object no_members)
    ∷ (
      codes "excludes",
      object (members_from ((codes "caps", listed (string (codes "CAP_SYS_ADMIN") ∷ []))
          ∷ (codes "arches", listed (string (codes "s390") ∷ string (codes "s390x") ∷ [])) ∷ [])),
    )
    ∷ [])

-- an entry for ptrace, from a kernel on
abbrev pub ptrace_from : List ℕ → Json
ptrace_from version = allowing (codes "ptrace") (
    (codes "args", null) ∷ (codes "includes", object (members_from ((codes "minKernel", string version) ∷ []))) ∷ [])

abbrev pub for_arches : List ℕ → Json
for_arches arch = allowing (codes "ptrace") ((codes "includes", object (members_from ((codes "arches", listed (string arch ∷ [])) ∷ []))) ∷ [])

abbrev pub with_caps : List ℕ → Json
with_caps cap = allowing (codes "ptrace") ((codes "includes", object (members_from ((codes "caps", listed (string cap ∷ [])) ∷ []))) ∷ [])

abbrev pub failing : List (List ℕ × Json) → Json
failing more = entry (codes "clone3") (codes "SCMP_ACT_ERRNO") more

abbrev pub architectures : List ℕ → Json
architectures name = listed (string (codes "SCMP_ARCH_X86") ∷ string name ∷ [])

abbrev pub maps : List ℕ → Json
maps name = listed (object (members_from ((codes "architecture", string name) ∷ (codes "subArchitectures", listed (string (codes "SCMP_ARCH_X32") ∷ [])) ∷ [])) ∷ [])

abbrev pub x86_64 : List ℕ
x86_64 = codes "SCMP_ARCH_X86_64"

abbrev pub texts : List (List ℕ) → Json
texts names = listed (map (λ name. string name) names)

abbrev pub x32 : List ℕ
x32 = codes "SCMP_ARCH_X32"

abbrev pub x86 : List ℕ
x86 = codes "SCMP_ARCH_X86"

-- a profile with this default for these architectures, and entries
abbrev pub on_these : List ℕ → List (List ℕ) → List Json → Json
on_these action names entries = profile action ((codes "architectures", texts names) ∷ (codes "syscalls", listed entries) ∷ [])

-- one that refuses by EPERM on x86-64 and i386
abbrev pub on_both : List Json → Json
on_both entries = on_these (codes "SCMP_ACT_ERRNO") (x86_64 ∷ x86 ∷ []) entries

-- and what it says of both
abbrev pub says_both : List Rule → List Rule → ℕ → Result Profile Fault
says_both own other default = says_of (x86_64_alone own ∷ i386 other ∷ []) default

abbrev pub allow : ℕ
allow = 0x7fff0000

-- the first argument under a mask, as a call that tells others reads it
abbrev pub told : ℕ → ℕ → List Condition
told mask place = record { index = 0; test = Masked mask; value = place } ∷ []

-- socket(2) is for AF_NETLINK, 16
abbrev pub netlink : List Condition
netlink = record { index = 0; test = Is; value = 16 } ∷ []

-- an entry for it, and one for all families
abbrev pub socket_where : List ℕ → List (List ℕ × Json) → Json
socket_where action more =
    entry (codes "socket") action ((codes "args", listed (argument (codes "0") (codes "16") (codes "SCMP_CMP_EQ") [] ∷ [])) ∷ more)

abbrev pub socket : List ℕ → Json
socket action = entry (codes "socket") action []

-- the architectures of config-linux.md, in its order
abbrev pub every_architecture : Json
every_architecture = texts (
    codes "SCMP_ARCH_X86" ∷ codes "SCMP_ARCH_X86_64" ∷ codes "SCMP_ARCH_X32" ∷ codes "SCMP_ARCH_ARM" ∷ codes "SCMP_ARCH_AARCH64" ∷
    codes "SCMP_ARCH_MIPS" ∷ codes "SCMP_ARCH_MIPS64" ∷ codes "SCMP_ARCH_MIPS64N32" ∷ codes "SCMP_ARCH_MIPSEL" ∷ codes "SCMP_ARCH_MIPSEL64" ∷ codes "SCMP_ARCH_MIPSEL64N32" ∷
    codes "SCMP_ARCH_PPC" ∷ codes "SCMP_ARCH_PPC64" ∷ codes "SCMP_ARCH_PPC64LE" ∷ codes "SCMP_ARCH_S390" ∷ codes "SCMP_ARCH_S390X" ∷ codes "SCMP_ARCH_PARISC" ∷ codes "SCMP_ARCH_PARISC64" ∷
    codes "SCMP_ARCH_RISCV64" ∷ codes "SCMP_ARCH_LOONGARCH64" ∷ codes "SCMP_ARCH_M68K" ∷ codes "SCMP_ARCH_SH" ∷ codes "SCMP_ARCH_SHEB" ∷ [])

-- x32 stands below the one architecture, and x86-64 for itself
abbrev pub x32_below : List ℕ → Json
x32_below name =
    listed (object (members_from ((codes "architecture", string name) ∷ (codes "subArchitectures", texts (codes "SCMP_ARCH_X32" ∷ [])) ∷ []))
    ∷ object (members_from ((codes "architecture", string x86_64) ∷ [])) ∷ [])

-- and below x86-64 in a second object for it
abbrev pub later_x32 : Json
later_x32 =
    listed (object (members_from ((codes "architecture", string x86_64) ∷ []))
    ∷ object (members_from ((codes "architecture", string x86_64) ∷ (codes "subArchitectures", texts (codes "SCMP_ARCH_X32" ∷ [])) ∷ [])) ∷ [])

-- the call may be made where neither of these is so
abbrev pub unless : List (List ℕ × Json) → Json
unless excluded = allowing (codes "ptrace") ((codes "excludes", object (members_from excluded)) ∷ [])

-- the first argument of read(2) is compared with 5
abbrev pub by_operator : List ℕ → Json
by_operator op = refusing (allowing_where (codes "read") (argument (codes "0") (codes "5") op [] ∷ []) ∷ [])

abbrev pub compared : Test → Result Profile Fault
compared test = says (rule 0 0 (condition 0 test 5 ∷ []) 0x7fff0000 ∷ []) 0x50001

-- an error by its number and its name
abbrev pub named_error : List ℕ → List ℕ → Json
named_error number_text name = refusing (failing ((codes "errnoRet", number number_text) ∷ (codes "errno", string name) ∷ []) ∷ [])

abbrev pub ptrace : Result Profile Fault
ptrace = says (rule 0 101 [] 0x7fff0000 ∷ []) 0x50001

-- read and write are allowed by one entry
abbrev pub entry_of_two : Json
entry_of_two = object (members_from ((codes "names", texts (codes "read" ∷ codes "write" ∷ [])) ∷ (codes "action", string (codes "SCMP_ACT_ALLOW")) ∷ []))

-- ---- the rows

pub record WorkedProfiles : Type 0 where
  -- docker's personality, and clone with its mask
  pub personality : profile_in plain (refusing (allowing_where (codes "personality") (argument (codes "0") (codes "131080") eq [] ∷ []) ∷ []))
      ≡ says (rule 0 135 (condition 0 Is 131080 ∷ []) 0x7fff0000 ∷ []) 0x50001
  pub clone_by_mask : profile_in plain (refusing (clone ∷ [])) ≡ says (rule 0 56 (condition 0 (Masked 2114060288) 0 ∷ []) 0x7fff0000 ∷ []) 0x50001
  pub clone_left_out : profile_in admin (refusing (clone ∷ [])) ≡ says [] 0x50001
  pub two_entries : profile_in plain (refusing (allowing (codes "read") [] ∷ allowing (codes "write") [] ∷ []))
      ≡ says (rule 0 0 [] 0x7fff0000 ∷ rule 1 1 [] 0x7fff0000 ∷ []) 0x50001
  -- the second entry names two calls, and the first one counts for nobody without the capability
  pub behind_a_left_out_one : profile_in plain (refusing (with_caps (codes "CAP_SYS_ADMIN") ∷ entry_of_two ∷ []))
      ≡ says (rule 1 0 [] 0x7fff0000 ∷ rule 1 1 [] 0x7fff0000 ∷ []) 0x50001
  pub two_arguments : profile_in plain (refusing (allowing_where (codes "kcmp") (
      argument (codes "1") (codes "1337") (codes "SCMP_CMP_GT") ((codes "valueTwo", number (codes "0")) ∷ [])
      ∷ argument (codes "5") (codes "18446744073709551615") eq [] ∷ []) ∷ []))
      ≡ says (rule 0 312 (condition 1 Above 1337 ∷ condition 5 Is 18446744073709551615 ∷ []) 0x7fff0000 ∷ []) 0x50001
  pub by_one_name : profile_in plain (refusing (object (members_from ((codes "name", string (codes "open")) ∷ (codes "action", string (codes "SCMP_ACT_LOG")) ∷ [])) ∷ []))
      ≡ says (rule 0 2 [] 0x7ffc0000 ∷ []) 0x50001
  pub no_call_of_x86_64 : profile_in plain (refusing (allowing (codes "chown32") [] ∷ [])) ≡ says [] 0x50001
  -- values
  pub older_kill : profile_in plain (profile (codes "SCMP_ACT_KILL") []) ≡ says [] 0
  pub kill_process : profile_in plain (profile (codes "SCMP_ACT_KILL_PROCESS") []) ≡ says [] 0x80000000
  pub trace : profile_in plain (profile (codes "SCMP_ACT_TRACE") []) ≡ says [] 0x7ff00001
  pub kill_thread : profile_in plain (profile (codes "SCMP_ACT_KILL_THREAD") []) ≡ says [] 0
  pub trap : profile_in plain (profile (codes "SCMP_ACT_TRAP") []) ≡ says [] 0x30000
  pub notified : profile_in plain (refusing (entry (codes "read") (codes "SCMP_ACT_NOTIFY") [] ∷ [])) ≡ says (rule 0 0 [] 0x7fc00000 ∷ []) 0x50001
  pub number_for_told : profile_in plain (refusing (entry (codes "read") (codes "SCMP_ACT_NOTIFY") ((codes "errnoRet", number (codes "1")) ∷ []) ∷ []))
      ≡ wrong (place.Entry 0) (Contradicts field.ErrnoRet)
  -- a tracer is told a number of 16 bits
  pub traced_number : profile_in plain (profile (codes "SCMP_ACT_TRACE") ((codes "defaultErrnoRet", number (codes "65535")) ∷ [])) ≡ says [] 0x7ff0ffff
  pub no_traced_number : profile_in plain (profile (codes "SCMP_ACT_TRACE") ((codes "defaultErrnoRet", number (codes "65536")) ∷ []))
      ≡ wrong place.Profile (NotTaken field.DefaultErrnoRet)
  -- errors that errno(3) has two names for
  pub would_block : profile_in plain (named_error (codes "11") (codes "EWOULDBLOCK")) ≡ says (rule 0 435 [] 0x5000b ∷ []) 0x50001
  pub not_supported : profile_in plain (named_error (codes "95") (codes "ENOTSUP")) ≡ says (rule 0 435 [] 0x5005f ∷ []) 0x50001
  pub deadlock : profile_in plain (named_error (codes "35") (codes "EDEADLOCK")) ≡ says (rule 0 435 [] 0x50023 ∷ []) 0x50001
  pub other_error : profile_in plain (named_error (codes "11") (codes "ENOTSUP")) ≡ wrong (place.Entry 0) (Contradicts field.Errno)
  -- operators
  pub not_equal : profile_in plain (by_operator (codes "SCMP_CMP_NE")) ≡ compared IsNot
  pub less : profile_in plain (by_operator (codes "SCMP_CMP_LT")) ≡ compared Below
  pub less_or_equal : profile_in plain (by_operator (codes "SCMP_CMP_LE")) ≡ compared AtMost
  pub equal : profile_in plain (by_operator (codes "SCMP_CMP_EQ")) ≡ compared Is
  pub greater_or_equal : profile_in plain (by_operator (codes "SCMP_CMP_GE")) ≡ compared AtLeast
  pub greater : profile_in plain (by_operator (codes "SCMP_CMP_GT")) ≡ compared Above
  pub enosys : profile_in plain (refusing (failing ((codes "errnoRet", number (codes "38")) ∷ (codes "errno", string (codes "ENOSYS")) ∷ []) ∷ []))
      ≡ says (rule 0 435 [] 0x50026 ∷ []) 0x50001
  pub greatest : profile_in plain (profile (codes "SCMP_ACT_ERRNO") ((codes "defaultErrnoRet", number (codes "4094")) ∷ [])) ≡ says [] 0x50ffe
  -- where an entry counts
  pub from_this_kernel : profile_in plain (refusing (ptrace_from (codes "5.4") ∷ [])) ≡ says (rule 0 101 [] 0x7fff0000 ∷ []) 0x50001
  pub from_an_earlier_one : profile_in plain (refusing (ptrace_from (codes "4.8") ∷ [])) ≡ says (rule 0 101 [] 0x7fff0000 ∷ []) 0x50001
  pub from_a_later_one : profile_in plain (refusing (ptrace_from (codes "5.10") ∷ [])) ≡ says [] 0x50001
  pub for_this_arch : profile_in plain (refusing (for_arches (codes "amd64") ∷ [])) ≡ says (rule 0 101 [] 0x7fff0000 ∷ []) 0x50001
  pub for_another_arch : profile_in plain (refusing (for_arches (codes "arm64") ∷ [])) ≡ says [] 0x50001
  pub with_a_capability : profile_in admin (refusing (with_caps (codes "CAP_SYS_ADMIN") ∷ [])) ≡ says (rule 0 101 [] 0x7fff0000 ∷ []) 0x50001
  pub without_it : profile_in plain (refusing (with_caps (codes "CAP_SYS_ADMIN") ∷ [])) ≡ says [] 0x50001
  pub with_another : profile_in admin (refusing (with_caps (codes "CAP_SYS_BOOT") ∷ [])) ≡ says [] 0x50001
  pub with_one_of_two : profile_in admin (refusing (allowing (codes "ptrace") ((codes "includes", object (members_from ((codes "caps", texts (codes "CAP_SYS_BOOT" ∷ codes "CAP_SYS_ADMIN" ∷ [])) ∷ []))) ∷ []) ∷ []))
      ≡ says [] 0x50001
  pub unless_one_of_two : profile_in admin (refusing (unless ((codes "caps", texts (codes "CAP_SYS_BOOT" ∷ codes "CAP_SYS_ADMIN" ∷ [])) ∷ []) ∷ [])) ≡ says [] 0x50001
  pub unless_another : profile_in admin (refusing (unless ((codes "caps", texts (codes "CAP_SYS_BOOT" ∷ [])) ∷ []) ∷ [])) ≡ ptrace
  pub unless_this_arch : profile_in plain (refusing (unless ((codes "arches", texts (codes "amd64" ∷ [])) ∷ []) ∷ [])) ≡ says [] 0x50001
  pub unless_another_arch : profile_in plain (refusing (unless ((codes "arches", texts (codes "arm64" ∷ [])) ∷ []) ∷ [])) ≡ ptrace
  pub unless_this_kernel : profile_in plain (refusing (unless ((codes "minKernel", string (codes "5.4")) ∷ []) ∷ [])) ≡ says [] 0x50001
  pub unless_a_later_one : profile_in plain (refusing (unless ((codes "minKernel", string (codes "5.5")) ∷ []) ∷ [])) ≡ ptrace
  pub major_goes_first : profile_in plain (refusing (ptrace_from (codes "4.20") ∷ [])) ≡ ptrace
  pub major_is_later : profile_in plain (refusing (ptrace_from (codes "6.1") ∷ [])) ≡ says [] 0x50001
  -- every key
  pub all_keys : profile_in plain (profile (codes "SCMP_ACT_ERRNO") (
      (codes "defaultErrnoRet", number (codes "38")) ∷ (codes "defaultErrno", string (codes "ENOSYS")) ∷ (codes "architectures", texts (x86_64 ∷ []))
      ∷ (codes "archMap", listed []) ∷ (codes "flags", texts (codes "SECCOMP_FILTER_FLAG_LOG" ∷ [])) ∷ (codes "listenerPath", string (codes "/run/listener"))
      ∷ (codes "listenerMetadata", string (codes "from here")) ∷ (
        codes "syscalls",
        listed (entry (codes "read") (codes "SCMP_ACT_ERRNO") (
            (codes "errnoRet", number (codes "5")) ∷ (codes "errno", string (codes "EIO")) ∷ (codes "args", listed []) ∷ (codes "comment", string (codes "none"))
            ∷ (codes "includes", object no_members) ∷ (codes "excludes", object no_members) ∷ []) ∷ []),
      ) ∷ []))
      ≡ says (rule 0 0 [] 0x50005 ∷ []) 0x50026
  -- what is refused of the profile
  pub no_object : profile_in plain (listed []) ≡ wrong place.Profile NotAnObject
  pub unknown_key : profile_in plain (profile (codes "SCMP_ACT_LOG") ((codes "default", null) ∷ [])) ≡ wrong place.Profile (UnknownKey 1)
  pub both_lists : profile_in plain (profile (codes "SCMP_ACT_LOG") ((codes "architectures", architectures x86_64) ∷ (codes "archMap", maps x86_64) ∷ []))
      ≡ wrong place.Profile (Contradicts field.ArchMap)
  -- architectures
  pub listed_ones : profile_in plain (profile (codes "SCMP_ACT_LOG") ((codes "architectures", architectures x86_64) ∷ [])) ≡ says_both [] [] 0x7ffc0000
  pub mapped : profile_in plain (profile (codes "SCMP_ACT_LOG") ((codes "archMap", maps x86_64) ∷ [])) ≡ says_of (x86_64_and_x32 [] ∷ []) 0x7ffc0000
  pub every_name : profile_in plain (profile (codes "SCMP_ACT_LOG") ((codes "architectures", every_architecture) ∷ []))
      ≡ says_of (x86_64_and_x32 [] ∷ i386 [] ∷ []) 0x7ffc0000
  pub every_name_alone : profile_in native (profile (codes "SCMP_ACT_LOG") ((codes "architectures", every_architecture) ∷ [])) ≡ says [] 0x7ffc0000
  pub first_map : profile_in plain (profile (codes "SCMP_ACT_LOG") ((codes "archMap", x32_below x86_64) ∷ [])) ≡ says_of (x86_64_and_x32 [] ∷ []) 0x7ffc0000
  pub later_map : profile_in plain (profile (codes "SCMP_ACT_LOG") ((codes "archMap", later_x32) ∷ [])) ≡ says [] 0x7ffc0000
  pub x32_of_another : profile_in plain (profile (codes "SCMP_ACT_LOG") ((codes "archMap", x32_below (codes "SCMP_ARCH_AARCH64")) ∷ [])) ≡ says [] 0x7ffc0000
  pub not_mapped : profile_in plain (profile (codes "SCMP_ACT_LOG") ((codes "archMap", maps (codes "SCMP_ARCH_AARCH64")) ∷ [])) ≡ says [] 0x7ffc0000
  -- chown32 is a call of i386, 212, and none of x86-64; ptrace has a number of its own there
  pub of_i386_alone : profile_in plain (on_both (allowing (codes "chown32") [] ∷ [])) ≡ says_both [] (rule 0 212 [] allow ∷ []) 0x50001
  pub of_both : profile_in plain (on_both (for_arches (codes "amd64") ∷ [])) ≡ says_both (rule 0 101 [] allow ∷ []) (rule 0 26 [] allow ∷ []) 0x50001
  pub of_the_machine : profile_in plain (on_both (for_arches (codes "386") ∷ [])) ≡ says_both [] [] 0x50001
  -- x32 has the numbers of x86-64 with bit 30, and for some calls its own
  pub of_x32 : profile_in plain (on_these (codes "SCMP_ACT_ERRNO") (x86_64 ∷ x32 ∷ []) (allowing (codes "rt_sigaction") [] ∷ allowing (codes "read") [] ∷ []))
      ≡ says_of (x86_64_and_x32 (rule 0 13 [] allow ∷ rule 1 0 [] allow ∷ rule 0 (0x40000000 + 512) [] allow ∷ rule 1 0x40000000 [] allow ∷ []) ∷ []) 0x50001
  -- other machines
  pub on_aarch64 : profile_in (on_machine machine.Aarch64) (
      on_these (codes "SCMP_ACT_ERRNO") (codes "SCMP_ARCH_ARM" ∷ x86 ∷ codes "SCMP_ARCH_AARCH64" ∷ [])
      (for_arches (codes "arm64") ∷ for_arches (codes "amd64") ∷ []))
      ≡ says_of (part 0xC00000B7 false (rule 0 117 [] allow ∷ []) ∷ part 0x40000028 true (rule 0 26 [] allow ∷ []) ∷ []) 0x50001
  pub on_riscv64 : profile_in (on_machine machine.Riscv64) (refusing (allowing (codes "close") [] ∷ []))
      ≡ says_of (part 0xC00000F3 false (rule 0 57 [] allow ∷ []) ∷ []) 0x50001
  pub on_ppc64le : profile_in (on_machine machine.Ppc64le) (refusing (allowing (codes "socket") [] ∷ []))
      ≡ says_of (part 0xC0000015 false (rule 0 326 [] allow ∷ rule 0 102 (told 0xffffffff 1) allow ∷ []) ∷ []) 0x50001
  pub on_loongarch64 : profile_in (on_machine machine.Loongarch64) (refusing (for_arches (codes "loong64") ∷ []))
      ≡ says_of (part 0xC0000102 false (rule 0 117 [] allow ∷ []) ∷ []) 0x50001
  pub not_of_the_machine : profile_in (on_machine machine.Aarch64) (on_both []) ≡ wrong place.Profile (NotTaken field.Architectures)
  -- calls that another one tells: socket(2) has a number on i386, too, and semop(2) has none there
  pub told_by_socketcall : profile_in plain (on_both (socket (codes "SCMP_ACT_ALLOW") ∷ []))
      ≡ says_both (rule 0 41 [] allow ∷ []) (rule 0 359 [] allow ∷ rule 0 102 (told 0xffffffff 1) allow ∷ []) 0x50001
  pub told_by_ipc : profile_in plain (on_both (allowing (codes "semop") [] ∷ []))
      ≡ says_both (rule 0 65 [] allow ∷ []) (rule 0 117 (told 0xffff 1) allow ∷ []) 0x50001
  pub told_last : profile_in plain (on_both (allowing (codes "shmctl") [] ∷ allowing (codes "sendmmsg") [] ∷ []))
      ≡ says_both (rule 0 31 [] allow ∷ rule 1 307 [] allow ∷ [])
      (rule 0 396 [] allow ∷ rule 1 345 [] allow ∷ rule 1 102 (told 0xffffffff 20) allow ∷ rule 0 117 (told 0xffff 24) allow ∷ []) 0x50001
  -- the family can't be seen there: what may be refused is refused
  pub unseen_where_refused : profile_in plain (on_both (socket_where (codes "SCMP_ACT_ALLOW") [] ∷ []))
      ≡ says_both (rule 0 41 netlink allow ∷ []) (rule 0 359 netlink allow ∷ rule 0 102 (told 0xffffffff 1) 0x50001 ∷ []) 0x50001
  pub unseen_where_allowed : profile_in plain (on_these (codes "SCMP_ACT_ALLOW") (x86_64 ∷ x86 ∷ []) (socket_where (codes "SCMP_ACT_ERRNO") [] ∷ []))
      ≡ says_both (rule 0 41 netlink 0x50001 ∷ []) (rule 0 359 netlink 0x50001 ∷ rule 0 102 (told 0xffffffff 1) 0x50001 ∷ []) allow
  pub unseen_between_equals : profile_in plain (on_both (socket_where (codes "SCMP_ACT_ERRNO") ((codes "errnoRet", number (codes "38")) ∷ []) ∷ []))
      ≡ says_both (rule 0 41 netlink 0x50026 ∷ []) (rule 0 359 netlink 0x50026 ∷ rule 0 102 (told 0xffffffff 1) 0x50001 ∷ []) 0x50001
  -- a rule without conditions goes first, unless it says what is said anyway
  pub plain_goes_first : profile_in plain (on_both (socket_where (codes "SCMP_ACT_TRAP") [] ∷ socket (codes "SCMP_ACT_ALLOW") ∷ []))
      ≡ says_both (rule 0 41 netlink 0x30000 ∷ rule 1 41 [] allow ∷ [])
      (rule 0 359 netlink 0x30000 ∷ rule 1 359 [] allow ∷ rule 0 102 (told 0xffffffff 1) allow ∷ []) 0x50001
  pub default_goes_last : profile_in plain (on_these (codes "SCMP_ACT_ALLOW") (x86_64 ∷ x86 ∷ []) (
      socket (codes "SCMP_ACT_ALLOW") ∷ socket_where (codes "SCMP_ACT_ERRNO") [] ∷ []))
      ≡ says_both (rule 0 41 [] allow ∷ rule 1 41 netlink 0x50001 ∷ [])
      (rule 0 359 [] allow ∷ rule 1 359 netlink 0x50001 ∷ rule 0 102 (told 0xffffffff 1) 0x50001 ∷ []) allow
  -- runc's instructions stand where architectures are named and the default performs nothing
  pub stub : profile_in by_runc (on_both (allowing (codes "close") [] ∷ allowing (codes "read") [] ∷ []))
      ≡ says_of (up_to 3 0 (x86_64_alone (rule 0 3 [] allow ∷ rule 1 0 [] allow ∷ []))
      ∷ up_to 6 6 (i386 (rule 0 6 [] allow ∷ rule 1 3 [] allow ∷ [])) ∷ []) 0x50001
  pub stub_with_x32 : profile_in by_runc (profile (codes "SCMP_ACT_TRAP") (
      (codes "archMap", maps x86_64) ∷ (codes "syscalls", listed (allowing (codes "rt_sigaction") [] ∷ [])) ∷ []))
      ≡ says_of (up_to 13 (0x40000000 + 512) (x86_64_and_x32 (rule 0 13 [] allow ∷ rule 0 (0x40000000 + 512) [] allow ∷ [])) ∷ []) 0x30000
  -- whatever the entry says
  pub stub_of_the_default : profile_in by_runc (on_both (entry (codes "clone3") (codes "SCMP_ACT_ERRNO") [] ∷ []))
      ≡ says_of (up_to 435 0 (x86_64_alone (rule 0 435 [] 0x50001 ∷ [])) ∷ up_to 435 435 (i386 (rule 0 435 [] 0x50001 ∷ [])) ∷ []) 0x50001
  -- socket(2) is 359 on i386, and close(2) 6
  pub stub_without_told : profile_in by_runc (on_both (socket (codes "SCMP_ACT_ALLOW") ∷ allowing (codes "close") [] ∷ []))
      ≡ says_of (up_to 41 0 (x86_64_alone (rule 0 41 [] allow ∷ rule 1 3 [] allow ∷ []))
      ∷ up_to 6 6 (i386 (rule 0 359 [] allow ∷ rule 1 6 [] allow ∷ rule 0 102 (told 0xffffffff 1) allow ∷ [])) ∷ []) 0x50001
  pub stub_at_kill : profile_in by_runc (on_these (codes "SCMP_ACT_KILL") (x86_64 ∷ []) (allowing (codes "close") [] ∷ []))
      ≡ says_of (up_to 3 0 (x86_64_alone (rule 0 3 [] allow ∷ [])) ∷ []) 0
  pub stub_not_asked_for : profile_in plain (on_both (allowing (codes "close") [] ∷ [])) ≡ says_both (rule 0 3 [] allow ∷ []) (rule 0 6 [] allow ∷ []) 0x50001
  pub no_architectures : profile_in by_runc (refusing (allowing (codes "close") [] ∷ [])) ≡ says (rule 0 3 [] allow ∷ []) 0x50001
  pub no_map : profile_in by_runc (profile (codes "SCMP_ACT_ERRNO") (
      (codes "archMap", maps (codes "SCMP_ARCH_AARCH64")) ∷ (codes "syscalls", listed (allowing (codes "close") [] ∷ [])) ∷ []))
      ≡ says (rule 0 3 [] allow ∷ []) 0x50001
  pub performed : profile_in by_runc (on_these (codes "SCMP_ACT_ALLOW") (x86_64 ∷ []) (failing [] ∷ [])) ≡ says (rule 0 435 [] 0x50001 ∷ []) allow
  pub logged : profile_in by_runc (on_these (codes "SCMP_ACT_LOG") (x86_64 ∷ []) (failing [] ∷ [])) ≡ says (rule 0 435 [] 0x50001 ∷ []) 0x7ffc0000
  pub traced : profile_in by_runc (on_these (codes "SCMP_ACT_TRACE") (x86_64 ∷ []) (failing [] ∷ [])) ≡ says (rule 0 435 [] 0x50001 ∷ []) 0x7ff00001
  pub not_listed : profile_in plain (profile (codes "SCMP_ACT_LOG") ((codes "architectures", architectures (codes "SCMP_ARCH_ARM")) ∷ []))
      ≡ wrong place.Profile (NotTaken field.Architectures)
  pub unknown_architecture : profile_in plain (profile (codes "SCMP_ACT_LOG") ((codes "architectures", listed (string x86_64 ∷ string (codes "SCMP_ARCH_VAX") ∷ [])) ∷ []))
      ≡ wrong place.Profile (NotTaken field.Architectures)
  pub unknown_map : profile_in plain (profile (codes "SCMP_ACT_LOG") ((codes "archMap", maps (codes "SCMP_ARCH_VAX")) ∷ []))
      ≡ wrong place.Profile (NotTaken field.ArchMap)
  pub no_default : profile_in plain (object no_members) ≡ wrong place.Profile (Missing field.DefaultAction)
  pub unknown_action : profile_in plain (profile (codes "ALLOW") []) ≡ wrong place.Profile (NotTaken field.DefaultAction)
  pub default_notify : profile_in plain (profile (codes "SCMP_ACT_NOTIFY") []) ≡ wrong place.Profile (NotTaken field.DefaultAction)
  pub too_great : profile_in plain (profile (codes "SCMP_ACT_ERRNO") ((codes "defaultErrnoRet", number (codes "4095")) ∷ []))
      ≡ wrong place.Profile (NotTaken field.DefaultErrnoRet)
  pub number_for_allow : profile_in plain (profile (codes "SCMP_ACT_ALLOW") ((codes "defaultErrnoRet", number (codes "1")) ∷ []))
      ≡ wrong place.Profile (Contradicts field.DefaultErrnoRet)
  -- and of an entry, the second here
  pub no_names : profile_in plain (refusing (clone ∷ object (members_from ((codes "action", string (codes "SCMP_ACT_LOG")) ∷ [])) ∷ []))
      ≡ wrong (place.Entry 1) (Missing field.Names)
  pub names_and_name : profile_in plain (refusing (clone ∷ allowing (codes "read") ((codes "name", string (codes "read")) ∷ []) ∷ []))
      ≡ wrong (place.Entry 1) (Contradicts field.Name)
  pub no_action : profile_in plain (refusing (clone ∷ entry (codes "read") (codes "SCMP_ACT_NONE") [] ∷ []))
      ≡ wrong (place.Entry 1) (NotTaken field.Action)
  pub told_of_write : profile_in plain (refusing (clone ∷ entry (codes "write") (codes "SCMP_ACT_NOTIFY") [] ∷ []))
      ≡ wrong (place.Entry 1) (Contradicts field.Action)
  pub other_name : profile_in plain (refusing (clone ∷ failing ((codes "errnoRet", number (codes "38")) ∷ (codes "errno", string (codes "EPERM")) ∷ []) ∷ []))
      ≡ wrong (place.Entry 1) (Contradicts field.Errno)
  pub name_alone : profile_in plain (refusing (clone ∷ failing ((codes "errno", string (codes "EPERM")) ∷ []) ∷ []))
      ≡ wrong (place.Entry 1) (Contradicts field.Errno)
  pub seventh_argument : profile_in plain (refusing (clone ∷ allowing_where (codes "read") (argument (codes "6") (codes "0") eq [] ∷ []) ∷ []))
      ≡ wrong (place.Argument 1 0) (NotTaken field.Index)
  pub seventh_where_left_out : profile_in plain (refusing (clone ∷ allowing (codes "read") (
      (codes "args", listed (argument (codes "6") (codes "0") eq [] ∷ [])) ∷ (codes "excludes", object (members_from ((codes "arches", texts (codes "amd64" ∷ [])) ∷ []))) ∷ []) ∷ []))
      ≡ wrong (place.Argument 1 0) (NotTaken field.Index)
  pub no_operator : profile_in plain (refusing (clone ∷ allowing_where (codes "read") (argument (codes "0") (codes "0") (codes "EQ") [] ∷ []) ∷ []))
      ≡ wrong (place.Argument 1 0) (NotTaken field.Op)
  pub below_zero : profile_in plain (refusing (clone ∷ allowing_where (codes "read") (argument (codes "0") (codes "-1") eq [] ∷ []) ∷ []))
      ≡ wrong (place.Argument 1 0) (NotTaken field.Value)
  pub too_large : profile_in plain (refusing (clone ∷ allowing_where (codes "read") (argument (codes "0") (codes "18446744073709551616") eq [] ∷ []) ∷ []))
      ≡ wrong (place.Argument 1 0) (NotTaken field.Value)
  pub second_value : profile_in plain (refusing (clone ∷ allowing_where (codes "read") (
      argument (codes "0") (codes "1") eq [] ∷ argument (codes "1") (codes "1") eq ((codes "valueTwo", number (codes "1")) ∷ []) ∷ []) ∷ []))
      ≡ wrong (place.Argument 1 1) (Contradicts field.ValueTwo)
  pub outside_the_mask : profile_in plain (refusing (clone ∷ allowing_where (codes "read") (argument (codes "0") (codes "1") masked ((codes "valueTwo", number (codes "3")) ∷ []) ∷ []) ∷ []))
      ≡ wrong (place.Argument 1 0) (Contradicts field.ValueTwo)
  pub one_argument_twice : profile_in plain (refusing (clone ∷ allowing_where (codes "read") (
      argument (codes "2") (codes "1") eq [] ∷ argument (codes "2") (codes "2") eq [] ∷ []) ∷ []))
      ≡ wrong (place.Entry 1) (Contradicts field.Args)
  pub no_version : profile_in plain (refusing (clone ∷ ptrace_from (codes "4") ∷ [])) ≡ wrong (place.Entry 1) (NotTaken field.Includes)
  pub empty_version : profile_in plain (refusing (clone ∷ ptrace_from [] ∷ [])) ≡ wrong (place.Entry 1) (NotTaken field.Includes)
  -- machines
  pub machine_x86_64 : machine_named (codes "x86-64") ≡ Some machine.X86_64
  pub machine_loongarch64 : machine_named (codes "loongarch64") ≡ Some machine.Loongarch64
  pub no_machine : machine_named (codes "i386") ≡ None
  -- versions
  pub version : kernel_of (codes "6.12") ≡ Some (kernel 6 12)
  pub more_than_a_byte : kernel_of (codes "6.256") ≡ Some (kernel 6 256)
  pub three_numbers : kernel_of (codes "6.12.1") ≡ None
  pub hexadecimal : kernel_of (codes "0x6.1") ≡ None
  pub nothing_behind : kernel_of (codes "6.") ≡ None
  -- a text
  pub by_text : option_map (profile_in plain) (document (codes "{\"defaultAction\": \"SCMP_ACT_ERRNO\", \"defaultErrnoRet\": 38, \"syscalls\": null}"))
      ≡ Some (says [] 0x50026)
