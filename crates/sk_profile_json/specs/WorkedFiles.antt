-- Files of profiles, and words that say where they are to hold, worked out by hand.
use Rattle.std.specs.Prelude.{ℕ, ◌≡◌, ◌++◌, true, false, List, [], ◌∷◌, map, codes, unwrap_or, Option, Some, Result, Ok}
use Rattle.std.specs.Borrow.{Bor}
use Rattle.std.specs.Option.{option_map}
use Rattle.json.specs.Json.{document}
use Rattle.sk_profile.specs.declared.fault.Clash.{Clash}
use Rattle.sk_profile.specs.Profiles.{Rule, Part, Profile}
use Rattle.sk_profile_json.specs.declared.context.Context.{Context}
use Rattle.sk_profile_json.specs.declared.context.Kernel.{Kernel}
use Rattle.sk_profile_json.specs.declared.fault.Fault.{Fault}
use Rattle.sk_profile_json.specs.declared.machine.Machine.TheVariants as machine
use Rattle.sk_profile_json.specs.Contexts.{kernel_of}
use Rattle.sk_profile_json.specs.Wholes.{profile_in}
use Rattle.sk_profile_json.specs.Capabilities.{capability}
use Rattle.sk_profile_json.specs.Forms.{is_profile}
use Rattle.sk_profile_json.specs.Notes.{notes_of, unknown_text}
use Rattle.sk_profile_json.specs.Texts.{arguments_text, both_text, clash_text}

-- ---- where they are to hold, by the words behind the options

abbrev pub lent : {A : Type 0} → A → Bor A
lent x = record { ref_ptr = (0, 0); now = x }

abbrev pub newest : Kernel
newest = record { major = 6; minor = 12 }

abbrev pub there : List (List ℕ) → Kernel → Context
there names kernel =
    record { capabilities = lent (map lent names); kernel = kernel; runc = false; machine = Some machine.X86_64; native = false }

abbrev pub plain : Context
plain = there [] newest

abbrev pub native : Context
native = record plain { native = true }

abbrev pub with_cap : List ℕ → Context
with_cap word = there (unwrap_or (capability word) []) newest

abbrev pub on_kernel : List ℕ → Context
on_kernel word = there [] (unwrap_or (kernel_of word) newest)

-- ---- what is made of a text

abbrev pub said : Context → List ℕ → Option (Result Profile Fault)
said context text = option_map (profile_in context) (document text)

abbrev pub told : Context → List ℕ → Option (List (List ℕ))
told context text = option_map (notes_of context) (document text)

abbrev pub allowed : ℕ → Rule
allowed nr = record { number = nr; conditions = []; value = 0x7fff0000; entry = 0 }

abbrev pub x86_64_part : List Rule → Part
x86_64_part rules = record { audit = 0xC000003E; narrow = false; without_x32 = true; rules = rules; top = 0; x32_top = 0 }

-- a profile that refuses by EPERM but for calls with these numbers
abbrev pub allows : List ℕ → Option (Result Profile Fault)
allows numbers =
    Some (Ok (record { parts = x86_64_part (map allowed numbers) ∷ []; default = 0x50001; bad = 0 }))

-- opennat is no call, and chown32 one of i386
abbrev pub mistyped : List ℕ
mistyped = codes "{\"defaultAction\": \"SCMP_ACT_ERRNO\", \"syscalls\": [{\"names\": [\"opennat\", \"chown32\", \"read\"], \"action\": \"SCMP_ACT_ALLOW\"}]}"

-- mount(2) is allowed to who holds CAP_SYS_ADMIN
abbrev pub mounting : List ℕ
mounting = codes "{\"defaultAction\": \"SCMP_ACT_ERRNO\", \"syscalls\": [{\"names\": [\"mount\"], \"action\": \"SCMP_ACT_ALLOW\", \"includes\": {\"caps\": [\"CAP_SYS_ADMIN\"]}}]}"

-- and ptrace(2) from Linux 4.8 on
abbrev pub tracing : List ℕ
tracing = codes "{\"defaultAction\": \"SCMP_ACT_ERRNO\", \"syscalls\": [{\"names\": [\"ptrace\"], \"action\": \"SCMP_ACT_ALLOW\", \"includes\": {\"minKernel\": \"4.8\"}}]}"

abbrev pub of_two_architectures : List ℕ
of_two_architectures = codes "{\"defaultAction\": \"SCMP_ACT_ERRNO\", \"architectures\": [\"SCMP_ARCH_X86\", \"SCMP_ARCH_X86_64\"]}"

abbrev pub clash : ℕ → ℕ → Clash
clash arch number = record { arch = arch; number = number; first = 0; second = 1; args = 2 ∷ 0 ∷ [] }

-- what is said of it, where the call has this name
abbrev pub both_fit : List ℕ → List ℕ → List ℕ
both_fit name of =
    both_text 0 1 ++ codes " clash: both fit " ++ ((name ++ (codes "(" ++ (arguments_text (2 ∷ 0 ∷ []) ++ (codes ")" ++ of))))
    ++ codes ", and they say different things")

-- the capabilities of linux/capability.h, in the order of their numbers
abbrev pub of_linux : List (List ℕ)
of_linux =
    codes "CAP_CHOWN" ∷ codes "CAP_DAC_OVERRIDE" ∷ codes "CAP_DAC_READ_SEARCH" ∷ codes "CAP_FOWNER" ∷
    codes "CAP_FSETID" ∷ codes "CAP_KILL" ∷ codes "CAP_SETGID" ∷ codes "CAP_SETUID" ∷ codes "CAP_SETPCAP" ∷
    codes "CAP_LINUX_IMMUTABLE" ∷ codes "CAP_NET_BIND_SERVICE" ∷ codes "CAP_NET_BROADCAST" ∷ codes "CAP_NET_ADMIN" ∷
    codes "CAP_NET_RAW" ∷ codes "CAP_IPC_LOCK" ∷ codes "CAP_IPC_OWNER" ∷ codes "CAP_SYS_MODULE" ∷
    codes "CAP_SYS_RAWIO" ∷ codes "CAP_SYS_CHROOT" ∷ codes "CAP_SYS_PTRACE" ∷ codes "CAP_SYS_PACCT" ∷
    codes "CAP_SYS_ADMIN" ∷ codes "CAP_SYS_BOOT" ∷ codes "CAP_SYS_NICE" ∷ codes "CAP_SYS_RESOURCE" ∷
    codes "CAP_SYS_TIME" ∷ codes "CAP_SYS_TTY_CONFIG" ∷ codes "CAP_MKNOD" ∷ codes "CAP_LEASE" ∷
    codes "CAP_AUDIT_WRITE" ∷ codes "CAP_AUDIT_CONTROL" ∷ codes "CAP_SETFCAP" ∷ codes "CAP_MAC_OVERRIDE" ∷
    codes "CAP_MAC_ADMIN" ∷ codes "CAP_SYSLOG" ∷ codes "CAP_WAKE_ALARM" ∷ codes "CAP_BLOCK_SUSPEND" ∷
    codes "CAP_AUDIT_READ" ∷ codes "CAP_PERFMON" ∷ codes "CAP_BPF" ∷ codes "CAP_CHECKPOINT_RESTORE" ∷ []

-- those that docker leaves to a container: moby's oci/caps/defaults.go, in the order of their names
abbrev pub of_docker : List (List ℕ)
of_docker =
    codes "CAP_AUDIT_WRITE" ∷ codes "CAP_CHOWN" ∷ codes "CAP_DAC_OVERRIDE" ∷ codes "CAP_FOWNER" ∷
    codes "CAP_FSETID" ∷ codes "CAP_KILL" ∷ codes "CAP_MKNOD" ∷ codes "CAP_NET_BIND_SERVICE" ∷ codes "CAP_NET_RAW" ∷
    codes "CAP_SETFCAP" ∷ codes "CAP_SETGID" ∷ codes "CAP_SETPCAP" ∷ codes "CAP_SETUID" ∷ codes "CAP_SYS_CHROOT" ∷ []

pub record WorkedFiles : Type 0 where
  pub all_by_name : capability (codes "all") ≡ Some of_linux
  pub docker_by_name : capability (codes "docker") ≡ Some of_docker
  -- a name that no table has
  pub unknown_name : told plain mistyped ≡ Some (unknown_text 0 (codes "opennat") ∷ [])
  pub no_rule_of_it : said plain mistyped ≡ allows (0 ∷ [])
  -- a capability
  pub held : said (with_cap (codes "sys_admin")) mounting ≡ allows (165 ∷ [])
  pub by_its_name : said (with_cap (codes "CAP_SYS_ADMIN")) mounting ≡ allows (165 ∷ [])
  pub all_held : said (with_cap (codes "all")) mounting ≡ allows (165 ∷ [])
  pub none_held : said plain mounting ≡ allows []
  pub another_held : said (with_cap (codes "sys_boot")) mounting ≡ allows []
  pub docker_holds_others : said (with_cap (codes "docker")) mounting ≡ allows []
  -- a kernel
  pub from_it : said (on_kernel (codes "4.8")) tracing ≡ allows (101 ∷ [])
  pub before_it : said (on_kernel (codes "4.7")) tracing ≡ allows []
  pub after_it : said (on_kernel (codes "4.10")) tracing ≡ allows (101 ∷ [])
  pub the_newest : said plain tracing ≡ allows (101 ∷ [])
  -- what else is told beside
  pub nothing_to_tell : told plain tracing ≡ Some []
  pub both_parts : told plain of_two_architectures ≡ Some []
  pub one_part : told native of_two_architectures ≡ Some (codes "x86-64's part alone: programs of its other architectures are killed" ∷ [])
  pub no_other : told native tracing ≡ Some []
  -- clashes on three architectures
  pub on_x86_64 : clash_text (clash 0xC000003E 41) ≡ both_fit (codes "socket") []
  pub on_x32 : clash_text (clash 0xC000003E 0x40000029) ≡ both_fit (codes "socket") (codes " of x32")
  pub on_i386 : clash_text (clash 0x40000003 117) ≡ both_fit (codes "ipc") (codes " of i386")
  -- which files are profiles
  pub an_object : is_profile (codes " \n{}") ≡ true
  pub a_list : is_profile (codes "[]") ≡ false
  pub empty : is_profile [] ≡ false
  pub raw : is_profile (codes "{" ++ 0 ∷ []) ≡ false
