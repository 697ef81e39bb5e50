-- Texts of profiles, worked out by hand: as people write them, and as they are read.
use Rattle.std.specs.Prelude.{ℕ, ◌≡◌, ◌++◌, List, [], ◌∷◌, codes, Some, None}
use Rattle.sk_profile_json.specs.declared.deciding.Decider.TheVariants.{Entry, Default}
use Rattle.sk_profile_json.specs.WorkedDeciding.{call, decider}
use Rattle.sk_profile_json.specs.WorkedFiles.{allows, native as alone, plain, said}
use Rattle.sk_profile_json.specs.Writing.{answer, first_unnamed, profile_text}

-- read(2) and access(2), 0 and 21
abbrev pub two_calls : List ℕ
two_calls =
    codes "{\n  \"defaultAction\": \"SCMP_ACT_ERRNO\",\n  \"defaultErrnoRet\": 1,\n  \"architectures\": [\n    \"SCMP_ARCH_X86_64\"\n  ],\n"
    ++ (codes "  \"syscalls\": [\n    {\n      \"names\": [\n        \"read\",\n        \"access\"\n      ],\n      \"action\": \"SCMP_ACT_ALLOW\"\n"
    ++ codes "    }\n  ]\n}\n")

abbrev pub no_call_at_all : List ℕ
no_call_at_all =
    codes "{\n  \"defaultAction\": \"SCMP_ACT_ERRNO\",\n  \"defaultErrnoRet\": 1,\n  \"architectures\": [\n    \"SCMP_ARCH_X86_64\"\n  ],\n"
    ++ codes "  \"syscalls\": []\n}\n"

pub record WorkedWriting : Type 0 where
  pub two : profile_text (0 ∷ 21 ∷ []) ≡ two_calls
  pub none : profile_text [] ≡ no_call_at_all
  -- as they are read
  pub two_read : said plain two_calls ≡ allows (0 ∷ 21 ∷ [])
  pub none_read : said alone no_call_at_all ≡ allows []
  pub entry : decider plain two_calls (call 21 0) ≡ Some (Entry 0)
  pub default : decider plain two_calls (call 1 0) ≡ Some Default
  -- what is answered: SECCOMP_RET_ALLOW, SECCOMP_RET_ERRNO with EPERM, and SECCOMP_RET_KILL_THREAD for read(2) of x32 and for what has its number on i386
  pub allowed : answer (0 ∷ 21 ∷ []) (call 21 0) ≡ 0x7fff0000
  pub refused : answer (0 ∷ 21 ∷ []) (call 1 0) ≡ 0x50001
  pub no_call_refused : answer (0 ∷ 21 ∷ []) (call 1000 0) ≡ 0x50001
  pub passed_over : answer (0 ∷ []) (call 0xffffffff 0) ≡ 0x50001
  pub x32 : answer (0 ∷ []) (call 0x40000000 0) ≡ 0
  pub i386 : answer (0 ∷ []) (record (call 0 0) { arch = 0x40000003 }) ≡ 0
  -- numbers that no call has: 400 lies between the two tables of x86-64, and 0x40000000 is x32's
  pub all_named : first_unnamed (0 ∷ 21 ∷ []) ≡ None
  pub gap : first_unnamed (0 ∷ 400 ∷ 1000 ∷ []) ≡ Some 400
  pub of_x32 : first_unnamed (0x40000000 ∷ []) ≡ Some 0x40000000
