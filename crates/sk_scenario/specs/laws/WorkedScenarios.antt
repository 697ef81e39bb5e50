-- Short scenarios and what they stand for, for the worked examples.
use Rattle.std.specs.Prelude.{ℕ, ◌-◌, ◌^◌, true, false, List, [], ◌∷◌, ◌++◌, codes, replicate, Option, Some, None}
use Rattle.sk_insn.specs.Instructions.{image_of}
use Rattle.sk_asm.specs.Grammar.{insn}
use Rattle.sk_scenario.specs.declared.call.ScriptCall.{ScriptCall}
use Rattle.sk_scenario.specs.Scenario.{Script, Setting}

abbrev pub call : ℕ → List ℕ → Option ℕ → ScriptCall
call nr args script = record { call = record { nr = nr; args = args }; script = script }

abbrev pub none : List ℕ
none = replicate 6 0

abbrev pub script : List ScriptCall → Script
script calls = record { owner = 0; setuid = false; calls = calls }

abbrev pub setting_with : List (List ℕ) → List Script → Setting
setting_with filters programs = record { turns = 1000; subreapers = false; filters = filters; programs = programs }

abbrev pub filter_lines : List (List ℕ)
filter_lines = codes "filter f" ∷ codes "ldabs 0" ∷ codes "jeq 110 +0 +1" ∷ codes "ret errno/1" ∷ codes "ret allow" ∷ codes "end" ∷ []

abbrev pub filter_image : List ℕ
filter_image = image_of (insn 0x20 0 0 0 ∷ insn 0x15 0 1 110 ∷ insn 0x06 0 0 0x00050001 ∷ insn 0x06 0 0 0x7fff0000 ∷ [])

-- a filter, and a program that attaches it
abbrev pub attaching : List (List ℕ)
attaching = filter_lines ++ codes "program init" ∷ codes "seccomp 1 0 @f" ∷ codes "getppid" ∷ codes "getpid" ∷ codes "end" ∷ []

abbrev pub attaching_setting : Setting
attaching_setting = setting_with (filter_image ∷ []) (script (call 317 (1 ∷ 0 ∷ 0 ∷ 0 ∷ 0 ∷ 0 ∷ []) None ∷ call 110 none None ∷ call 39 none None ∷ []) ∷ [])

-- the same, cut in its ninth line
abbrev pub cut_behind_getp : List (List ℕ)
cut_behind_getp = filter_lines ++ codes "program init" ∷ codes "seccomp 1 0 @f" ∷ codes "getp" ∷ []

abbrev pub cut_behind_getppid : List (List ℕ)
cut_behind_getppid = filter_lines ++ codes "program init" ∷ codes "seccomp 1 0 @f" ∷ codes "getppid" ∷ []

-- a call by its number, and a comment
abbrev pub by_number : List (List ℕ)
by_number = codes "program init" ∷ codes "; note" ∷ codes "call 999 1" ∷ codes "end" ∷ []

abbrev pub by_number_setting : Setting
by_number_setting = setting_with [] (script (call 999 (1 ∷ 0 ∷ 0 ∷ 0 ∷ 0 ∷ 0 ∷ []) None ∷ []) ∷ [])

-- names that are given further down, of both kinds, and each form of an argument
abbrev pub arguments : List (List ℕ)
arguments = codes "program init owner 7 setuid" ∷ codes "kill &again -1 0x10 @f" ∷ codes "end" ∷ codes "filter f" ∷ codes "end" ∷ codes "program again" ∷ codes "end" ∷ []

abbrev pub arguments_setting : Setting
arguments_setting =
    setting_with ([] ∷ []) (record { owner = 7; setuid = true; calls = call 62 (3 ∷ (2 ^ 64 - 1) ∷ 16 ∷ 0 ∷ 0 ∷ 0 ∷ []) None ∷ [] } ∷ script [] ∷ [])

-- the forms of `fork`, whose registers are 0 where it has its name
abbrev pub forks : List (List ℕ)
forks = codes "program a" ∷ codes "fork b" ∷ codes "fork" ∷ codes "call 57 1" ∷ codes "end" ∷ codes "program b" ∷ codes "end" ∷ []

abbrev pub forks_setting : Setting
forks_setting = setting_with [] (script (call 57 none (Some 1) ∷ call 57 none None ∷ call 57 (1 ∷ 0 ∷ 0 ∷ 0 ∷ 0 ∷ 0 ∷ []) None ∷ []) ∷ script [] ∷ [])

-- a block of bytes, with the lines of the top level behind it
abbrev pub bytes : List (List ℕ)
bytes = codes "filter f" ∷ codes " ; bytes" ∷ codes "bytes 0 600" ∷ codes "   " ∷ codes "bytes" ∷ codes "bytes fF" ∷ codes "end" ∷ codes "subreapers" ∷ codes "turns 007" ∷ []

abbrev pub bytes_setting : Setting
bytes_setting = record { turns = 7; subreapers = true; filters = (6 ∷ 0 ∷ 255 ∷ []) ∷ []; programs = [] }

-- a program with one line
abbrev pub program_with : List ℕ → List (List ℕ)
program_with line = codes "program a" ∷ line ∷ codes "end" ∷ []

-- programs by their first lines alone: the greatest owner, and the set-user-ID bit without an owner
abbrev pub headings : List (List ℕ)
headings = codes "program a owner 4294967294" ∷ codes "end" ∷ codes "program b setuid" ∷ codes "end" ∷ []

abbrev pub headings_setting : Setting
headings_setting = setting_with [] (record { owner = 2 ^ 32 - 2; setuid = false; calls = [] } ∷ record { owner = 0; setuid = true; calls = [] } ∷ [])

-- the greatest numbers that there is room for, and the most arguments
abbrev pub greatest : List (List ℕ)
greatest = codes "program a" ∷ codes "kill 18446744073709551615 -9223372036854775808" ∷ codes "call 4294967295 1 2 3 4 5 6" ∷ codes "end" ∷ []

abbrev pub greatest_setting : Setting
greatest_setting = setting_with [] (script (call 62 ((2 ^ 64 - 1) ∷ (2 ^ 63) ∷ 0 ∷ 0 ∷ 0 ∷ 0 ∷ []) None ∷ call (2 ^ 32 - 1) (1 ∷ 2 ∷ 3 ∷ 4 ∷ 5 ∷ 6 ∷ []) None ∷ []) ∷ [])

-- a filter's block of bytes: 264 lines of 124 bytes, and this one
abbrev pub long_image : List ℕ → List (List ℕ)
long_image last = codes "filter f" ∷ replicate 264 (codes "bytes " ++ replicate 248 48) ++ last ∷ codes "end" ∷ []

-- 40 bytes more make 32776, and 41 make one too many
abbrev pub longest : List (List ℕ)
longest = long_image (codes "bytes " ++ replicate 80 48)

abbrev pub too_long : List (List ℕ)
too_long = long_image (codes "bytes " ++ replicate 82 48)
