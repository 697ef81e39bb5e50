-- A worked document of `ask replay`.
use Rattle.std.specs.Prelude.{ℕ, ◌≡◌, ◌++◌, List, [], ◌∷◌, codes, Some}
use Rattle.sk_names.specs.declared.architecture.Architecture.TheVariants as architecture
use Rattle.sk_replay.specs.declared.judged.Judged.TheVariants.{Verdict, Undecided}
use Rattle.sk_replay.specs.declared.row.Row.{Row}
use Rattle.sk_replay.specs.declared.value.Value.TheVariants.{Told, Unknown}
use Rattle.sk_replay.specs.Calls.{call_recorded, call_with}
use Rattle.sk_document.specs.ReplayDocument.{replay_document}

-- read(2) was performed twice, a call without a name refused once, a verdict depends on what the log does not show, and a record
-- tells that ptrace(2) was refused, which the filters perform
abbrev pub four_rows : List Row
four_rows =
    record { call = call_with 0 (Told 3 ∷ Unknown ∷ Told 16 ∷ []); times = 2; judged = Verdict 0x7fff0000 }
    ∷ record { call = call_with 1000 []; times = 1; judged = Verdict 0x00050001 }
    ∷ record { call = call_with 3 (Unknown ∷ []); times = 1; judged = Undecided 0 }
    ∷ record { call = call_recorded 101 (Some 0x00050000); times = 1; judged = Verdict 0x7fff0000 } ∷ []

-- their document, where one line is no call
abbrev pub replay_written : List ℕ
replay_written =
    codes "{\"word\":\"replay\",\"architecture\":\"x86-64\",\"denies\":true,\"rows\":[{\"times\":2,\"number\":0,\"name\":\"read\","
    ++ (codes "\"args\":[\"0x3\",null,\"0x10\"],\"performed\":true,\"verdict\":{\"value\":2147418112,\"action\":\"allow\",\"data\":0,"
    ++ (codes "\"text\":\"allow\"},\"undecided_by\":null,\"logged\":null,\"text\":\"read(0x3, ?, 0x10)\"},{\"times\":1,\"number\":1000,\"name\":null,\"args\":[],\"performed\":false,"
    ++ (codes "\"verdict\":{\"value\":327681,\"action\":\"errno\",\"data\":1,\"text\":\"errno/1 EPERM\"},\"undecided_by\":null,\"logged\":null,\"text\":\"syscall_0x3e8()\"},"
    ++ (codes "{\"times\":1,\"number\":3,\"name\":\"close\",\"args\":[null],\"performed\":false,\"verdict\":null,\"undecided_by\":\"args[0]\",\"logged\":null,"
    ++ (codes "\"text\":\"close(?)\"},{\"times\":1,\"number\":101,\"name\":\"ptrace\",\"args\":[null,null,null,null,null,null],\"performed\":true,"
    ++ (codes "\"verdict\":{\"value\":2147418112,\"action\":\"allow\",\"data\":0,\"text\":\"allow\"},\"undecided_by\":null,\"logged\":\"errno\","
    ++ (codes "\"text\":\"ptrace(?, ?, ?, ?, ?, ?)\"}],"
    ++ codes "\"no_calls\":1,\"not_understood\":0}\n")))))))

abbrev pub ReplayDocumentWorks : Type 0
ReplayDocumentWorks = replay_document architecture.X86_64 four_rows 1 0 ≡ replay_written
