-- A worked document of `ask why`.
use Rattle.std.specs.Prelude.{ℕ, ◌≡◌, ◌++◌, List, [], ◌∷◌, codes, Some, None}
use Rattle.sk_names.specs.declared.architecture.Architecture.TheVariants as architecture
use Rattle.sk_filter.specs.WorkedMeanings.{call_of, refuses_getppid}
use Rattle.sk_document.specs.declared.deciding.Decider.{Decider}
use Rattle.sk_document.specs.declared.deciding.Decider.TheVariants.{Entry, Row}
use Rattle.sk_document.specs.WhyDocument.{why_document}

-- the document of getppid(2), which the only filter refuses by its third instruction, a profile by its third entry, which begins in line 17, and a policy by a row
abbrev pub why_written : List ℕ
why_written =
    codes "{\"word\":\"why\",\"architecture\":\"x86-64\",\"call\":{\"number\":110,\"name\":\"getppid\",\"args\":[\"0x0\",\"0x0\",\"0x0\","
    ++ (codes "\"0x0\",\"0x0\",\"0x0\"],\"ip\":\"0x0\",\"record\":\"6e0000003e0000c00000000000000000000000000000000000000000000000000000000000000000000000000000000000000000000000000000000000000000\","
    ++ (codes "\"text\":\"syscall(SYS_getppid, 0x0, 0x0, 0x0, 0x0, 0x0, 0x0)\"},\"filters\":[{\"filter\":0,\"steps\":[{\"instruction\":0,"
    ++ (codes "\"text\":\"ldabs 0\",\"code\":32,\"jt\":0,\"jf\":0,\"k\":0,\"a\":110,\"x\":0,\"next\":1},{\"instruction\":1,"
    ++ (codes "\"text\":\"jeq 110 +0 +1\",\"code\":21,\"jt\":0,\"jf\":1,\"k\":110,\"a\":110,\"x\":0,\"next\":2},{\"instruction\":2,"
    ++ (codes "\"text\":\"ret 0x00050001\",\"code\":6,\"jt\":0,\"jf\":0,\"k\":327681,\"a\":110,\"x\":0,\"next\":null}],"
    ++ (codes "\"verdict\":{\"value\":327681,\"action\":\"errno\",\"data\":1,\"text\":\"errno/1 EPERM\"}}],"
    ++ (codes "\"verdict\":{\"value\":327681,\"action\":\"errno\",\"data\":1,\"text\":\"errno/1 EPERM\"},"
    ++ (codes "\"source\":{\"filter\":0,\"instruction\":2},\"entries\":[{\"file\":\"a\",\"kind\":\"profile\",\"by\":\"entry\",\"entry\":2,\"line\":17},"
    ++ codes "{\"file\":\"b\",\"kind\":\"policy\",\"by\":\"row\",\"entry\":null,\"line\":12}],\"logged\":null}\n"))))))))

-- two files with one letter for a name
abbrev pub decisions : List (List ℕ × Decider)
decisions = (codes "a", Entry 2 (Some 17)) ∷ (codes "b", Row (Some 12)) ∷ []

abbrev pub WhyDocumentWorks : Type 0
WhyDocumentWorks = why_document architecture.X86_64 (refuses_getppid ∷ []) (call_of 110 0 0) (Some (0, 2)) decisions None ≡ why_written
