-- Worked values of documents: verdicts by seccomp(2), numbers, a call and a term.
use Rattle.std.specs.Prelude.{◌≡◌, [], ◌∷◌, codes, false, Some, None}
use Rattle.sk_insn.specs.declared.record.Record.{Record}
use Rattle.sk_insn.specs.Record.{native}
use Rattle.sk_names.specs.declared.architecture.Architecture.TheVariants as architecture
use Rattle.sk_arguments.specs.declared.naming.Naming.TheVariants as naming
use Rattle.sk_conditions.specs.declared.standing.Relation.TheVariants.{Expected}
use Rattle.sk_terms.specs.declared.term.Register.TheVariants.{Argument, Pointer}
use Rattle.sk_terms.specs.declared.term.Term.{Term}
use Rattle.sk_when.specs.Naming.{names_of}
use Rattle.sk_document.specs.Documents.{document, object}
use Rattle.sk_document.specs.Verdicts.{verdict, verdicts}
use Rattle.sk_document.specs.Numbers.{numbers}
use Rattle.sk_document.specs.Calls.{call}
use Rattle.sk_document.specs.Terms.{term}
use Rattle.sk_document.specs.Differences.{old_verdict}

-- an error, what lets calls through, several verdicts and any; and an expectation, which is no action
pub record VerdictsWork : Type 0 where
  pub refused : document (verdict 0x00050001) ≡ codes "{\"value\":327681,\"action\":\"errno\",\"data\":1,\"text\":\"errno/1 EPERM\"}\n"
  pub allowed : document (verdict 0x7fff0000) ≡ codes "{\"value\":2147418112,\"action\":\"allow\",\"data\":0,\"text\":\"allow\"}\n"
  pub several : document (verdicts (Some (0x00050001 ∷ 0x7fff0000 ∷ [])))
      ≡ codes "[{\"value\":327681,\"action\":\"errno\",\"data\":1,\"text\":\"errno/1 EPERM\"},{\"value\":2147418112,\"action\":\"allow\",\"data\":0,\"text\":\"allow\"}]\n"
  pub any : document (verdicts None) ≡ codes "null\n"
  pub expected : document (old_verdict Expected 0x00010001)
      ≡ codes "{\"value\":65537,\"action\":\"unknown\",\"data\":1,\"text\":\"expected refused\"}\n"

-- a number with a name, one without, and several, of which one has a name
pub record NumbersWork : Type 0 where
  pub named : document (object (numbers architecture.X86_64 59 59)) ≡ codes "{\"first\":59,\"last\":59,\"name\":\"execve\"}\n"
  pub unnamed : document (object (numbers architecture.X86_64 4000 4000)) ≡ codes "{\"first\":4000,\"last\":4000,\"name\":null}\n"
  pub several : document (object (numbers architecture.X86_64 462 4294967295)) ≡ codes "{\"first\":462,\"last\":4294967295,\"name\":null}\n"

abbrev pub clone : Record
clone = native 56 0 (0x10000011 ∷ 0 ∷ 0 ∷ 0xffffffffffffffff ∷ 0 ∷ 1 ∷ [])

-- clone(2), and the call of aarch64 with its registers, whose record says aarch64
pub record CallsWork : Type 0 where
  pub native : document (call (names_of naming.Numbers architecture.X86_64) clone)
      ≡ codes "{\"number\":56,\"name\":\"clone\",\"args\":[\"0x10000011\",\"0x0\",\"0x0\",\"0xffffffffffffffff\",\"0x0\",\"0x1\"],\"ip\":\"0x0\",\"record\":\"380000003e0000c00000000000000000110000100000000000000000000000000000000000000000ffffffffffffffff00000000000000000100000000000000\",\"text\":\"syscall(SYS_clone, 0x10000011, 0x0, 0x0, 0xffffffffffffffff, 0x0, 0x1)\"}\n"
  pub elsewhere : document (call (names_of naming.Numbers architecture.Aarch64) clone)
      ≡ codes "{\"number\":56,\"name\":\"openat\",\"args\":[\"0x10000011\",\"0x0\",\"0x0\",\"0xffffffffffffffff\",\"0x0\",\"0x1\"],\"ip\":\"0x0\",\"record\":\"38000000b70000c00000000000000000110000100000000000000000000000000000000000000000ffffffffffffffff00000000000000000100000000000000\",\"text\":\"syscall(SYS_openat, 0x10000011, 0x0, 0x0, 0xffffffffffffffff, 0x0, 0x1)\"}\n"

-- the lower half of the first argument is beyond 16
abbrev pub beyond_16 : Term
beyond_16 = record { register = Argument 0; mask = 0xffffffff; first = 0; last = 16; inside = false }

pub record TermsWork : Type 0 where
  pub argument : document (term beyond_16) ≡ codes "{\"argument\":\"args[0]\",\"mask\":\"0xffffffff\",\"from\":\"0x0\",\"to\":\"0x10\",\"inside\":false}\n"
  pub pointer : document (term (record beyond_16 { register = Pointer })) ≡ codes "{\"argument\":\"ip\",\"mask\":\"0xffffffff\",\"from\":\"0x0\",\"to\":\"0x10\",\"inside\":false}\n"
