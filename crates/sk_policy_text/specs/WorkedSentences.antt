-- Sentences that are read by hand, right ones and wrong ones.
use Rattle.std.specs.Prelude.{ℕ, ◌≡◌, List, [], ◌∷◌, codes, Some, None, Ok, Err}
use Rattle.sk_names.specs.declared.architecture.Architecture.TheVariants as architecture
use Rattle.sk_policy_text.specs.declared.sentence.Expected.{Expected as Wanted}
use Rattle.sk_policy_text.specs.declared.sentence.Expected.TheVariants as expected
use Rattle.sk_policy_text.specs.declared.sentence.Range.{Range}
use Rattle.sk_policy_text.specs.declared.word.Place.TheVariants.{Behind}
use Rattle.sk_policy_text.specs.Words.{words_of_text}
use Rattle.sk_policy_text.specs.Sentences.{Said, Arch, Default, Others, Row, Case, Else, sentence_in, single}
use Rattle.sk_policy_text.specs.WorkedWords.{word}

abbrev pub says : List ℕ → Said → Type 0
says text said = sentence_in architecture.X86_64 (words_of_text text) ≡ Ok said

-- the first word that is wrong, counted from 0, and what was expected there
abbrev pub fails : List ℕ → ℕ → Wanted → Type 0
fails text at wanted = sentence_in architecture.X86_64 (words_of_text text) ≡ Err (record { at = at; expected = wanted })

abbrev pub range : ℕ → ℕ → Range
range first last = record { first = first; last = last }

-- a row of one call
abbrev pub one : ℕ → ℕ → Said
one number value = Row (single number ∷ []) (Some value)

pub record WorkedSentences : Type 0 where
  pub names : says (codes "read, write, close: allow") (Row (single 0 ∷ single 1 ∷ single 3 ∷ []) (Some 0x7fff0000))
  pub no_colon : says (codes "read kill_thread") (one 0 0)
  pub cases_follow : says (codes "56 clone") (Row (single 56 ∷ []) None)
  pub colon_alone : says (codes "clone:") (Row (single 56 ∷ []) None)
  pub mixed : says (codes "0 read, 0x1, 5-7 -, 335 -, close log") (Row (single 0 ∷ single 1 ∷ range 5 7 ∷ single 335 ∷ single 3 ∷ []) (Some 0x7ffc0000))
  pub ranges : says (codes "334-4294967295 - errno/38 ENOSYS") (Row (range 334 4294967295 ∷ []) (Some 0x00050026))
  pub hexadecimal : says (codes "0x10-0x1f trap/0x7") (Row (range 16 31 ∷ []) (Some 0x00030007))
  pub most_data : says (codes "2 user_notif/65535") (one 2 0x7fc0ffff)
  pub error_name : says (codes "2 errno/EPERM") (one 2 0x00050001)
  pub error_number : says (codes "2 errno/1") (one 2 0x00050001)
  pub error_both : says (codes "2 open errno/1 EPERM") (one 2 0x00050001)
  pub error_none : says (codes "2 errno/0") (one 2 0x00050000)
  pub error_most : says (codes "2 errno/4095") (one 2 0x00050fff)
  pub second_name : says (codes "2 errno/EWOULDBLOCK") (one 2 0x0005000b)
  pub second_name_behind : says (codes "2 errno/35 EDEADLOCK") (one 2 0x00050023)
  pub both_names : says (codes "2 errno/95 EOPNOTSUPP") (one 2 0x0005005f)
  pub both_names_too : says (codes "2 errno/95 ENOTSUP") (one 2 0x0005005f)
  pub default : says (codes "default errno/EPERM") (Default 0x00050001)
  pub default_colon : says (codes "default: kill_process") (Default 0x80000000)
  pub others : says (codes "others trace/3") (Others 0x7ff00003)
  pub arch : says (codes "arch aarch64") (Arch architecture.Aarch64)
  pub arch_colon : says (codes "arch: x86-64") (Arch architecture.X86_64)
  pub elsewhere : sentence_in architecture.Aarch64 (words_of_text (codes "63 read, close allow")) ≡ Ok (Row (single 63 ∷ single 57 ∷ []) (Some 0x7fff0000))
  pub case :
      says (codes " kill_process where ip != 0")
      (Case 0x80000000 (word (codes "ip") 1 Behind ∷ word (codes "!=") 1 Behind ∷ word (codes "0") 1 Behind ∷ []))
  pub case_with_error : says (codes "  errno/1 EPERM where 1") (Case 0x00050001 (word (codes "1") 1 Behind ∷ []))
  pub else : says (codes "  errno/1 else") (Else 0x00050001)
  pub refused : says (codes "read, write refused") (Row (single 0 ∷ single 1 ∷ []) (Some 0x00010001))
  pub performed : says (codes "56 clone: performed") (one 56 0x00010002)
  pub default_refused : says (codes "default refused") (Default 0x00010001)
  pub case_performed : says (codes "  performed where 1") (Case 0x00010002 (word (codes "1") 1 Behind ∷ []))
  pub else_refused : says (codes "  refused else") (Else 0x00010001)

pub record WrongSentences : Type 0 where
  pub nothing : fails [] 0 expected.Call
  pub other_name : fails (codes "1 read allow") 1 expected.NameOfCall
  pub no_name : fails (codes "335 read allow") 1 expected.NameOfCall
  pub other_error : fails (codes "1 errno/1 EACCES") 2 expected.NameOfError
  pub error_twice : fails (codes "1 errno/EPERM EPERM") 2 expected.End
  pub error_of_trap : fails (codes "1 trap/1 EPERM") 2 expected.End
  pub no_call : fails (codes "read, wirte allow") 2 expected.Call
  pub too_large : fails (codes "4294967296 allow") 0 expected.Call
  pub falling : fails (codes "5-4 allow") 0 expected.Call
  pub dash_in_name : fails (codes "read-write allow") 0 expected.Call
  pub no_comma : fails (codes "read write allow") 1 expected.CommaOrVerdict
  pub two_numbers : fails (codes "1 2 allow") 1 expected.CommaOrVerdict
  pub dash_behind_name : fails (codes "read - allow") 1 expected.CommaOrVerdict
  pub unknown : fails (codes "read unknown/5") 1 expected.CommaOrVerdict
  pub unknown_behind : fails (codes "read: unknown/5") 2 expected.Verdict
  pub comma_before : fails (codes "read, allow") 2 expected.Call
  pub comma_last : fails (codes "read,") 2 expected.Call
  pub no_data : fails (codes "read errno") 1 expected.Verdict
  pub large_error : fails (codes "read errno/4096") 1 expected.Verdict
  pub large_data : fails (codes "read trap/65536") 1 expected.Verdict
  pub empty_data : fails (codes "read trap/") 1 expected.Verdict
  pub two_verdicts : fails (codes "read allow, log") 2 expected.End
  pub two_colons : fails (codes "read: : log") 2 expected.Verdict
  pub no_default : fails (codes "default") 1 expected.Verdict
  pub x32 : fails (codes "arch x32") 1 expected.Architecture
  pub no_arch : fails (codes "arch:") 2 expected.Architecture
  pub two_archs : fails (codes "arch i386 arm") 2 expected.End
  pub neither : fails (codes " allow") 1 expected.WhereOrElse
  pub several : fails (codes " allow | log else") 1 expected.WhereOrElse
  pub no_condition : fails (codes " allow where") 2 expected.Condition
  pub behind_else : fails (codes " allow else 1") 2 expected.End
  pub no_verdict : fails (codes " read where 1") 0 expected.Verdict
  pub data_of_refused : fails (codes "read: refused/1") 2 expected.Verdict
  pub error_of_refused : fails (codes "read refused EPERM") 2 expected.End
  pub two_expectations : fails (codes "read refused performed") 2 expected.End
  pub anything : fails (codes "default anything") 1 expected.Verdict
