-- Policies that are read by hand, right ones and wrong ones.
use Rattle.std.specs.Prelude.{ℕ, ◌≡◌, List, [], ◌∷◌, codes, Vec, Option, Some, None, Err}
use Rattle.std.specs.Borrow.{Bor}
use Rattle.std.specs.Global.{Global}
use Rattle.sk_insn.specs.declared.record.Record.{Record}
use Rattle.sk_names.specs.declared.architecture.Architecture.TheVariants as architecture
use Rattle.sk_policy_text.specs.declared.policy_fault.Misplaced.{Misplaced}
use Rattle.sk_policy_text.specs.declared.policy_fault.Misplaced.TheVariants as misplaced
use Rattle.sk_policy_text.specs.declared.policy_fault.PolicyFault.{PolicyFault}
use Rattle.sk_policy_text.specs.declared.policy_fault.PolicyFault.TheVariants as fault
use Rattle.sk_policy_text.specs.declared.policy_fault.Wrong.TheVariants as wrong
use Rattle.sk_policy_text.specs.declared.refusal.Refusal.TheVariants as refusal
use Rattle.sk_policy_text.specs.declared.sentence.Expected.{Expected as Wanted}
use Rattle.sk_policy_text.specs.declared.sentence.Expected.TheVariants as expected
use Rattle.sk_policy_text.specs.declared.sentence.Range.{Range}
use Rattle.sk_policy_text.specs.declared.sentence.Sentence.{Sentence}
use Rattle.sk_policy_text.specs.declared.sentence.Sentence.TheVariants as sentence
use Rattle.sk_policy_text.specs.declared.stated.Stated.{Stated}
use Rattle.sk_policy_text.specs.declared.word.Word.{Word as CodeWord}
use Rattle.sk_policy_text.specs.Conditions.{Always, Never, condition_words}
use Rattle.sk_policy_text.specs.ConditionsTokens.{tokens_of}
use Rattle.sk_policy_text.specs.Words.{words_of_text}
use Rattle.sk_policy_text.specs.Sentences.{sentence_in}
use Rattle.sk_policy_text.specs.PolicySays.{Says}
use Rattle.sk_policy_text.specs.PolicyFaults.{above_of, misplaced_at}
use Rattle.sk_policy_text.specs.PolicyMade.{first_expectation}
use Rattle.sk_policy_text.specs.PolicyTexts.{refusal_text}

-- ---- what is said of calls

abbrev pub stated : ℕ → Sentence → Stated
stated line it = record { line = line; sentence = it }

abbrev pub only : ℕ → ℕ → List Range
only first last = record { first = first; last = last } ∷ []

-- `default errno/EPERM`, and `0-1 allow`
abbrev pub plain : Vec Range Global → List Stated
plain ranges = stated 1 (sentence.Default 0x00050001) ∷ stated 2 (sentence.Row ranges (Some 0x7fff0000)) ∷ []

-- `56 clone`, `allow where` a condition, and `errno/EPERM else`
abbrev pub with_cases : Vec Range Global → Bor (List CodeWord) → List Stated
with_cases ranges words =
    stated 1 (sentence.Row ranges None) ∷ stated 2 (sentence.Case 0x7fff0000 words) ∷ stated 3 (sentence.Else 0x00050001) ∷ []

pub record WorkedPolicies : Type 0 where
  pub row : (ranges : Vec Range Global) → ranges.items ≡ only 0 1 → (call : Record) → call.nr ≡ 1 → Says (plain ranges) call 0x7fff0000
  pub no_row : (ranges : Vec Range Global) → ranges.items ≡ only 0 1 → (call : Record) → call.nr ≡ 2 → Says (plain ranges) call 0x00050001
  pub of_x32 : (ranges : Vec Range Global) → ranges.items ≡ only 0 1 → (call : Record) → call.nr ≡ 0x40000001 → Says (plain ranges) call 0x80000000
  pub last : (ranges : Vec Range Global) → ranges.items ≡ only 0 1 → (call : Record) → call.nr ≡ 0xffffffff → Says (plain ranges) call 0x00050001
  pub met : (ranges : Vec Range Global) (words : Bor (List CodeWord)) → ranges.items ≡ only 56 56 → tokens_of words.now ≡ condition_words Always
      → (call : Record) → call.nr ≡ 56 → Says (with_cases ranges words) call 0x7fff0000
  pub not_met : (ranges : Vec Range Global) (words : Bor (List CodeWord)) → ranges.items ≡ only 56 56 → tokens_of words.now ≡ condition_words Never
      → (call : Record) → call.nr ≡ 56 → Says (with_cases ranges words) call 0x00050001

-- ---- sentences that may not stand where they stand

-- behind these sentences, the nearest first, and before these
abbrev pub stands : List Sentence → Sentence → List Sentence → Option Misplaced → Type 0
stands above it behind why = misplaced_at (above_of above) it behind ≡ why

pub record WorkedPlaces : Type 0 where
  pub default : stands [] (sentence.Default 0) [] None
  pub default_twice : stands (sentence.Others 0 ∷ sentence.Default 0 ∷ []) (sentence.Default 0) [] (Some misplaced.DefaultTwice)
  pub others_twice : stands (sentence.Others 0 ∷ []) (sentence.Others 0) [] (Some misplaced.OthersTwice)
  pub arch : stands [] (sentence.Arch architecture.I386) [] None
  pub arch_behind : stands (sentence.Default 0 ∷ []) (sentence.Arch architecture.I386) [] (Some misplaced.ArchNotFirst)
  pub no_row : stands (sentence.Default 0 ∷ []) (sentence.Else 0) [] (Some misplaced.NoRow)
  pub has_verdict : (ranges : Vec Range Global) → stands (sentence.Row ranges (Some 0) ∷ []) (sentence.Else 0) [] (Some misplaced.NoRow)
  pub has_row : (ranges : Vec Range Global) → stands (sentence.Row ranges None ∷ []) (sentence.Else 0) [] None
  pub behind_else : (ranges : Vec Range Global)
      → stands (sentence.Else 0 ∷ sentence.Row ranges None ∷ []) (sentence.Else 0) [] (Some misplaced.BehindElse)
  pub has_else : (ranges : Vec Range Global) → stands [] (sentence.Row ranges None) (sentence.Else 0 ∷ []) None
  pub no_else : (ranges : Vec Range Global) → stands [] (sentence.Row ranges None) (sentence.Default 0 ∷ sentence.Else 0 ∷ []) (Some misplaced.NoElse)

-- ---- verdicts that no filter has

pub record WorkedExpectations : Type 0 where
  pub none : (ranges : Vec Range Global) → first_expectation (plain ranges) ≡ None
  pub row : (ranges : Vec Range Global)
      → first_expectation (stated 1 (sentence.Default 0) ∷ stated 4 (sentence.Row ranges (Some 0x00010001)) ∷ stated 5 (sentence.Else 0x00010002) ∷ [])
      ≡ Some (4, 0x00010001)
  pub case : (ranges : Vec Range Global) (words : Bor (List CodeWord))
      → first_expectation (stated 2 (sentence.Row ranges None) ∷ stated 3 (sentence.Case 0x00010002 words) ∷ []) ≡ Some (3, 0x00010002)
  pub others : first_expectation (stated 1 (sentence.Arch architecture.I386) ∷ stated 2 (sentence.Others 0x00010001) ∷ []) ≡ Some (2, 0x00010001)
  pub default : first_expectation (stated 1 (sentence.Default 0x00010002) ∷ []) ≡ Some (1, 0x00010002)
  pub anything : first_expectation (stated 1 (sentence.Default 0x00010003) ∷ []) ≡ None

-- ---- texts of refusals

-- a sentence stops at one of its words, and this is said of it
pub record Refuses (bytes : List ℕ) (at : ℕ) (wanted : Wanted) (said : List ℕ) : Type 0 where
  pub stops : sentence_in architecture.X86_64 (words_of_text bytes) ≡ Err (record { at = at; expected = wanted })
  pub text : refusal_text (words_of_text bytes) (refusal.Sentence architecture.X86_64 1 (record { at = at; expected = wanted })) ≡ said

abbrev pub tells : PolicyFault → List ℕ → Type 0
tells why said = refusal_text [] (refusal.Policy why) ≡ said

pub record WorkedRefusals : Type 0 where
  pub no_call : Refuses (codes "raed: allow") 0 expected.Call (codes "line 1: raed: expected the name of a call on x86-64, or its number")
  pub several : Refuses (codes "0 read allow | errno/1 EPERM") 3 expected.End (codes "line 1: several verdicts: expected one")
  pub any : Refuses (codes "0 read any") 2 expected.CommaOrVerdict (codes "line 1: several verdicts: expected one")
  pub nothing : Refuses (codes "default") 1 expected.Verdict (codes "line 1: expected a verdict, as allow or errno/EPERM behind default")
  pub twice : tells (fault.Twice (record { number = 0; line = 9; earlier = 3 })) (codes "line 9: 0 stands in line 3 already")
  pub missing : tells (fault.Missing 1) (codes "1: no row has this number: expected one, or a line default VERDICT")
  pub refused : refusal_text [] (refusal.Expectation 3 0x00010001) ≡ codes "line 3: refused: expected a verdict of a filter, as allow or errno/EPERM"
  pub performed : refusal_text [] (refusal.Expectation 12 0x00010002) ≡ codes "line 12: performed: expected a verdict of a filter, as allow or errno/EPERM"
  pub no_else : tells (fault.Wrong 4 (wrong.Misplaced misplaced.NoElse)) (codes "line 4: expected a line VERDICT else below the row")
