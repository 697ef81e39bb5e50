-- What a policy's text is made into.
use Rattle.std.specs.Prelude.{ℕ, ◌≡◌, ◌≢◌, ◌+◌, ◌<◌, ◌^◌, ◌++◌, ◌==◌, ◌||◌, Bool, if◌then◌else◌, List, [], ◌∷◌, length, take, drop, Option, Some, None, Ok, Err}
use Rattle.std.specs.Option.{option_map, option_or}
use Rattle.sk_insn.specs.declared.insn.Insn.{Insn}
use Rattle.sk_insn.specs.declared.record.Record.{Record}
use Rattle.sk_insn.specs.Instructions.{image_of}
use Rattle.sk_filter.specs.Meaning.{meaning_of}
use Rattle.sk_filter.specs.Valid.{IsValid}
use Rattle.sk_conditions.specs.declared.expectation.Expectation.TheVariants.{Refused, Performed}
use Rattle.sk_conditions.specs.Comparing.{value_of}
use Rattle.sk_names.specs.declared.architecture.Architecture.{Architecture}
use Rattle.sk_names.specs.Architectures.{audit_of}
use Rattle.sk_profile.specs.Means.{Gives}
use Rattle.sk_policy.specs.declared.policy.Policy.{Policy}
use Rattle.sk_policy.specs.Policies.{IsWhole, MeansPolicy, AnswersOthers}
use Rattle.sk_policy.specs.Sizes.{rules_most}
use Rattle.sk_policy_text.specs.declared.refusal.Refusal.{Refusal}
use Rattle.sk_policy_text.specs.declared.policy_fault.PolicyFault.TheVariants as fault
use Rattle.sk_policy_text.specs.declared.refusal.Refusal.TheVariants as refusal
use Rattle.sk_policy_text.specs.declared.sentence.Sentence.{Sentence}
use Rattle.sk_policy_text.specs.declared.sentence.Sentence.TheVariants as sentence
use Rattle.sk_policy_text.specs.declared.sentence.SentenceFault.{SentenceFault}
use Rattle.sk_policy_text.specs.declared.stated.Stated.{Stated}
use Rattle.sk_policy_text.specs.Words.{Word, words_of_text}
use Rattle.sk_policy_text.specs.Sentences.{sentence_length, sentence_in}
use Rattle.sk_policy_text.specs.Views.{said}
use Rattle.sk_policy_text.specs.PolicyRows.{sentences_of, architecture_of, others_of}
use Rattle.sk_policy_text.specs.PolicySays.{Says}
use Rattle.sk_policy_text.specs.PolicyFaults.{AreRight}
use Rattle.sk_policy_text.specs.PolicyOf.{AreOnce, AreNamed, IsFaultOf}
use Rattle.sk_policy_text.specs.PolicySizes.{rules_bound}

-- ---- sentences of words

-- the words of the first sentence, and those behind it
abbrev pub first_words : List Word → List Word
first_words words = take (sentence_length words) words

abbrev pub words_behind : List Word → List Word
words_behind words = drop (sentence_length words) words

abbrev pub first_line : List Word → ℕ
first_line [] = 0
first_line (word ∷ rest) = word.line

-- words are read as a sentence, or as none
abbrev pub IsReadAs : Architecture → ℕ → List Word → Stated → Type 0
IsReadAs by line words it = (it.line ≡ line) × (sentence_in by words ≡ Ok (said it.sentence))

abbrev pub IsUnreadAs : Architecture → ℕ → List Word → Refusal → Type 0
IsUnreadAs by line words (refusal.Sentence on at why) = (on ≡ by) × (at ≡ line) × (sentence_in by words ≡ Err why)
IsUnreadAs by line words refusal.Memory = Unit {0}
IsUnreadAs by line words other = ⊥

-- the architecture on which a sentence is read is the one that those above it say
abbrev pub reads_on : List Stated → Architecture
reads_on above = architecture_of (sentences_of above)

-- words say these sentences, behind those above, and the last words are left
abbrev pub AreSaid : List Stated → List Word → List Stated → List Word → Type 0
AreSaid above words [] left = words ≡ left
AreSaid above words (first ∷ behind) left =
    IsReadAs (reads_on above) (first_line words) (first_words words) first × AreSaid (above ++ first ∷ []) (words_behind words) behind left

-- words say sentences, and those that are left, of which there are some, begin with none
pub record EndsUnread (words : List Word) (by : Architecture) (line : ℕ) (why : SentenceFault) : Type 0 where
  pub text : List Stated
  pub left : List Word
  pub are : AreSaid [] words text left
  pub some : 0 < length left
  pub on : by ≡ reads_on text
  pub there : line ≡ first_line left
  pub wrong : sentence_in by (first_words left) ≡ Err why

abbrev pub IsUnsaid : List Word → Refusal → Type 0
IsUnsaid words (refusal.Sentence by line why) = EndsUnread words by line why
IsUnsaid words refusal.Memory = Unit {0}
IsUnsaid words other = ⊥

-- ---- sentences that say what is expected of a verdict, as no filter answers it

-- the verdict that a sentence has, or the value in its place
abbrev pub verdict_in : Sentence → Option ℕ
verdict_in (sentence.Arch architecture) = None
verdict_in (sentence.Default verdict) = Some verdict
verdict_in (sentence.Others verdict) = Some verdict
verdict_in (sentence.Row ranges verdict) = verdict
verdict_in (sentence.Case verdict words) = Some verdict
verdict_in (sentence.Else verdict) = Some verdict

abbrev pub is_expectation : ℕ → Bool
is_expectation value = value == value_of Refused || value == value_of Performed

abbrev pub if_expectation : Option ℕ → Option ℕ
if_expectation None = None
if_expectation (Some value) = if is_expectation value then Some value else None

abbrev pub expectation_in : Sentence → Option ℕ
expectation_in it = if_expectation (verdict_in it)

-- the line of the first sentence that has one, and the value that stands for it
abbrev pub first_expectation : List Stated → Option (ℕ × ℕ)
first_expectation [] = None
first_expectation (first ∷ behind) =
    option_or (option_map (λ (value : ℕ). (first.line, value)) (expectation_in first.sentence)) (first_expectation behind)

-- ---- filters

-- the image of a valid program that means a policy
pub record IsImageOf (policy : Policy) (image : List ℕ) : Type 0 where
  pub insns : List Insn
  pub written : image ≡ image_of insns
  pub valid : IsValid insns
  pub means : MeansPolicy insns policy
  pub others : AnswersOthers insns policy

abbrev pub IsTooLong : Policy → Refusal → Type 0
IsTooLong policy refusal.TooLong = 4096 < rules_most policy.rules.items + 5
IsTooLong policy refusal.Memory = Unit {0}
IsTooLong policy other = ⊥

-- a call gets from a program what the text says
pub record GetsWhatIsSaid (text : List Stated) (insns : List Insn) (call : Record) : Type 0 where
  pub value : ℕ
  pub says : Says text call value
  pub gives : Gives value (meaning_of insns call)

-- of a text in which no sentence is wrong and no number stands twice: the image of a valid program from which each call of its
-- architecture gets what it says, and each other call the verdict for others
pub record IsFilterOf (text : List Stated) (image : List ℕ) : Type 0 where
  pub right : AreRight [] text
  pub once : AreOnce text
  pub insns : List Insn
  pub written : image ≡ image_of insns
  pub valid : IsValid insns
  pub means : (call : Record) → IsWhole call → call.arch ≡ audit_of (reads_on text) → GetsWhatIsSaid text insns call
  pub others : (call : Record) → call.arch < 2 ^ 32 → call.arch ≢ audit_of (reads_on text)
      → Gives (others_of (sentences_of text)) (meaning_of insns call)

-- nothing is wrong with the sentences, but their rules may take more than the 4096 instructions that a filter has
-- (BPF_MAXINSNS of linux/bpf_common.h), with 5 more for the architecture, the number and the default
abbrev pub AreTooLong : List Stated → Type 0
AreTooLong text = AreRight [] text × AreOnce text × AreNamed text × (4096 < rules_bound text + 5)

-- sentences that have no filter
abbrev pub IsRefused : List Stated → Refusal → Type 0
IsRefused text (refusal.Policy fault.Memory) = ⊥
IsRefused text (refusal.Policy fault.TooLong) = ⊥
IsRefused text (refusal.Policy why) = IsFaultOf text why
IsRefused text refusal.TooLong = AreTooLong text
IsRefused text refusal.Memory = Unit {0}
IsRefused text other = ⊥

-- ---- texts

abbrev pub IsText : List ℕ → List Stated → Type 0
IsText bytes text = AreSaid [] (words_of_text bytes) text []

abbrev pub IsMade : List ℕ → List ℕ → Type 0
IsMade bytes image = (text : List Stated) × IsText bytes text × (first_expectation text ≡ None) × IsFilterOf text image

-- the first sentence that is none, or else the first that says an expectation, or else what is wrong with all of them
abbrev pub IsUnmade : List ℕ → Refusal → Type 0
IsUnmade bytes (refusal.Sentence by line why) = EndsUnread (words_of_text bytes) by line why
IsUnmade bytes (refusal.Expectation line value) = (text : List Stated) × IsText bytes text × (first_expectation text ≡ Some (line, value))
IsUnmade bytes refusal.Memory = Unit {0}
IsUnmade bytes other = (text : List Stated) × IsText bytes text × (first_expectation text ≡ None) × IsRefused text other
