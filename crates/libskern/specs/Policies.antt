-- The filter of a policy's text, as its bytes go out to C, and what is said where it has none.
use Rattle.std.specs.Prelude.{ℕ, ◌⊎◌, List}
use Rattle.sk_policy_text.specs.declared.policy_fault.PolicyFault.{PolicyFault}
use Rattle.sk_policy_text.specs.declared.policy_fault.PolicyFault.TheVariants as fault
use Rattle.sk_policy_text.specs.declared.refusal.Refusal.{Refusal}
use Rattle.sk_policy_text.specs.declared.refusal.Refusal.TheVariants as refusal
use Rattle.sk_policy_text.specs.PolicyMade.{IsMade, IsUnmade}
use Rattle.sk_policy_text.specs.PolicyTexts.{refusal_text}
use Rattle.sk_policy_text.specs.Words.{words_of_text}
use Rattle.libskern.specs.declared.fault.Fault.{Fault}
use Rattle.libskern.specs.Faults.{no_memory, plain}
use Rattle.libskern.specs.Writing.{IsGiven, IsSaid}

-- a line of the text is wrong
abbrev pub at_line : ℕ → Fault
at_line line = record { reason = 23; chain = 0; filter = 0; place = line }

-- of a number that stands twice it is the later line, and of one that stands nowhere no line is wrong
abbrev pub told_of_policy : PolicyFault → Fault
told_of_policy (fault.Wrong line why) = at_line line
told_of_policy (fault.Twice twice) = at_line twice.line
told_of_policy (fault.Missing number) = at_line 0
told_of_policy fault.TooLong = plain 2
told_of_policy fault.Memory = plain no_memory

-- what is told of a text that has no filter
abbrev pub told_of_refusal : Refusal → Fault
told_of_refusal (refusal.Sentence by line why) = at_line line
told_of_refusal (refusal.Expectation line value) = at_line line
told_of_refusal (refusal.Policy why) = told_of_policy why
told_of_refusal refusal.TooLong = plain 2
told_of_refusal refusal.Memory = plain no_memory

-- what a caller gets: the filter, where there is room for it, or why there is none
abbrev pub AnswersPolicy : List ℕ → List ℕ → Fault → ℕ → List ℕ → Type 0
AnswersPolicy text room fault size out =
    ((image : List ℕ) × IsMade text image × IsGiven image room fault size out)
    ⊎ ((why : Refusal) × IsUnmade text why
    × IsSaid (told_of_refusal why) (refusal_text (words_of_text text) why) room fault size out)
