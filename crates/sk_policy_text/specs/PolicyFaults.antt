-- Sentences that are wrong where they stand.
use Rattle.std.specs.Prelude.{ℕ, ◌≡◌, ◌⊎◌, ◌||◌, Bool, true, false, if◌then◌else◌, List, [], ◌∷◌, length, Option, Some, None, is_some}
use Rattle.sk_terms.specs.declared.choices.Choice.{Choice}
use Rattle.sk_policy.specs.declared.cases.Case.{Case}
use Rattle.sk_policy_text.specs.declared.condition.ConditionFault.{ConditionFault}
use Rattle.sk_policy_text.specs.declared.condition.ConditionFault.TheVariants as condition
use Rattle.sk_policy_text.specs.declared.token.Token.{Token}
use Rattle.sk_policy_text.specs.declared.policy_fault.Misplaced.{Misplaced}
use Rattle.sk_policy_text.specs.declared.policy_fault.Misplaced.TheVariants as misplaced
use Rattle.sk_policy_text.specs.declared.policy_fault.PolicyFault.{PolicyFault}
use Rattle.sk_policy_text.specs.declared.policy_fault.PolicyFault.TheVariants as fault
use Rattle.sk_policy_text.specs.declared.policy_fault.Wrong.{Wrong}
use Rattle.sk_policy_text.specs.declared.policy_fault.Wrong.TheVariants as wrong
use Rattle.sk_policy_text.specs.declared.sentence.Sentence.{Sentence}
use Rattle.sk_policy_text.specs.declared.sentence.Sentence.TheVariants as sentence
use Rattle.sk_policy_text.specs.declared.stated.Above.{Above}
use Rattle.sk_policy_text.specs.declared.stated.Inside.{Inside}
use Rattle.sk_policy_text.specs.declared.stated.Inside.TheVariants as inside
use Rattle.sk_policy_text.specs.declared.stated.Stated.{Stated}
use Rattle.sk_policy_text.specs.PolicyRows.{sentences_of, default_in, others_in, default_of, stated_others, else_below}
use Rattle.sk_policy_text.specs.ConditionsTokens.{tokens_of}
use Rattle.sk_policy_text.specs.ConditionsRead.{ReadsCondition, IsRefused, IsTooDeep, IsWithin}

-- ---- what stands above a sentence, the nearest first

-- whether cases may follow
abbrev pub inside_of : List Sentence → Inside
inside_of [] = inside.NoRow
inside_of (sentence.Row ranges None ∷ above) = inside.Cases
inside_of (sentence.Row ranges (Some verdict) ∷ above) = inside.NoRow
inside_of (sentence.Case verdict words ∷ above) = inside_of above
inside_of (sentence.Else verdict ∷ above) = inside.BehindElse
inside_of (other ∷ above) = inside.NoRow

abbrev pub is_some_there : List Sentence → Bool
is_some_there [] = false
is_some_there (first ∷ above) = true

abbrev pub above_of : List Sentence → Above
above_of above = record {
  some = is_some_there above;
  default = is_some (default_of above);
  others = is_some (stated_others above);
  inside = inside_of above;
}

-- with one sentence more
abbrev pub inside_with : Inside → Sentence → Inside
inside_with it (sentence.Row ranges None) = inside.Cases
inside_with it (sentence.Row ranges (Some verdict)) = inside.NoRow
inside_with it (sentence.Case verdict words) = it
inside_with it (sentence.Else verdict) = inside.BehindElse
inside_with it other = inside.NoRow

abbrev pub above_with : Above → Sentence → Above
above_with above it = record {
  some = true;
  default = is_some (default_in it) || above.default;
  others = is_some (others_in it) || above.others;
  inside = inside_with above.inside it;
}

-- ---- one sentence

abbrev pub misplaced_case : Inside → Option Misplaced
misplaced_case inside.NoRow = Some misplaced.NoRow
misplaced_case inside.Cases = None
misplaced_case inside.BehindElse = Some misplaced.BehindElse

-- why it may not stand there, if it may not
abbrev pub misplaced_at : Above → Sentence → List Sentence → Option Misplaced
misplaced_at above (sentence.Arch architecture) behind = if above.some then Some misplaced.ArchNotFirst else None
misplaced_at above (sentence.Default verdict) behind = if above.default then Some misplaced.DefaultTwice else None
misplaced_at above (sentence.Others verdict) behind = if above.others then Some misplaced.OthersTwice else None
misplaced_at above (sentence.Row ranges (Some verdict)) behind = None
misplaced_at above (sentence.Row ranges None) behind = if is_some (else_below behind) then None else Some misplaced.NoElse
misplaced_at above (sentence.Case verdict words) behind = misplaced_case above.inside
misplaced_at above (sentence.Else verdict) behind = misplaced_case above.inside

-- the condition of a case is read
abbrev pub IsRead : Sentence → Type 0
IsRead (sentence.Case verdict words) = (choices : List Choice) × ReadsCondition (tokens_of words.now) choices
IsRead other = Unit {0}

-- it is read as this case
abbrev pub IsCaseOf : Sentence → Case → Type 0
IsCaseOf (sentence.Case verdict words) it = (it.value ≡ verdict) × ReadsCondition (tokens_of words.now) it.choices.items
IsCaseOf other it = ⊥

-- it is none; that memory is refused is no fault of it
abbrev pub IsUnread : List Token → ConditionFault → Type 0
IsUnread tokens condition.Memory = ⊥
IsUnread tokens why = IsRefused why tokens × IsTooDeep why tokens

abbrev pub IsUnreadIn : Sentence → ConditionFault → Type 0
IsUnreadIn (sentence.Case verdict words) fault = IsUnread (tokens_of words.now) fault × IsWithin fault (length words.now)
IsUnreadIn other fault = ⊥

abbrev pub IsRight : Above → Sentence → List Sentence → Type 0
IsRight above it behind = (misplaced_at above it behind ≡ None) × IsRead it

abbrev pub IsWrong : Above → Sentence → List Sentence → Wrong → Type 0
IsWrong above it behind (wrong.Misplaced why) = misplaced_at above it behind ≡ Some why
IsWrong above it behind (wrong.Unread why) = (misplaced_at above it behind ≡ None) × IsUnreadIn it why

-- ---- a text, behind the sentences above

abbrev pub AreRight : List Sentence → List Stated → Type 0
AreRight above [] = Unit {0}
AreRight above (first ∷ behind) =
    IsRight (above_of above) first.sentence (sentences_of behind) × AreRight (first.sentence ∷ above) behind

-- the first sentence that is wrong
abbrev pub IsFirstFault : List Sentence → List Stated → ℕ → Wrong → Type 0
IsFirstFault above [] line why = ⊥
IsFirstFault above (first ∷ behind) line why =
    ((first.line ≡ line) × IsWrong (above_of above) first.sentence (sentences_of behind) why)
    ⊎ (IsRight (above_of above) first.sentence (sentences_of behind) × IsFirstFault (first.sentence ∷ above) behind line why)

-- ---- what functions answer

-- of one sentence
abbrev pub IsFaultAt : Above → Stated → List Sentence → PolicyFault → Type 0
IsFaultAt above it behind (fault.Wrong line why) = (it.line ≡ line) × IsWrong above it.sentence behind why
IsFaultAt above it behind fault.Memory = Unit {0}
IsFaultAt above it behind other = ⊥

-- of one condition
abbrev pub IsUnreadAt : Stated → PolicyFault → Type 0
IsUnreadAt it (fault.Wrong line (wrong.Unread why)) = (it.line ≡ line) × IsUnreadIn it.sentence why
IsUnreadAt it fault.Memory = Unit {0}
IsUnreadAt it other = ⊥

abbrev pub IsSentenceFault : List Sentence → List Stated → PolicyFault → Type 0
IsSentenceFault above text (fault.Wrong line why) = IsFirstFault above text line why
IsSentenceFault above text fault.Memory = Unit {0}
IsSentenceFault above text other = ⊥
