-- Words that are verdicts: `ACTION` or `ACTION/DATA`, as seccomp(2) names the actions; and those that say what is expected of one.
use Rattle.std.specs.Prelude.{ℕ, ◌+◌, ◌==◌, ◌||◌, Bool, false, if◌then◌else◌, List, Option, Some, None, is_some}
use Rattle.std.specs.List.{list_any, before_first, after_first}
use Rattle.std.specs.Option.{option_map, option_or}
use Rattle.std.specs.Str.{bytes_eq}
use Rattle.sk_replay.specs.WordCalls.{plain_number}
use Rattle.sk_insn.specs.declared.action.Action.{Action}
use Rattle.sk_insn.specs.declared.action.Action.TheVariants.{Errno}
use Rattle.sk_insn.specs.Actions.{action_named, value_of}
use Rattle.sk_filter.specs.Errors.{error_number}
use Rattle.sk_conditions.specs.declared.expectation.Expectation.{Expectation}
use Rattle.sk_conditions.specs.declared.expectation.Expectation.TheVariants.{Refused, Performed}
use Rattle.sk_conditions.specs.Comparing.{expectation_name, value_of as value_expecting}

-- a step, and then another one, if the first gave a value
infixl 10 ◌>>=◌
abbrev pub ◌>>=◌ : {X Y : Type 0} → Option X → (X → Option Y) → Option Y
None >>= next = None
(Some value) >>= next = next value

-- ---- the two sides of a slash (47)

abbrev pub has_slash : List ℕ → Bool
has_slash word = list_any (λ byte. byte == 47) word

abbrev pub before_slash : List ℕ → List ℕ
before_slash word = before_first (λ byte. byte == 47) word

abbrev pub behind_slash : List ℕ → List ℕ
behind_slash word = after_first (λ byte. byte == 47) word

-- ---- a verdict

-- the action with the name that stands before the slash
abbrev pub action_in : List ℕ → Option Action
action_in word = action_named (before_slash word)

-- the number of an error, which is at most MAX_ERRNO of linux/err.h
abbrev pub errno_of : List ℕ → Option ℕ
errno_of text = plain_number 4095 text

-- the data of an action: a number of 16 bits; that of `errno` is an error's, and may be the name of the error
abbrev pub data_of : Action → List ℕ → Option ℕ
data_of Errno text = option_or (errno_of text) (error_number text)
data_of action text = plain_number 65535 text

-- without a slash it is 0, and `errno` has none
abbrev pub data_left_out : Action → Option ℕ
data_left_out Errno = None
data_left_out action = Some 0

unfoldable pub data_in : Action → List ℕ → Option ℕ
data_in action word = if has_slash word then data_of action (behind_slash word) else data_left_out action

-- the value of a filter that a word is
unfoldable pub action_value : List ℕ → Option ℕ
action_value word = do
  action ← action_in word
  value ← value_of action
  given ← data_in action word
  Some (value + given)

abbrev pub is_name : List ℕ → Option (List ℕ) → Bool
is_name word None = false
is_name word (Some name) = bytes_eq word name

-- what a word expects of a verdict: that the call is refused, or that it is performed
abbrev pub expectation_named : List ℕ → Option Expectation
expectation_named word =
    if is_name word (expectation_name Refused) then Some Refused else if is_name word (expectation_name Performed) then Some Performed else None

-- the value that a word is, or that stands for what it expects
unfoldable pub verdict_of_word : List ℕ → Option ℕ
verdict_of_word word = option_or (action_value word) (option_map value_expecting (expectation_named word))

-- whether a word is one where a verdict is expected, by its name
abbrev pub names_verdict : List ℕ → Bool
names_verdict word = is_some (action_in word) || is_some (expectation_named word)

-- the number of an error, where one stands behind `errno`, and not its name
abbrev pub error_given : Action → List ℕ → Option ℕ
error_given Errno text = errno_of text
error_given action text = None

unfoldable pub error_in : List ℕ → Option ℕ
error_in word = action_in word >>= λ action. error_given action (behind_slash word)
