-- The text of a verdict is read as the verdict.
use Rattle.std.proofs.Common.{◌≡◌, ◌≢◌, ◌<◌, ◌≤◌, ◌+◌, ◌%◌, ◌==◌, ◌&&◌, ◌∙◌, ap, arith, sym, refl, subst, inl, inr, ℕ, zero, suc, List, [], ◌∷◌, ◌++◌, length, map, append_assoc, codes, Bool, true, false, cond, get_or, Option, Some, None, Ok}
use Rattle.std.proofs.lemmas.Bool.{and_parts, cases_Bool, cases_lt, eqb-true, false≢true}
use Rattle.std.proofs.lemmas.List.{append-nil}
use Rattle.std.proofs.lemmas.List.Folds.{list_all_at}
use Rattle.std.proofs.lemmas.List.FromFn.{get_or-range_with_len}
use Rattle.std.specs.Prelude.{slice_get}
use Rattle.std.specs.Fmt.{decimal}
use Rattle.std.specs.List.{list_all, range_with_len}
use Rattle.std.specs.Option.{option_and_then}
use Rattle.sk_replay.specs.WordCalls.{plain_number}
use Rattle.sk_insn.specs.declared.action.Action.{Action}
use Rattle.sk_insn.specs.declared.action.Action.TheVariants.{KillProcess, KillThread, Trap, Errno, UserNotif, Trace, Log, Allow, Unknown}
use Rattle.sk_insn.specs.Actions.{action_name, action_of, action_part, data_part, has_value, value_of}
use Rattle.sk_filter.specs.declared.errors.TheConstants.{ERRORS}
use Rattle.sk_filter.specs.Errors.{error_named, error_number, if_any}
use Rattle.sk_filter.specs.VerdictText.{data_text, error_text, verdict_text}
use Rattle.sk_policy_text.specs.declared.word.Place.{Place}
use Rattle.sk_policy_text.specs.Words.{Word, is_letter_or_digit, is_word_byte, placed, words_of_line}
use Rattle.sk_policy_text.specs.Verdicts.{action_in, action_value, behind_slash, data_in, data_left_out, data_of, error_in, has_slash, verdict_of_word}
use Rattle.sk_policy_text.specs.Sentences.{begins_error, behind_error, only_verdict, verdict}
use Rattle.sk_policy_text.specs.RoundTrip.{VerdictsComeBack}
use Rattle.sk_policy_text.proofs.Plain.{plain-decimal}
use Rattle.sk_policy_text.proofs.Spelling.{decimal_word, is_word, longer_word, one_before, one_word, two_before, two_words, word_bytes}

-- ---- the names of errors

-- a name is a word, begins as such names do, and is that of the number
abbrev is_name : ℕ → Option (List ℕ) → Bool
is_name number None = true
is_name number (Some name) = is_word name && begins_error name && has_value number (error_number name)

abbrev is_named : ℕ → Bool
is_named number = is_name number (error_named number)

all_named : list_all is_named (range_with_len 0 134) ≡ true
unfolding error_named error_number is_word is_word_byte is_letter_or_digit
all_named = refl

past : (texts : List (List ℕ)) (place : ℕ) → length texts ≤ place → slice_get texts place ≡ None
past [] place h = refl
past (text ∷ texts) zero h = absurd (omega (arith, h))
past (text ∷ texts) (suc place) h = past texts place (omega (arith, h))

none-behind : (number : ℕ) → 134 ≤ number → error_named number ≡ None
unfolding error_named
none-behind number h = ap (option_and_then if_any) (past (map (λ name. name.now) ERRORS) number h)

named_within : (number : ℕ) → number < 134 → is_named number ≡ true
named_within number h = elim (cases_Bool (is_named number)) [
  | inl t ↦ t
  | inr f ↦
      let at : is_named (get_or (range_with_len 0 134) number 0) ≡ false = ap is_named (get_or-range_with_len 0 134 number 0 h ∙ omega arith) ∙ f in
      absurd (false≢true (sym (list_all_at is_named (range_with_len 0 134) number 0 h at) ∙ all_named))
]

named : (number : ℕ) (name : List ℕ) → error_named number ≡ Some name → is_name number (Some name) ≡ true
named number name h = elim (cases_lt number 134) [
  | inl lt ↦ sym (ap (is_name number) h) ∙ named_within number lt
  | inr ge ↦ let none : None ≡ Some name = sym (none-behind number ge) ∙ h in cc
]

-- ---- words

-- the name of an error comes first
abbrev pub begins_error_name : List Word → Bool
begins_error_name [] = false
begins_error_name (word ∷ rest) = begins_error word.text

-- a text is a verdict of one word or more, alone and before others, of which the first is no error's name
pub record Says (text : List ℕ) (value : ℕ) : Type 0 where
  pub first : List ℕ
  pub more : List (List ℕ)
  pub alone : words_of_line text ≡ first ∷ more
  pub before : (rest : List ℕ) → words_of_line (text ++ (32 ∷ rest)) ≡ first ∷ (more ++ words_of_line rest)
  pub read :
      (number : ℕ) (place : Place) (rest : List Word) → begins_error_name rest ≡ false
      → verdict (placed number place (first ∷ more) ++ rest) ≡ Ok (value, rest)

no_name : (number : Option ℕ) (rest : List Word) → begins_error_name rest ≡ false → behind_error number rest ≡ Ok rest
unfolding behind_error
no_name None rest h = refl
no_name (Some number) [] h = refl
no_name (Some number) (word ∷ rest) h = rw h refl

one_says : (word : List ℕ) (value : ℕ) → is_word word ≡ true → verdict_of_word word ≡ Some value → Says word value
unfolding verdict
one_says word value h is = record {
  first = word;
  more = [];
  alone = one_word word h;
  before = λ rest. one_before word rest h;
  read = λ number place rest free. let left = no_name (error_in word) rest free in rw (is, left) refl;
}

two_says : (word name : List ℕ) (value number : ℕ) → is_word word ≡ true → is_word name ≡ true → verdict_of_word word ≡ Some value
    → error_in word ≡ Some number → begins_error name ≡ true → has_value number (error_number name) ≡ true → Says (word ++ (32 ∷ name)) value
unfolding verdict behind_error
two_says word name value number h k is given begins named = record {
  first = word;
  more = name ∷ [];
  alone = two_words word name h k;
  before = λ rest. ap words_of_line (append_assoc word (32 ∷ name) (32 ∷ rest)) ∙ two_before word name rest h k;
  read = λ line place rest free. rw (is, given, begins, named) refl;
}

value_spoken : (action : Action) (value given : ℕ) (word : List ℕ) → action_in word ≡ Some action → value_of action ≡ Some value
    → data_in action word ≡ Some given → verdict_of_word word ≡ Some (value + given)
unfolding verdict_of_word action_value
value_spoken action value given word a v d = rw (a, v, d) refl

-- ---- texts

-- the text of an action with data
abbrev slashed : Action → ℕ → List ℕ
slashed action given = action_name action ++ (47 ∷ decimal given)

slashed_word : (action : Action) (given : ℕ) → given < 65536 → is_word (action_name action) ≡ true → is_word (slashed action given) ≡ true
unfolding is_word_byte is_letter_or_digit
slashed_word action given small h = longer_word (action_name action) (47 ∷ decimal given) h (word_bytes (decimal given) (decimal_word given (omega (arith, small))))

-- an action without data
zero_spoken : (action : Action) (value : ℕ) → is_word (action_name action) ≡ true → action_in (action_name action) ≡ Some action
    → has_slash (action_name action) ≡ false → data_left_out action ≡ Some 0 → value_of action ≡ Some value → Says (action_name action) (value + 0)
unfolding data_in
zero_spoken action value word found none left_out is =
    one_says (action_name action) (value + 0) word (value_spoken action value 0 (action_name action) found is (rw (none, left_out) refl))

-- the word of an action with data
word_spoken : (action : Action) (value given : ℕ) → action_in (slashed action given) ≡ Some action → has_slash (slashed action given) ≡ true
    → behind_slash (slashed action given) ≡ decimal given → data_of action (decimal given) ≡ Some given → value_of action ≡ Some value
    → verdict_of_word (slashed action given) ≡ Some (value + given)
unfolding data_in
word_spoken action value given found some behind given_is is =
    value_spoken action value given (slashed action given) found is (rw (some, behind, given_is) refl)

u16_spoken : (given : ℕ) → given < 65536 → plain_number 65535 (decimal given) ≡ Some given
u16_spoken given h = plain-decimal 65535 given (omega (arith, h)) (omega (arith, h))

errno_spoken : (given : ℕ) → given ≤ 4095 → plain_number 4095 (decimal given) ≡ Some given
errno_spoken given h = plain-decimal 4095 given (omega (arith, h)) h

number_spoken : (action : Action) (value given : ℕ) → given < 65536 → is_word (action_name action) ≡ true
    → verdict_of_word (slashed action given) ≡ Some (value + given) → Says (slashed action given) (value + given)
number_spoken action value given small word is = one_says (slashed action given) (value + given) (slashed_word action given small word) is

-- ---- each action

abbrev Spoken : Action → ℕ → Type 0
Spoken action value = (given : ℕ) → given < 65536 → Says (action_name action ++ data_text action given) (value + given)

-- what the text of an action but `errno` is, with data or without
given_spoken : (action : Action) (value : ℕ) → Says (action_name action) (value + 0)
    → ((given : ℕ) → given < 65536 → Says (slashed action given) (value + given)) → (given : ℕ) → given < 65536
    → Says (action_name action ++ cond (given == 0) [] (codes "/" ++ decimal given)) (value + given)
given_spoken action value none some given small = elim (cases_Bool (given == 0)) [
  | inl t ↦
      let nothing = eqb-true given 0 t in
      rw t (subst (λ text. Says text (value + given)) (sym (append-nil (action_name action)))
      (subst (λ (n : ℕ). Says (action_name action) (value + n)) (sym nothing) none))
  | inr f ↦ rw f (some given small)
]

trap-spoken : Spoken Trap 0x00030000
unfolding is_word is_word_byte is_letter_or_digit
trap-spoken = given_spoken Trap 0x00030000 (zero_spoken Trap 0x00030000 refl refl refl refl refl)
    (λ given small. number_spoken Trap 0x00030000 given small refl (word_spoken Trap 0x00030000 given refl refl refl (u16_spoken given small) refl))

kill_process-spoken : Spoken KillProcess 0x80000000
unfolding is_word is_word_byte is_letter_or_digit
kill_process-spoken = given_spoken KillProcess 0x80000000 (zero_spoken KillProcess 0x80000000 refl refl refl refl refl)
    (λ given small. number_spoken KillProcess 0x80000000 given small refl (word_spoken KillProcess 0x80000000 given refl refl refl (u16_spoken given small) refl))

kill_thread-spoken : Spoken KillThread 0
unfolding is_word is_word_byte is_letter_or_digit
kill_thread-spoken = given_spoken KillThread 0 (zero_spoken KillThread 0 refl refl refl refl refl)
    (λ given small. number_spoken KillThread 0 given small refl (word_spoken KillThread 0 given refl refl refl (u16_spoken given small) refl))

user_notif-spoken : Spoken UserNotif 0x7fc00000
unfolding is_word is_word_byte is_letter_or_digit
user_notif-spoken = given_spoken UserNotif 0x7fc00000 (zero_spoken UserNotif 0x7fc00000 refl refl refl refl refl)
    (λ given small. number_spoken UserNotif 0x7fc00000 given small refl (word_spoken UserNotif 0x7fc00000 given refl refl refl (u16_spoken given small) refl))

trace-spoken : Spoken Trace 0x7ff00000
unfolding is_word is_word_byte is_letter_or_digit
trace-spoken = given_spoken Trace 0x7ff00000 (zero_spoken Trace 0x7ff00000 refl refl refl refl refl)
    (λ given small. number_spoken Trace 0x7ff00000 given small refl (word_spoken Trace 0x7ff00000 given refl refl refl (u16_spoken given small) refl))

log-spoken : Spoken Log 0x7ffc0000
unfolding is_word is_word_byte is_letter_or_digit
log-spoken = given_spoken Log 0x7ffc0000 (zero_spoken Log 0x7ffc0000 refl refl refl refl refl)
    (λ given small. number_spoken Log 0x7ffc0000 given small refl (word_spoken Log 0x7ffc0000 given refl refl refl (u16_spoken given small) refl))

allow-spoken : Spoken Allow 0x7fff0000
unfolding is_word is_word_byte is_letter_or_digit
allow-spoken = given_spoken Allow 0x7fff0000 (zero_spoken Allow 0x7fff0000 refl refl refl refl refl)
    (λ given small. number_spoken Allow 0x7fff0000 given small refl (word_spoken Allow 0x7fff0000 given refl refl refl (u16_spoken given small) refl))

-- `errno` with a number, behind which its name stands where it has one
errno_word : (given : ℕ) → given ≤ 4095 → verdict_of_word (slashed Errno given) ≡ Some (0x00050000 + given)
errno_word given small =
    let is : data_of Errno (decimal given) ≡ Some given = let n = errno_spoken given small in rw n refl in
    word_spoken Errno 0x00050000 given refl refl refl is refl

errno_given : (given : ℕ) → given ≤ 4095 → error_in (slashed Errno given) ≡ Some given
unfolding error_in
errno_given given small = errno_spoken given small

errno-said : (given : ℕ) (name : Option (List ℕ)) → given ≤ 4095 → error_named given ≡ name
    → Says (action_name Errno ++ (codes "/" ++ (decimal given ++ error_text name))) (0x00050000 + given)
unfolding is_word is_word_byte is_letter_or_digit
errno-said given None small h =
    subst (λ text. Says (action_name Errno ++ (47 ∷ text)) (0x00050000 + given)) (sym (append-nil (decimal given)))
    (number_spoken Errno 0x00050000 given (omega (arith, small)) refl (errno_word given small))
errno-said given (Some name) small h =
    let all = and_parts (is_word name && begins_error name) (has_value given (error_number name)) (named given name h) in
    let front = and_parts (is_word name) (begins_error name) all.0 in
    two_says (slashed Errno given) name (0x00050000 + given) given (slashed_word Errno given (omega (arith, small)) refl) front.0
    (errno_word given small) (errno_given given small) front.1 all.1

errno-spoken : (given : ℕ) → given ≤ 4095 → Says (action_name Errno ++ data_text Errno given) (0x00050000 + given)
errno-spoken given small = errno-said given (error_named given) small refl

-- ---- a value

known : (action : Action) (high value : ℕ) → action_of value ≡ action → (high == action_part value) ≡ true
    → Says (action_name action ++ data_text action (data_part value)) (high + data_part value) → Says (verdict_text value) value
unfolding verdict_text
known action high value is same says =
    let part = eqb-true high (action_part value) same in
    let whole : high + value % 65536 ≡ value = omega (arith, part) in
    subst (λ a. Says (action_name a ++ data_text a (data_part value)) value) (sym is)
    (subst (λ (v : ℕ). Says (action_name action ++ data_text action (data_part value)) v) whole says)

pub verdict_says : (value : ℕ) → action_of value ≢ Unknown → (action_of value ≡ Errno → data_part value ≤ 4095) → Says (verdict_text value) value
unfolding action_of
verdict_says value named small = elim (cases_Bool (0x80000000 == action_part value)) [
  | inl t ↦ known KillProcess 0x80000000 value (rw t refl) t (kill_process-spoken (data_part value) (omega arith))
  | inr a ↦ elim (cases_Bool (0 == action_part value)) [
    | inl t ↦ known KillThread 0 value (rw (a, t) refl) t (kill_thread-spoken (data_part value) (omega arith))
    | inr b ↦ elim (cases_Bool (0x00030000 == action_part value)) [
      | inl t ↦ known Trap 0x00030000 value (rw (a, b, t) refl) t (trap-spoken (data_part value) (omega arith))
      | inr d ↦ elim (cases_Bool (0x00050000 == action_part value)) [
        | inl t ↦
            let is : action_of value ≡ Errno = rw (a, b, d, t) refl in
            known Errno 0x00050000 value is t (errno-spoken (data_part value) (small is))
        | inr e ↦ elim (cases_Bool (0x7fc00000 == action_part value)) [
          | inl t ↦ known UserNotif 0x7fc00000 value (rw (a, b, d, e, t) refl) t (user_notif-spoken (data_part value) (omega arith))
          | inr f ↦ elim (cases_Bool (0x7ff00000 == action_part value)) [
            | inl t ↦ known Trace 0x7ff00000 value (rw (a, b, d, e, f, t) refl) t (trace-spoken (data_part value) (omega arith))
            | inr g ↦ elim (cases_Bool (0x7ffc0000 == action_part value)) [
              | inl t ↦ known Log 0x7ffc0000 value (rw (a, b, d, e, f, g, t) refl) t (log-spoken (data_part value) (omega arith))
              | inr h ↦ elim (cases_Bool (0x7fff0000 == action_part value)) [
                | inl t ↦ known Allow 0x7fff0000 value (rw (a, b, d, e, f, g, h, t) refl) t (allow-spoken (data_part value) (omega arith))
                | inr i ↦ absurd (named (rw (a, b, d, e, f, g, h, i) refl))
              ]
            ]
          ]
        ]
      ]
    ]
  ]
]

pub verdicts_come_back : VerdictsComeBack
unfolding only_verdict
verdicts_come_back value number place named small =
    let says = verdict_says value named small in
    let read : verdict (placed number place (says.first ∷ says.more)) ≡ Ok (value, []) =
    ap verdict (sym (append-nil (placed number place (says.first ∷ says.more)))) ∙ says.read number place [] refl in
    ap (λ words. only_verdict (placed number place words)) says.alone ∙ rw read refl
