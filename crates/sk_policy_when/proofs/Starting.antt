-- What `ask when` writes begins with a letter or a digit, and has no line feed, no comma and no remark.
use Rattle.std.proofs.Common.{◌≡◌, ◌<◌, ◌≤◌, ◌==◌, ◌∙◌, ap, arith, sym, refl, subst, inl, inr, ℕ, zero, suc, List, [], ◌∷◌, ◌++◌, length, map, codes, if◌then◌else◌, Bool, true, false, Option, Some, None}
use Rattle.std.specs.Prelude.{slice_get}
use Rattle.std.specs.Fmt.{decimal}
use Rattle.std.specs.List.{before_first, list_all, range_with_len}
use Rattle.std.specs.Option.{option_and_then}
use Rattle.std.proofs.lemmas.Bool.{and_left, and_parts, cases_Bool, cases_lt, false≢true, or_from}
use Rattle.std.proofs.lemmas.List.Folds.{list_all_at}
use Rattle.std.proofs.lemmas.List.FromFn.{get_or-range_with_len}
use Rattle.sk_text.proofs.Cuts.{before_first-no}
use Rattle.sk_insn.specs.declared.action.Action.{Action}
use Rattle.sk_insn.specs.declared.action.Action.TheVariants.{KillProcess, KillThread, Trap, Errno, UserNotif, Trace, Log, Allow, Unknown}
use Rattle.sk_insn.specs.Actions.{action_name, action_of, data_part}
use Rattle.sk_filter.specs.declared.errors.TheConstants.{ERRORS}
use Rattle.sk_filter.specs.Errors.{error_named, if_any}
use Rattle.sk_filter.specs.VerdictText.{data_text, error_text, verdict_text}
use Rattle.sk_policy_text.specs.Words.{begins_blank, begins_joined, begun, goes_on, is_letter_or_digit, is_word_byte, words_behind, words_of_line}
use Rattle.sk_policy_text.proofs.Spelling.{decimal_word, is_word}
use Rattle.sk_policy_when.proofs.Cutting.{AreClean, begins_run, both_clean, is_clean, is_run, no_blank, no_remark, no_word_byte, run_clean}
use Rattle.sk_policy_when.proofs.Sentencing.{BeginsWith}

-- ---- first words

no_sign : (byte : ℕ) (word : List ℕ) (others : List (List ℕ)) → is_word_byte byte ≡ true → begins_joined ((byte ∷ word) ∷ others) ≡ false
unfolding is_word_byte is_letter_or_digit
no_sign byte word others h =
    or_from _ _ (and_left (byte == 38) _ (no_word_byte byte 38 refl h)) (and_left (byte == 124) _ (no_word_byte byte 124 refl h))

heads : (byte : ℕ) (more rest : List ℕ) → is_word_byte byte ≡ true → BeginsWith (words_behind (byte ∷ more) rest)
heads byte more [] h = record { word = byte ∷ more; others = []; are = refl; no_sign = no_sign byte more [] h }
heads byte more (next ∷ rest) h = elim (cases_Bool (goes_on (byte ∷ more) next)) [
  | inl t ↦ rw t (heads byte (more ++ next ∷ []) rest h)
  | inr f ↦ rw f (record { word = byte ∷ more; others = words_behind (begun next) rest; are = refl; no_sign = no_sign byte more (words_behind (begun next) rest) h })
]

pub first_word : (byte : ℕ) (rest : List ℕ) → is_word_byte byte ≡ true → BeginsWith (words_of_line (byte ∷ rest))
first_word byte rest h =
    let front = before_first-no (λ b. b == 35) byte rest (no_remark byte h) in
    subst BeginsWith (sym (ap (words_behind []) front ∙ begins_run byte (before_first (λ b. b == 35) rest) h)) (heads byte [] (before_first (λ b. b == 35) rest) h)

-- ---- texts that begin with a letter or a digit

pub record Starts (text : List ℕ) : Type 0 where
  pub byte : ℕ
  pub rest : List ℕ
  pub are : text ≡ byte ∷ rest
  pub run : is_word_byte byte ≡ true
  pub clean : AreClean text

pub starts_word : (text more : List ℕ) → Starts text → BeginsWith (words_of_line (text ++ more))
starts_word text more it = subst (λ (l : List ℕ). BeginsWith (words_of_line (l ++ more))) (sym it.are) (first_word it.byte (it.rest ++ more) it.run)

pub starts_no_blank : (text more : List ℕ) → Starts text → begins_blank (text ++ more) ≡ false
starts_no_blank text more it = ap (λ l. begins_blank (l ++ more)) it.are ∙ no_blank it.byte it.run

word_run : (word : List ℕ) → is_word word ≡ true → is_run word ≡ true
unfolding is_word
word_run [] h = absurd (false≢true h)
word_run (byte ∷ word) h = h

pub word_starts : (word : List ℕ) → is_word word ≡ true → Starts word
word_starts word h = by_run word (word_run word h)
  where
    by_run : (word : List ℕ) → is_run word ≡ true → Starts word
    by_run [] h = absurd (false≢true h)
    by_run (byte ∷ word) h =
        record { byte = byte; rest = word; are = refl; run = (and_parts (is_word_byte byte) (list_all is_word_byte word) h).0; clean = run_clean (byte ∷ word) h }

-- ---- verdicts

action_starts : (action : Action) → Starts (action_name action)
unfolding is_word_byte is_letter_or_digit
action_starts KillProcess = record { byte = 107; rest = codes "ill_process"; are = refl; run = refl; clean = refl }
action_starts KillThread = record { byte = 107; rest = codes "ill_thread"; are = refl; run = refl; clean = refl }
action_starts Trap = record { byte = 116; rest = codes "rap"; are = refl; run = refl; clean = refl }
action_starts Errno = record { byte = 101; rest = codes "rrno"; are = refl; run = refl; clean = refl }
action_starts UserNotif = record { byte = 117; rest = codes "ser_notif"; are = refl; run = refl; clean = refl }
action_starts Trace = record { byte = 116; rest = codes "race"; are = refl; run = refl; clean = refl }
action_starts Log = record { byte = 108; rest = codes "og"; are = refl; run = refl; clean = refl }
action_starts Allow = record { byte = 97; rest = codes "llow"; are = refl; run = refl; clean = refl }
action_starts Unknown = record { byte = 117; rest = codes "nknown"; are = refl; run = refl; clean = refl }

is_clean_name : Option (List ℕ) → Bool
is_clean_name None = true
is_clean_name (Some name) = list_all is_clean name

all_clean : list_all (λ number. is_clean_name (error_named number)) (range_with_len 0 134) ≡ true
unfolding error_named is_clean_name
all_clean = refl

past : (texts : List (List ℕ)) (place : ℕ) → length texts ≤ place → slice_get texts place ≡ None
past [] place h = refl
past (text ∷ texts) zero h = absurd (omega (arith, h))
past (text ∷ texts) (suc place) h = past texts place (omega (arith, h))

none_behind : (number : ℕ) → 134 ≤ number → error_named number ≡ None
unfolding error_named
none_behind number h = ap (option_and_then if_any) (past (map (λ name. name.now) ERRORS) number h)

name_clean : (number : ℕ) → is_clean_name (error_named number) ≡ true
unfolding is_clean_name
name_clean number = elim (cases_lt number 134) [
  | inl lt ↦ elim (cases_Bool (is_clean_name (error_named number))) [
    | inl t ↦ t
    | inr f ↦
        let at = ap (λ n. is_clean_name (error_named n)) (get_or-range_with_len 0 134 number 0 lt ∙ omega arith) ∙ f in
        absurd (false≢true (sym (list_all_at (λ n. is_clean_name (error_named n)) (range_with_len 0 134) number 0 lt at) ∙ all_clean))
  ]
  | inr ge ↦ ap is_clean_name (none_behind number ge)
]

error_clean : (name : Option (List ℕ)) → is_clean_name name ≡ true → AreClean (error_text name)
unfolding is_clean_name
error_clean None h = refl
error_clean (Some name) h = h

decimal_clean : (n : ℕ) → n < 65536 → AreClean (decimal n)
decimal_clean n small = run_clean (decimal n) (word_run (decimal n) (decimal_word n (omega (arith, small))))

slash_clean : (n : ℕ) → n < 65536 → AreClean (codes "/" ++ decimal n)
slash_clean n small = decimal_clean n small

given_clean : (n : ℕ) → n < 65536 → (b : Bool) → AreClean (if b then [] else codes "/" ++ decimal n)
given_clean n small true = refl
given_clean n small false = slash_clean n small

data_clean : (action : Action) (n : ℕ) → n < 65536 → AreClean (data_text action n)
data_clean Errno n small = both_clean (decimal n) (error_text (error_named n)) (decimal_clean n small) (error_clean (error_named n) (name_clean n))
data_clean KillProcess n small = given_clean n small (n == 0)
data_clean KillThread n small = given_clean n small (n == 0)
data_clean Trap n small = given_clean n small (n == 0)
data_clean UserNotif n small = given_clean n small (n == 0)
data_clean Trace n small = given_clean n small (n == 0)
data_clean Log n small = given_clean n small (n == 0)
data_clean Allow n small = given_clean n small (n == 0)
data_clean Unknown n small = given_clean n small (n == 0)

pub starts_longer : (text more : List ℕ) → Starts text → AreClean more → Starts (text ++ more)
starts_longer text more it clean =
    record { byte = it.byte; rest = it.rest ++ more; are = ap (λ l. l ++ more) it.are; run = it.run; clean = both_clean text more it.clean clean }

pub verdict_starts : (value : ℕ) → Starts (verdict_text value)
unfolding verdict_text
verdict_starts value =
    starts_longer (action_name (action_of value)) (data_text (action_of value) (data_part value)) (action_starts (action_of value)) (data_clean (action_of value) (data_part value) (omega arith))
