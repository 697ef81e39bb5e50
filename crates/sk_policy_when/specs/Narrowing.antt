-- Calls that are allowed only with what logs show in their arguments.
use Rattle.std.specs.Prelude.{ℕ, ◌≡◌, Bool, true, false, if◌then◌else◌, List, [], ◌∷◌, map, flat_map, slice_index_or, bit_and, codes, Option, Some, None}
use Rattle.std.specs.List.{list_all, list_any, range_with_len}
use Rattle.std.specs.Str.{bytes_eq}
use Rattle.sk_insn.specs.declared.record.Record.{Record}
use Rattle.sk_insn.specs.Actions.{allow}
use Rattle.sk_arguments.specs.declared.kinds.Kind.{Kind}
use Rattle.sk_arguments.specs.declared.kinds.Kind.TheVariants as kind
use Rattle.sk_arguments.specs.Reading.{argument_name, kind_of}
use Rattle.sk_replay.specs.declared.call.Call.{Call}
use Rattle.sk_replay.specs.Logged.{is_among}
use Rattle.sk_replay.specs.Seen.{seen_numbers}
use Rattle.sk_survey.specs.Answers.{answers_of}
use Rattle.sk_terms.specs.declared.choices.Choice.{Choice}
use Rattle.sk_terms.specs.declared.lines.Line.{Line}
use Rattle.sk_terms.specs.declared.term.Register.TheVariants.{Argument}
use Rattle.sk_terms.specs.declared.term.Term.{Term}
use Rattle.sk_when.specs.declared.row.ConditionalRow.{ConditionalRow}

-- ---- the verdicts

-- SECCOMP_RET_ERRNO of seccomp(2) with EPERM, which is 1
abbrev pub refused : ℕ
refused = 0x00050001

-- ---- conditions

-- some bits of an argument are one of these numbers
pub record Condition : Type 0 where
  pub argument : ℕ
  pub mask : ℕ
  pub numbers : List ℕ

-- Linux takes some addresses for numbers of 64 bits: these names of arguments stand behind `void *` in the manual, or behind
-- aio_context_t of io_setup(2), which is the address of a ring
abbrev pub address_names : List (List ℕ)
address_names =
    codes "addr" ∷ codes "old_address" ∷ codes "new_address" ∷ codes "stack" ∷ codes "tls" ∷ codes "argp" ∷ codes "data" ∷ codes "start"
    ∷ codes "ctx_id" ∷ []

abbrev pub is_address : Option (List ℕ) → Bool
is_address None = false
is_address (Some name) = list_any (bytes_eq name) address_names

-- which bits of a register Linux reads of an argument
abbrev pub read_bits : Kind → Option ℕ
read_bits kind.Absent = None
read_bits kind.Pointer = None
read_bits kind.Mode = Some 0xffff
read_bits kind.Int = Some 0xffffffff
read_bits kind.Unsigned = Some 0xffffffff
read_bits kind.Long = Some 0xffffffffffffffff

-- and which of them are a number. An address says nothing: what stands there is another thing at each call
unfoldable pub number_bits : ℕ → ℕ → Option ℕ
number_bits nr i = if is_address (argument_name nr i) then None else read_bits (kind_of nr i)

-- where a call with the number does not show the argument there is no condition on it, nor where there is no such call
abbrev pub condition_of : ℕ → ℕ → Option (List ℕ) → List Condition
condition_of i mask None = []
condition_of i mask (Some []) = []
condition_of i mask (Some (first ∷ numbers)) = record { argument = i; mask = mask; numbers = first ∷ numbers } ∷ []

abbrev pub condition_under : List Call → ℕ → ℕ → Option ℕ → List Condition
condition_under calls nr i None = []
condition_under calls nr i (Some mask) = condition_of i mask (seen_numbers calls nr i mask)

-- on one argument of the calls with a number
abbrev pub condition_at : List Call → ℕ → ℕ → List Condition
condition_at calls nr i = condition_under calls nr i (number_bits nr i)

-- on all six, in their order
abbrev pub conditions_on : List Call → ℕ → List Condition
conditions_on calls nr = flat_map (condition_at calls nr) (range_with_len 0 6)

-- of a call that is not narrowed there are none
abbrev pub conditions_for : List ℕ → List Call → ℕ → List Condition
conditions_for narrowed calls nr = if is_among nr narrowed then conditions_on calls nr else []

-- ---- arguments that a log does not show

-- a call with the number does not show the argument, so that there is no condition on it
abbrev pub unshown_of : ℕ → Option (List ℕ) → List ℕ
unshown_of i None = i ∷ []
unshown_of i (Some numbers) = []

abbrev pub unshown_under : List Call → ℕ → ℕ → Option ℕ → List ℕ
unshown_under calls nr i None = []
unshown_under calls nr i (Some mask) = unshown_of i (seen_numbers calls nr i mask)

abbrev pub unshown_at : List Call → ℕ → ℕ → List ℕ
unshown_at calls nr i = unshown_under calls nr i (number_bits nr i)

-- those of the calls with a number, in their order
unfoldable pub unshown_arguments : List Call → ℕ → List ℕ
unshown_arguments calls nr = flat_map (unshown_at calls nr) (range_with_len 0 6)

-- there is no condition, since nothing is shown
abbrev pub is_wide_of : List Condition → List ℕ → Bool
is_wide_of [] (first ∷ unshown) = true
is_wide_of conditions unshown = false

abbrev pub is_wide : List Call → ℕ → Bool
is_wide calls nr = is_wide_of (conditions_on calls nr) (unshown_arguments calls nr)

-- ---- calls on which conditions hold

-- a call has one of the numbers there
abbrev pub holds : Record → Condition → Bool
holds call it = is_among (bit_and (slice_index_or call.args it.argument 0) it.mask) it.numbers

abbrev pub holds_each : Record → List Condition → Bool
holds_each call conditions = list_all (holds call) conditions

-- ---- rows

-- a row allows the calls with a number where all conditions hold
pub record Allowed : Type 0 where
  pub nr : ℕ
  pub conditions : List Condition

abbrev pub allowed_row : List ℕ → List Call → ℕ → Allowed
allowed_row narrowed calls nr = record { nr = nr; conditions = conditions_for narrowed calls nr }

-- one row for each number
abbrev pub allowed_rows : List ℕ → List ℕ → List Call → List Allowed
allowed_rows numbers narrowed calls = map (allowed_row narrowed calls) numbers

-- ---- rows as `ask when` writes them

-- the bits of an argument are a number
abbrev pub term_of : ℕ → ℕ → ℕ → Term
term_of i mask n = record { register = Argument i; mask = mask; first = n; last = n; inside = true }

abbrev pub terms_of : Condition → List Term
terms_of it = map (term_of it.argument it.mask) it.numbers

abbrev pub terms_in : List Choice → List (List Term)
terms_in choices = map (λ (choice : Choice). choice.terms.items) choices

-- the row of a number all of whose calls are allowed
pub record IsPlainRow (nr : ℕ) (told : ConditionalRow) : Type 0 where
  pub first : told.row.first ≡ nr
  pub last : told.row.last ≡ nr
  pub answers : answers_of told.row.answers ≡ Some (allow ∷ [])
  pub lines : told.lines.items ≡ []
  pub otherwise : told.otherwise ≡ Some allow

-- one line, which allows the calls on which a term of each choice holds
abbrev pub IsLineOf : List Choice → List Line → Type 0
IsLineOf choices (line ∷ []) = (line.value ≡ Some allow) × (line.choices.items ≡ choices)
IsLineOf choices lines = ⊥

-- the row of a number of whose calls these are allowed, and no others
pub record IsNarrowedRow (nr : ℕ) (choices : List Choice) (told : ConditionalRow) : Type 0 where
  pub first : told.row.first ≡ nr
  pub last : told.row.last ≡ nr
  pub answers : answers_of told.row.answers ≡ Some (refused ∷ allow ∷ [])
  pub lines : IsLineOf choices told.lines.items
  pub otherwise : told.otherwise ≡ Some refused

abbrev pub IsRowFor : ℕ → List Condition → ConditionalRow → Type 0
IsRowFor nr [] told = IsPlainRow nr told
IsRowFor nr (first ∷ conditions) told = (choices : List Choice) × (terms_in choices ≡ map terms_of (first ∷ conditions)) × IsNarrowedRow nr choices told

abbrev pub IsAllowedRow : Allowed → ConditionalRow → Type 0
IsAllowedRow it told = IsRowFor it.nr it.conditions told

abbrev pub AreAllowedRows : List Allowed → List ConditionalRow → Type 0
AreAllowedRows [] [] = Unit {0}
AreAllowedRows (it ∷ its) (told ∷ rows) = IsAllowedRow it told × AreAllowedRows its rows
AreAllowedRows its rows = ⊥
