-- What is found of a chain holds of every call.
use Rattle.std.proofs.Common.{ℕ, zero, suc, ◌≡◌, ◌+◌, ◌%◌, ◌^◌, ◌==◌, ◌<◌, ◌||◌, ◌&&◌, not, true, false, Bool, if◌then◌else◌, inl, inr, List, [], ◌∷◌, ◌++◌, length, map, Option, Some, None, slice_index_or, refl, sym, ap, subst, ◌∙◌, arith}
use Rattle.std.specs.Prelude.{flat_map}
use Rattle.std.specs.List.{All, Contains, filter, list_any, range_with_len}
use Rattle.std.proofs.lemmas.Bool.{and_from, cases_lt, eq-eqb, eqb-true, or_parts, true≢false}
use Rattle.std.proofs.lemmas.List.{get_or-set_same, get_or_past}
use Rattle.std.proofs.lemmas.List.Elements.{All-head, All-tail}
use Rattle.std.proofs.lemmas.List.Folds.{list_any_at}
use Rattle.sk_arguments.specs.declared.kinds.Kind.{Kind}
use Rattle.sk_arguments.specs.declared.kinds.Kind.TheVariants as kind
use Rattle.sk_arguments.specs.Reading.{is_narrow, kind_of, reads_lower, reads_upper, unread_at, unread_places}
use Rattle.sk_insn.specs.declared.insn.Insn.{Insn}
use Rattle.sk_insn.specs.declared.record.Record.{Record}
use Rattle.sk_insn.specs.declared.operation.Operation.{Operation}
use Rattle.sk_insn.specs.declared.operation.Operation.TheVariants.{LoadConstant, LoadRecord}
use Rattle.sk_insn.specs.declared.operation.Register.TheVariants.{Accumulator}
use Rattle.sk_insn.specs.Operations.{code_of, operation_of}
use Rattle.sk_insn.specs.Record.{IsNative}
use Rattle.sk_filter.specs.Chains.{AllValid}
use Rattle.sk_filter.specs.Verdict.{verdict_of}
use Rattle.sk_survey.specs.Answers.{IsCallOf}
use Rattle.sk_survey.specs.ByArchitecture.{chain_loads}
use Rattle.sk_survey.specs.Taken.{chain_taking, loaded_places, taken_as}
use Rattle.sk_survey.specs.Without.{chain_without, loads_among, without}
use Rattle.sk_survey.proofs.TakenCalls.{chains_take_calls}
use Rattle.sk_conditions.specs.declared.differences.Verdicts.{Verdicts}
use Rattle.sk_conditions.specs.declared.numbers.Numbers.{Numbers}
use Rattle.sk_conditions.specs.declared.standing.Relation.{Relation}
use Rattle.sk_conditions.specs.declared.standing.Relation.TheVariants.{Same, AsStrict}
use Rattle.sk_conditions.specs.Comparing.{relates}
use Rattle.sk_when.specs.declared.concern.Concern.{Concern}
use Rattle.sk_when.specs.declared.concern.Concern.TheVariants as concern
use Rattle.sk_when.specs.declared.diff_engine.Finding.TheVariants as finding
use Rattle.sk_when.specs.declared.piece.Calls.{Calls}
use Rattle.sk_when.specs.declared.piece.Outcome.{Outcome}
use Rattle.sk_when.specs.declared.piece.Outcome.TheVariants.{Undecided, Apart}
use Rattle.sk_when.specs.declared.piece.Part.{Part}
use Rattle.sk_when.specs.declared.piece.Piece.{Piece}
use Rattle.sk_when.specs.Pieces.{AreDecided, Holds, HoldsOf, IsShown, IsSo, meets_calls, shows_call, stands_on}
use Rattle.sk_when.specs.Lint.{AreLinted, IsLinted, concern_by, concern_of, has_concern, is_asked, is_concern, is_int, lint_finding, needs_a_sign, needs_sign, number_of, piece_has, some_has, upper_of, with_one_above}
use Rattle.sk_when.specs.Lints.{CleanIsTrue, FollowedLintIsDecided, NowhereLooserIsTrue, SignsAreTold}
use Rattle.sk_when.proofs.EveryCall.{one, relates_itself}

-- ---- numbers that are not asked about

pub none_loaded : (programs : List (List Insn)) (places : List ℕ) → list_any (λ place. chain_loads place programs) places ≡ false → loaded_places programs places ≡ []
none_loaded programs [] none = refl
none_loaded programs (place ∷ places) none =
    let split = or_parts (chain_loads place programs) (list_any (λ place. chain_loads place programs) places) none in
    let rest = none_loaded programs places split.1 in
    ap (λ b. if b then place ∷ loaded_places programs places else loaded_places programs places) split.0 ∙ rest

pub some_loaded : (programs : List (List Insn)) (places : List ℕ) → (loaded_places programs places ≡ [] → ⊥) → list_any (λ place. chain_loads place programs) places ≡ true
some_loaded programs places some = by_test (list_any (λ place. chain_loads place programs) places) refl where
  by_test : (b : Bool) → list_any (λ place. chain_loads place programs) places ≡ b → list_any (λ place. chain_loads place programs) places ≡ true
  by_test true e = e
  by_test false e = absurd (some (none_loaded programs places e))

pub unasked_from : (programs : List (List Insn)) (places : List ℕ) → loaded_places programs places ≡ [] → list_any (λ place. chain_loads place programs) places ≡ false
unasked_from programs [] none = refl
unasked_from programs (place ∷ places) none = by_test (chain_loads place programs) none (unasked_from programs places) where
  by_test : (b : Bool) → (if b then place ∷ loaded_places programs places else loaded_places programs places) ≡ []
      → (loaded_places programs places ≡ [] → list_any (λ place. chain_loads place programs) places ≡ false)
      → (b || list_any (λ place. chain_loads place programs) places) ≡ false
  by_test true none rest = cc
  by_test false none rest = rest none

loads_none : (o : Option Operation) (insn : Insn) → loads_among [] o insn ≡ false
loads_none None insn = refl
loads_none (Some LoadRecord) insn = refl
loads_none (Some other) insn = refl

same_insn : (insn : Insn) → without [] insn ≡ insn
same_insn insn = ap (λ b. if b then record insn { code = code_of (LoadConstant Accumulator); k = 0 } else insn) (loads_none (operation_of insn.code) insn)

same_insns : (insns : List Insn) → map (without []) insns ≡ insns
same_insns [] = refl
same_insns (insn ∷ insns) = ap (λ (it : Insn). it ∷ map (without []) insns) (same_insn insn) ∙ ap (λ (its : List Insn). insn ∷ its) (same_insns insns)

without_none : (programs : List (List Insn)) → chain_without [] programs ≡ programs
without_none [] = refl
without_none (insns ∷ programs) =
    ap (λ (it : List Insn). it ∷ chain_without [] programs) (same_insns insns) ∙ ap (λ (its : List (List Insn)). insns ∷ its) (without_none programs)

unasked : (programs : List (List Insn)) → AllValid programs → (call : Record) → is_asked programs call.nr ≡ false
    → verdict_of programs (taken_as call) ≡ verdict_of programs call
unasked programs valid call none =
    sym (chains_take_calls programs valid call)
    ∙ ap (λ places. verdict_of (chain_without places programs) call) (none_loaded programs (unread_places call.nr) none)
    ∙ ap (λ (its : List (List Insn)). verdict_of its call) (without_none programs)

-- ---- a number that is asked about is one of the table

whole : (it : Kind) → reads_upper it ≡ true → reads_lower it ≡ true
whole kind.Absent e = cc
whole kind.Mode e = refl
whole kind.Int e = refl
whole kind.Unsigned e = refl
whole kind.Long e = refl
whole kind.Pointer e = refl

nothing_unread : (nr i : ℕ) → not (reads_upper (kind_of nr i)) ≡ false → unread_at nr i ≡ []
unfolding unread_at
nothing_unread nr i e = rw (upper, whole (kind_of nr i) upper) refl where
  by_test : (b : Bool) → not b ≡ false → b ≡ true
  by_test true e = refl
  by_test false e = cc

  upper : reads_upper (kind_of nr i) ≡ true
  upper = by_test (reads_upper (kind_of nr i)) e

all_read : (nr : ℕ) (places : List ℕ) → list_any (λ i. not (reads_upper (kind_of nr i))) places ≡ false → flat_map (unread_at nr) places ≡ []
all_read nr [] e = refl
all_read nr (i ∷ places) e =
    let split = or_parts (not (reads_upper (kind_of nr i))) (list_any (λ i. not (reads_upper (kind_of nr i))) places) e in
    ap (λ (its : List ℕ). its ++ flat_map (unread_at nr) places) (nothing_unread nr i split.0) ∙ all_read nr places split.1

wide : (nr : ℕ) → is_narrow nr ≡ false → unread_places nr ≡ []
unfolding is_narrow unread_places
wide nr e = all_read nr (range_with_len 0 6) e

pub asked_is_narrow : (programs : List (List Insn)) (nr : ℕ) → is_asked programs nr ≡ true → is_narrow nr ≡ true
asked_is_narrow programs nr asked = by_test (is_narrow nr) refl where
  by_test : (b : Bool) → is_narrow nr ≡ b → is_narrow nr ≡ true
  by_test true e = e
  by_test false e =
      absurd (true≢false (sym asked ∙ ap (list_any (λ place. chain_loads place programs)) (wide nr e)))

pub contains_filtered : (test : ℕ → Bool) (numbers : List ℕ) (nr : ℕ) → Contains numbers nr → test nr ≡ true → Contains (filter test numbers) nr
contains_filtered test [] nr has passes = absurd (omega (arith, has.1))
contains_filtered test (first ∷ numbers) nr (zero, inside, same) passes = by_test (test first) refl where
  by_test : (b : Bool) → test first ≡ b → Contains (if b then first ∷ filter test numbers else filter test numbers) nr
  by_test true e = (0, omega arith, same)
  by_test false e = absurd (true≢false (sym passes ∙ ap test (sym same) ∙ e))
contains_filtered test (first ∷ numbers) nr (suc k, inside, same) passes =
    by_test (test first) (contains_filtered test numbers nr (k, omega (arith, inside), same) passes) where
      by_test : (b : Bool) → Contains (filter test numbers) nr → Contains (if b then first ∷ filter test numbers else filter test numbers) nr
      by_test true has = (suc has.0, omega (arith, has.1), has.2)
      by_test false has = has

-- ---- a piece of a number

abbrev IsQuiet : Piece → Type 0
IsQuiet piece = (piece_has concern.Looser piece ≡ false) × (piece_has concern.Signed piece ≡ false) × (piece_has concern.Undecided piece ≡ false)

abbrev AreQuiet : List Piece → Type 0
AreQuiet pieces = (some_has concern.Looser pieces ≡ false) × (some_has concern.Signed pieces ≡ false) × (some_has concern.Undecided pieces ≡ false)

quiet_head : (piece : Piece) (pieces : List Piece) → AreQuiet (piece ∷ pieces) → IsQuiet piece
quiet_head piece pieces quiet = (
  (or_parts (piece_has concern.Looser piece) (some_has concern.Looser pieces) quiet.0).0,
  (or_parts (piece_has concern.Signed piece) (some_has concern.Signed pieces) quiet.1).0,
  (or_parts (piece_has concern.Undecided piece) (some_has concern.Undecided pieces) quiet.2).0,
)

quiet_tail : (piece : Piece) (pieces : List Piece) → AreQuiet (piece ∷ pieces) → AreQuiet pieces
quiet_tail piece pieces quiet = (
  (or_parts (piece_has concern.Looser piece) (some_has concern.Looser pieces) quiet.0).1,
  (or_parts (piece_has concern.Signed piece) (some_has concern.Signed pieces) quiet.1).1,
  (or_parts (piece_has concern.Undecided piece) (some_has concern.Undecided pieces) quiet.2).1,
)

-- what holds of each piece and is so of the pieces together, of the one with a number
piece_at : (P Q : Piece → Type 0) (R : List Piece → Type 0) → ((piece : Piece) (pieces : List Piece) → R (piece ∷ pieces) → Q piece × R pieces)
    → (pieces : List Piece) → All P pieces → R pieces → (nr : ℕ) → Contains (map number_of pieces) nr
    → (piece : Piece) × (piece.numbers.first ≡ nr) × P piece × Q piece
piece_at P Q R split [] all is nr has = absurd (omega (arith, has.1))
piece_at P Q R split (piece ∷ pieces) all is nr (zero, inside, same) = (piece, same, All-head P piece pieces all, (split piece pieces is).0)
piece_at P Q R split (piece ∷ pieces) all is nr (suc k, inside, same) =
    piece_at P Q R split pieces (All-tail P piece pieces all) (split piece pieces is).1 nr (k, omega (arith, inside), same)

-- ---- a part of it

-- what is neither looser, nor signed, nor undecided is as strict
as_strict : (calls : Calls) (outcome : Outcome) → is_concern (concern_by calls outcome) concern.Looser ≡ false
    → is_concern (concern_by calls outcome) concern.Undecided ≡ false
    → (relation : Relation) (old new : List (List Insn)) (numbers : Numbers) → IsSo relation old new numbers calls outcome
    → (call : Record) → IsCallOf numbers.first numbers.last call → meets_calls calls call ≡ true
    → relates AsStrict (verdict_of old call) (verdict_of new call) ≡ true
as_strict calls Undecided looser undecided relation old new numbers is call within meets = absurd (true≢false undecided)
as_strict calls (Apart it shown) looser undecided relation old new numbers is call within meets =
    let verdicts = is.0 call within meets in
    ap (λ n. relates AsStrict n (verdict_of new call)) verdicts.0 ∙ ap (relates AsStrict it.old) verdicts.1
    ∙ by_test (relates AsStrict it.old it.new) looser where
      by_test : (b : Bool)
          → is_concern (if not b then concern.Looser else if needs_a_sign calls shown then concern.Signed else concern.Stricter) concern.Looser ≡ false
          → b ≡ true
      by_test true e = refl
      by_test false e = absurd (true≢false e)

strict_among : (relation : Relation) (old new : List (List Insn)) (numbers : Numbers) (parts : List Part) → All (HoldsOf relation old new numbers) parts
    → list_any (has_concern concern.Looser) parts ≡ false → list_any (has_concern concern.Undecided) parts ≡ false
    → (call : Record) → IsCallOf numbers.first numbers.last call → list_any (λ part. meets_calls part.calls call) parts ≡ true
    → relates AsStrict (verdict_of old call) (verdict_of new call) ≡ true
strict_among relation old new numbers [] all looser undecided call within meets = cc
strict_among relation old new numbers (part ∷ parts) all looser undecided call within meets =
    let one_looser = or_parts (has_concern concern.Looser part) (list_any (has_concern concern.Looser) parts) looser in
    let one_undecided = or_parts (has_concern concern.Undecided part) (list_any (has_concern concern.Undecided) parts) undecided in
    elim (one (meets_calls part.calls call) (list_any (λ part. meets_calls part.calls call) parts) meets) [
      | inl here ↦
          as_strict part.calls part.outcome one_looser.0 one_undecided.0 relation old new numbers (All-head (HoldsOf relation old new numbers) part parts all).0 call within here
      | inr behind ↦
          strict_among relation old new numbers parts (All-tail (HoldsOf relation old new numbers) part parts all) one_looser.1 one_undecided.1 call within behind
    ]

-- so is the verdict on each call of the piece
strict_here : (old new : List (List Insn)) (piece : Piece) → Holds Same old new piece → IsQuiet piece
    → (call : Record) → IsCallOf piece.numbers.first piece.numbers.last call → relates AsStrict (verdict_of old call) (verdict_of new call) ≡ true
strict_here old new piece holds quiet call within = by_test (stands_on Same old new call) refl where
  by_test : (b : Bool) → stands_on Same old new call ≡ b → relates AsStrict (verdict_of old call) (verdict_of new call) ≡ true
  by_test true e =
      let same = eqb-true (verdict_of old call) (verdict_of new call) e in
      ap (λ n. relates AsStrict n (verdict_of new call)) same ∙ relates_itself AsStrict (verdict_of new call) refl
  by_test false e =
      strict_among Same old new piece.numbers piece.parts.items holds.0 quiet.0 quiet.2 call within (holds.1 call within e)

-- each part is of one concern
each_is_one : (it : Concern) → is_concern it concern.Looser ≡ false → is_concern it concern.Signed ≡ false → is_concern it concern.Undecided ≡ false
    → is_concern it concern.Stricter ≡ false → ⊥
each_is_one concern.Looser a b c d = true≢false a
each_is_one concern.Signed a b c d = true≢false b
each_is_one concern.Undecided a b c d = true≢false c
each_is_one concern.Stricter a b c d = true≢false d

no_parts : (parts : List Part) → list_any (has_concern concern.Looser) parts ≡ false → list_any (has_concern concern.Signed) parts ≡ false
    → list_any (has_concern concern.Undecided) parts ≡ false → list_any (has_concern concern.Stricter) parts ≡ false → parts ≡ []
no_parts [] a b c d = refl
no_parts (part ∷ parts) a b c d =
    absurd (each_is_one (concern_of part)
    (or_parts (has_concern concern.Looser part) (list_any (has_concern concern.Looser) parts) a).0
    (or_parts (has_concern concern.Signed part) (list_any (has_concern concern.Signed) parts) b).0
    (or_parts (has_concern concern.Undecided part) (list_any (has_concern concern.Undecided) parts) c).0
    (or_parts (has_concern concern.Stricter part) (list_any (has_concern concern.Stricter) parts) d).0)

same_here : (old new : List (List Insn)) (piece : Piece) → Holds Same old new piece → IsQuiet piece → piece_has concern.Stricter piece ≡ false
    → (call : Record) → IsCallOf piece.numbers.first piece.numbers.last call → verdict_of old call ≡ verdict_of new call
same_here old new piece holds quiet none call within = by_test (stands_on Same old new call) refl where
  by_test : (b : Bool) → stands_on Same old new call ≡ b → verdict_of old call ≡ verdict_of new call
  by_test true e = eqb-true (verdict_of old call) (verdict_of new call) e
  by_test false e =
      let empty = no_parts piece.parts.items quiet.0 quiet.1 quiet.2 none in
      let covered = holds.1 call within e in
      absurd (true≢false (sym covered ∙ ap (list_any (λ (part : Part). meets_calls part.calls call)) empty))

-- ---- every call

-- the call is one of those that its number's piece speaks of
of_number : (piece : Piece) (call : Record) → piece.numbers.first ≡ piece.numbers.last → piece.numbers.first ≡ call.nr → IsNative call
    → IsCallOf piece.numbers.first piece.numbers.last call
of_number piece call alone is native = (native, (omega (arith, is), omega (arith, is, alone)))

none_told : (a b c : Bool) → finding.Holds ≡ (if a || b then finding.Fails else if c then finding.Undecided else finding.Holds)
    → (a ≡ false) × (b ≡ false) × (c ≡ false)
none_told true b c e = cc
none_told false true c e = cc
none_told false false true e = cc
none_told false false false e = (refl, refl, refl)

are_quiet : (pieces : List Piece) → finding.Holds ≡ lint_finding pieces → AreQuiet pieces
are_quiet pieces e = none_told (some_has concern.Looser pieces) (some_has concern.Signed pieces) (some_has concern.Undecided pieces) e

pub nowhere_looser : NowhereLooserIsTrue
nowhere_looser programs valid is_spent pieces notes it call native = by_test (is_asked programs call.nr) refl where
  quiet : AreQuiet pieces
  quiet = are_quiet pieces it.stands

  by_test : (b : Bool) → is_asked programs call.nr ≡ b → relates AsStrict (verdict_of programs (taken_as call)) (verdict_of programs call) ≡ true
  by_test false e =
      ap (λ n. relates AsStrict n (verdict_of programs call)) (unasked programs valid call e) ∙ relates_itself AsStrict (verdict_of programs call) refl
  by_test true e =
      let found = piece_at (IsLinted programs) IsQuiet AreQuiet (λ piece pieces quiet. (quiet_head piece pieces quiet, quiet_tail piece pieces quiet))
      pieces it.linted.holds quiet call.nr (it.linted.each call.nr e) in
      let piece = found.0 in
      let holds = subst (λ nr. Holds Same (chain_taking nr programs) programs piece) found.1 found.2.1 in
      ap (λ n. relates AsStrict n (verdict_of programs call)) (sym (chains_take_calls programs valid call))
      ∙ strict_here (chain_taking call.nr programs) programs piece holds found.3 call (of_number piece call found.2.0 found.1 native)

abbrev IsStill : Piece → Type 0
IsStill piece = IsQuiet piece × (piece_has concern.Stricter piece ≡ false)

abbrev AreStill : List Piece → Type 0
AreStill pieces = AreQuiet pieces × (some_has concern.Stricter pieces ≡ false)

still_split : (piece : Piece) (pieces : List Piece) → AreStill (piece ∷ pieces) → IsStill piece × AreStill pieces
still_split piece pieces still =
    let stricter = or_parts (piece_has concern.Stricter piece) (some_has concern.Stricter pieces) still.1 in
    ((quiet_head piece pieces still.0, stricter.0), (quiet_tail piece pieces still.0, stricter.1))

as_taken : (programs : List (List Insn)) → AllValid programs → (pieces : List Piece) → AreLinted programs pieces → AreStill pieces
    → (call : Record) → IsNative call → verdict_of programs (taken_as call) ≡ verdict_of programs call
as_taken programs valid pieces linted still call native = by_test (is_asked programs call.nr) refl where
  by_test : (b : Bool) → is_asked programs call.nr ≡ b → verdict_of programs (taken_as call) ≡ verdict_of programs call
  by_test false e = unasked programs valid call e
  by_test true e =
      let found = piece_at (IsLinted programs) IsStill AreStill still_split pieces linted.holds still call.nr (linted.each call.nr e) in
      let piece = found.0 in
      let holds = subst (λ nr. Holds Same (chain_taking nr programs) programs piece) found.1 found.2.1 in
      sym (chains_take_calls programs valid call)
      ∙ same_here (chain_taking call.nr programs) programs piece holds found.3.0 found.3.1 call (of_number piece call found.2.0 found.1 native)

pub clean : CleanIsTrue
clean programs valid is_spent pieces notes it none one other same =
    let still : AreStill pieces = (are_quiet pieces it.stands, none) in
    sym (as_taken programs valid pieces it.linted still one same.0.0)
    ∙ ap (verdict_of programs) same.1.1
    ∙ as_taken programs valid pieces it.linted still other same.0.1

-- ---- filters that are followed

shown_known : (calls : Calls) (outcome : Outcome) → shows_call (record { calls = calls; outcome = outcome }) ≡ true
    → is_concern (concern_by calls outcome) concern.Undecided ≡ false
shown_known calls Undecided shown = cc
shown_known calls (Apart it call) shown = by_test (relates AsStrict it.old it.new) (needs_a_sign calls call) where
  by_test : (b c : Bool) → is_concern (if not b then concern.Looser else if c then concern.Signed else concern.Stricter) concern.Undecided ≡ false
  by_test false c = refl
  by_test true true = refl
  by_test true false = refl

none_open : (parts : List Part) → All IsShown parts → list_any (has_concern concern.Undecided) parts ≡ false
none_open [] all = refl
none_open (part ∷ parts) all =
    ap (λ b. b || list_any (has_concern concern.Undecided) parts) (shown_known part.calls part.outcome (All-head IsShown part parts all))
    ∙ none_open parts (All-tail IsShown part parts all)

nowhere_open : (pieces : List Piece) → All AreDecided pieces → some_has concern.Undecided pieces ≡ false
nowhere_open [] all = refl
nowhere_open (piece ∷ pieces) all =
    ap (λ b. b || some_has concern.Undecided pieces) (none_open piece.parts.items (All-head AreDecided piece pieces all))
    ∙ nowhere_open pieces (All-tail AreDecided piece pieces all)

open_somewhere : (a b c : Bool) → finding.Undecided ≡ (if a || b then finding.Fails else if c then finding.Undecided else finding.Holds) → c ≡ true
open_somewhere true b c e = cc
open_somewhere false true c e = cc
open_somewhere false false true e = refl
open_somewhere false false false e = cc

pub followed_is_decided : FollowedLintIsDecided
followed_is_decided programs finding pieces notes follows it undecided =
    let opened = open_somewhere (some_has concern.Looser pieces) (some_has concern.Signed pieces) (some_has concern.Undecided pieces) (sym undecided ∙ it.stands) in
    true≢false (sym opened ∙ nowhere_open pieces (it.decided follows refl))

-- ---- signs

in_range : (call : Record) (i : ℕ) → upper_of call i ≡ 0xffffffff → i < length call.args
in_range call i upper = elim (cases_lt i (length call.args)) [
  | inl inside ↦ inside
  | inr behind ↦
      let none : slice_index_or call.args i 0 ≡ 0 = get_or_past call.args i 0 behind in
      absurd (omega (arith, upper, none))
]

with_one : (call : Record) (i : ℕ) → i < length call.args → upper_of (with_one_above call i) i ≡ 1
with_one call i inside =
    let x = slice_index_or call.args i 0 in
    let there : slice_index_or (with_one_above call i).args i 0 ≡ 2 ^ 32 + x % 2 ^ 32 = get_or-set_same call.args i (2 ^ 32 + x % 2 ^ 32) 0 inside in
    omega (arith, there)

stricter_needs_none : (b c : Bool) → (if not b then concern.Looser else if c then concern.Signed else concern.Stricter) ≡ concern.Stricter → c ≡ false
stricter_needs_none false c e = cc
stricter_needs_none true true e = cc
stricter_needs_none true false e = refl

at_argument : (test : ℕ → Bool) (i : ℕ) → i < 6 → test i ≡ true → list_any test (range_with_len 0 6) ≡ true
at_argument test zero inside e = rw e refl
at_argument test (suc zero) inside e = list_any_at test (range_with_len 0 6) 1 0 (omega arith) e
at_argument test (suc (suc zero)) inside e = list_any_at test (range_with_len 0 6) 2 0 (omega arith) e
at_argument test (suc (suc (suc zero))) inside e = list_any_at test (range_with_len 0 6) 3 0 (omega arith) e
at_argument test (suc (suc (suc (suc zero)))) inside e = list_any_at test (range_with_len 0 6) 4 0 (omega arith) e
at_argument test (suc (suc (suc (suc (suc zero))))) inside e = list_any_at test (range_with_len 0 6) 5 0 (omega arith) e
at_argument test (suc (suc (suc (suc (suc (suc i)))))) inside e = absurd (omega (arith, inside))

signs_of : (relation : Relation) (old new : List (List Insn)) (numbers : Numbers) (calls : Calls) (outcome : Outcome) → IsSo relation old new numbers calls outcome
    → (it : Verdicts) (shown : Record) (i : ℕ) → i < 6 → outcome ≡ Apart it shown → is_int (kind_of shown.nr i) ≡ true
    → ((call : Record) → IsCallOf numbers.first numbers.last call → meets_calls calls call ≡ true → upper_of call i ≡ 0xffffffff)
    → concern_by calls outcome ≡ concern.Stricter → ⊥
signs_of relation old new numbers calls Undecided is it shown i inside same int only stricter = cc
signs_of relation old new numbers calls (Apart pair call) is it shown i inside same int only stricter =
    true≢false (sym needed ∙ stricter_needs_none (relates AsStrict pair.old pair.new) (needs_a_sign calls call) stricter) where
      one_call : call ≡ shown
      one_call = cc

      int_there : is_int (kind_of call.nr i) ≡ true
      int_there = ap (λ (it : Record). is_int (kind_of it.nr i)) one_call ∙ int

      upper : upper_of call i ≡ 0xffffffff
      upper = only call is.2.0 is.2.1

      unmet : (b : Bool) → meets_calls calls (with_one_above call i) ≡ b → not (meets_calls calls (with_one_above call i)) ≡ true
      unmet false e = ap not e
      unmet true e =
          let still = only (with_one_above call i) is.2.0 e in
          let other = with_one call i (in_range call i upper) in
          absurd (omega (arith, still, other))

      needed : needs_a_sign calls call ≡ true
      needed =
          at_argument (needs_sign calls call) i inside
          (and_from (is_int (kind_of call.nr i) && (upper_of call i == 0xffffffff)) (not (meets_calls calls (with_one_above call i)))
          (and_from (is_int (kind_of call.nr i)) (upper_of call i == 0xffffffff) int_there (eq-eqb (upper_of call i) 0xffffffff upper))
          (unmet (meets_calls calls (with_one_above call i)) refl))

pub signs_are_told : SignsAreTold
signs_are_told relation old new numbers part it shown i inside holds same int only stricter =
    signs_of relation old new numbers part.calls part.outcome holds.0 it shown i inside same int only stricter
