-- A filter that reads no word which the log does not show answers each call alike that the log may mean.
use Rattle.std.proofs.Common.{◌≡◌, ◌∙◌, ◌+◌, ap, refl, sym, subst, ℕ, zero, suc, Bool, true, false, List, [], ◌∷◌, ◌++◌, find, flat_map, slice_get, Option, Some, None, ◌&&◌, ◌||◌, inl, inr, true≢false}
use Rattle.std.proofs.lemmas.Bool.{cases_Bool}
use Rattle.std.proofs.lemmas.Option.{none-some}
use Rattle.std.specs.List.{list_any}
use Rattle.sk_insn.specs.declared.insn.Insn.{Insn}
use Rattle.sk_insn.specs.declared.record.Record.{Record}
use Rattle.sk_insn.specs.declared.operation.Register.TheVariants.{Accumulator}
use Rattle.sk_insn.specs.declared.operation.Operation.{Operation}
use Rattle.sk_insn.specs.declared.operation.Operation.TheVariants.{LoadRecord}
use Rattle.sk_insn.specs.Operations.{operation_of}
use Rattle.sk_insn.specs.Record.{word_of}
use Rattle.sk_filter.specs.Chains.{AllValid}
use Rattle.sk_filter.specs.Fits.{TakesConstant}
use Rattle.sk_filter.specs.Meaning.{Effect, GoesOn, Ends, Fails, State, after_step, effect, loaded, meaning, meaning_of, start, then_follows}
use Rattle.sk_filter.specs.Verdict.{first_of, meaning_value, values_of, verdict_of}
use Rattle.sk_filter.proofs.ValidPrograms.{valid_fits}
use Rattle.sk_survey.proofs.Narrower.{is_load, same_effect}
use Rattle.sk_names.specs.declared.architecture.Architecture.{Architecture}
use Rattle.sk_show.specs.Paths.{path_of, steps_behind, steps_from}
use Rattle.sk_replay.specs.declared.call.Call.{Call}
use Rattle.sk_replay.specs.declared.judged.Judged.{Judged}
use Rattle.sk_replay.specs.declared.judged.Judged.TheVariants.{Verdict, Undecided}
use Rattle.sk_replay.specs.Calls.{is_hidden, record_of}
use Rattle.sk_replay.specs.Judging.{IsMeant, VerdictsAreOfAll, hides, is_of, judged_as, places, undecided_by, word_loaded, words_on, words_read}

-- ---- lists

none_found : (p q : ℕ → Bool) (xs : List ℕ) → list_any p xs ≡ false → find (λ x. p x && q x) xs ≡ None
none_found p q [] h = refl
none_found p q (x ∷ xs) h = elim (cases_Bool (p x)) [
  | inl t ↦ let no = rw t at h in absurd (true≢false no)
  | inr f ↦ let rest = rw f at h in rw f (none_found p q xs rest)
]

pub all_shown : (call : Call) (words : List ℕ) → list_any (is_hidden call) places ≡ false → undecided_by call words ≡ None
all_shown call words h = none_found (is_hidden call) (λ i. list_any (is_of i) words) places h

-- where none has the one or the other, none has the one, and none the other
none_either : (p a b : ℕ → Bool) (xs : List ℕ) → find (λ x. p x && (a x || b x)) xs ≡ None
    → (list_any (λ x. p x && a x) xs ≡ false) × (find (λ x. p x && b x) xs ≡ None)
none_either p a b [] h = (refl, refl)
none_either p a b (x ∷ xs) h = elim (cases_Bool (p x)) [
  | inr f ↦ let rest = rw f at h in rw f (none_either p a b xs rest)
  | inl t ↦ elim (cases_Bool (a x)) [
    | inl one ↦ let no = rw (t, one) at h in absurd (none-some x (sym no))
    | inr f ↦ elim (cases_Bool (b x)) [
      | inl other ↦ let no = rw (t, f, other) at h in absurd (none-some x (sym no))
      | inr g ↦ let rest = rw (t, f, g) at h in rw (t, f, g) (none_either p a b xs rest)
    ]
  ]
]

-- the log shows the word at a place
abbrev IsShown : Call → ℕ → Type 0
IsShown call place = hides call place ≡ false

-- and all of these words
abbrev AllShown : Call → List ℕ → Type 0
AllShown call [] = Unit {0}
AllShown call (word ∷ words) = IsShown call word × AllShown call words

all_read : (call : Call) (words : List ℕ) → undecided_by call words ≡ None → AllShown call words
all_read call [] h = tt
all_read call (word ∷ words) h =
    let both = none_either (is_hidden call) (λ i. is_of i word) (λ i. list_any (is_of i) words) places h in
    (both.0, all_read call words both.1)

shown_parts : (call : Call) (xs ys : List ℕ) → AllShown call (xs ++ ys) → AllShown call xs × AllShown call ys
shown_parts call [] ys h = (tt, h)
shown_parts call (x ∷ xs) ys h = let rest = shown_parts call xs ys h.1 in ((h.0, rest.0), rest.1)

-- ---- one filter

module _ (by : Architecture) (call : Call) (meant : Record) (is_meant : IsMeant by call meant) where
  abbrev AreFit : List Insn → Type 0
  AreFit insns = (place : ℕ) (insn : Insn) → slice_get insns place ≡ Some insn → TakesConstant (operation_of insn.code) insn

  step : (insn : Insn) (s : State) → TakesConstant (operation_of insn.code) insn → AllShown call (word_loaded (operation_of insn.code) insn)
      → effect (operation_of insn.code) insn meant s ≡ effect (operation_of insn.code) insn (record_of by call) s
  step insn s takes shown = elim (is_load (operation_of insn.code)) [
    | inl is ↦
        let can = subst (λ o. TakesConstant o insn) is takes in
        let here = subst (λ o. AllShown call (word_loaded o insn)) is shown in
        ap (λ o. effect o insn meant s) is ∙ ap (loaded Accumulator s) (is_meant insn.k can.0 can.1 here.0)
        ∙ sym (ap (λ o. effect o insn (record_of by call) s) is)
    | inr apart ↦ same_effect (operation_of insn.code) insn (record_of by call) meant s apart
  ]

  followed : (e : Effect) (rest : List Insn) (place : ℕ)
      → ((skip : ℕ) (s : State) → AllShown call (words_on (steps_from rest place skip (record_of by call) s)) → meaning rest skip meant s ≡ meaning rest skip (record_of by call) s)
      → AllShown call (words_on (steps_behind e (λ skip after. steps_from rest place skip (record_of by call) after)))
      → then_follows e (λ skip s. meaning rest skip meant s) ≡ then_follows e (λ skip s. meaning rest skip (record_of by call) s)
  followed (GoesOn skip s) rest place same shown = ap after_step (same skip s shown)
  followed (Ends value) rest place same shown = refl
  followed Fails rest place same shown = refl

  same_from : (insns : List Insn) (place skip : ℕ) (s : State) → AreFit insns → AllShown call (words_on (steps_from insns place skip (record_of by call) s))
      → meaning insns skip meant s ≡ meaning insns skip (record_of by call) s
  same_from [] place skip s fit shown = refl
  same_from (insn ∷ rest) place (suc skip) s fit shown = same_from rest (place + 1) skip s (λ at insn here. fit (suc at) insn here) shown
  same_from (insn ∷ rest) place zero s fit shown =
      let parts = shown_parts call (word_loaded (operation_of insn.code) insn)
      (words_on (steps_behind (effect (operation_of insn.code) insn (record_of by call) s) (λ skip after. steps_from rest (place + 1) skip (record_of by call) after))) shown in
      ap (λ e. then_follows e (λ skip s. meaning rest skip meant s)) (step insn s (fit zero insn refl) parts.0)
      ∙ followed (effect (operation_of insn.code) insn (record_of by call) s) rest (place + 1)
      (λ skip s more. same_from rest (place + 1) skip s (λ at insn here. fit (suc at) insn here) more) parts.1

  -- ---- a chain

  same_values : (chain : List (List Insn)) → AllValid chain → AllShown call (words_read chain (record_of by call))
      → values_of chain meant ≡ values_of chain (record_of by call)
  same_values [] valid shown = refl
  same_values (newest ∷ older) valid shown =
      let parts = shown_parts call (words_on (path_of newest (record_of by call))) (words_read older (record_of by call)) shown in
      let one = same_from newest 0 0 start (λ at insn here. (valid_fits newest valid.0 at insn here).0) parts.0 in
      let rest = same_values older valid.1 parts.1 in
      ap (λ meaning. meaning_value meaning ∷ values_of older meant) one ∙ ap (λ values. meaning_value (meaning_of newest (record_of by call)) ∷ values) rest

-- a verdict is told
is_told : (found : Option ℕ) (verdict value : ℕ) → judged_as found verdict ≡ Verdict value → (found ≡ None) × (verdict ≡ value)
is_told None verdict value h = (refl, cc)
is_told (Some i) verdict value h = cc

pub verdicts_are_of_all : VerdictsAreOfAll
verdicts_are_of_all by chain valid call value h meant is_meant =
    let both = is_told (undecided_by call (words_read chain (record_of by call))) (verdict_of chain (record_of by call)) value h in
    ap first_of (same_values by call meant is_meant chain valid (all_read call (words_read chain (record_of by call)) both.0)) ∙ both.1
