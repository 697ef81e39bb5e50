-- Two runs that come the same way agree but for what may come from the number of their calls.
use Rattle.std.proofs.Common.{◌≡◌, ◌≢◌, ℕ, zero, suc, ◌+◌, ◌-◌, ◌%◌, ◌==◌, ◌<◌, ◌≤◌, ◌||◌, inl, inr, Bool, true, false, if◌then◌else◌, List, drop, slice_get, Option, Some, None, refl, sym, ap, subst, ◌∙◌, arith}
use Rattle.std.proofs.lemmas.Bool.{cases_lt, eqb-false, or_parts}
use Rattle.std.proofs.lemmas.List.{drop-drop}
use Rattle.sk_insn.specs.declared.insn.Insn.{Insn}
use Rattle.sk_insn.specs.declared.record.Record.{Record}
use Rattle.sk_insn.specs.declared.operation.Register.{Register}
use Rattle.sk_insn.specs.declared.operation.Register.TheVariants.{Accumulator, Index}
use Rattle.sk_insn.specs.declared.operation.Operand.TheVariants.{Constant, IndexRegister}
use Rattle.sk_insn.specs.declared.operation.Arithmetic.{Arithmetic}
use Rattle.sk_insn.specs.declared.operation.Arithmetic.TheVariants.{Subtract, Divide}
use Rattle.sk_insn.specs.declared.operation.Operation.{Operation}
use Rattle.sk_insn.specs.declared.operation.Operation.TheVariants.{LoadRecord, LoadConstant, LoadScratch, LoadLength, StoreScratch, Compute, Negate, Jump, Branch, ReturnConstant, ReturnAccumulator, CopyToIndex, CopyToAccumulator}
use Rattle.sk_insn.specs.Operations.{operation_of, is_constant_for}
use Rattle.sk_insn.specs.Record.{word_of, record_bytes}
use Rattle.sk_filter.specs.Fits.{TakesConstant}
use Rattle.sk_filter.specs.Paths.{LeadsTo}
use Rattle.sk_filter.proofs.ValidSteps.{leads_to}
use Rattle.sk_filter.specs.Meaning.{State, Effect, GoesOn, Ends, Fails, effect, loaded, calculated, register, store, with_register, start}
use Rattle.sk_survey.specs.declared.taint.Taint.{Taint}
use Rattle.sk_survey.specs.Turning.{DifferInNumber, ComeAlike}
use Rattle.sk_survey.specs.Cutting.{AgreeBut, AgreeBy, AgreeAt, HandsOn, after_insn, tainted, with_taint}

-- ---- one instruction

-- the other words of a call stay with another number
word_but_number : (call : Record) (nr k : ℕ) → k % 4 ≡ 0 → k ≢ 0 → word_of call k ≡ word_of (record call { nr = nr }) k
word_but_number call nr k aligned apart =
    let e : k ≡ 4 + (k - 4) = omega arith in
    let same : drop (4 + (k - 4)) (record_bytes call) ≡ drop (4 + (k - 4)) (record_bytes (record call { nr = nr })) =
    sym (drop-drop (k - 4) 4 (record_bytes call)) ∙ drop-drop (k - 4) 4 (record_bytes (record call { nr = nr })) in
    let bytes : drop k (record_bytes call) ≡ drop k (record_bytes (record call { nr = nr })) =
    subst (λ k. drop k (record_bytes call) ≡ drop k (record_bytes (record call { nr = nr }))) (sym e) same in
    rw bytes refl

loaded_is : (r : Register) (u s : State) (word : Option ℕ) (skip : ℕ) → loaded r u word ≡ GoesOn skip s
    → (m : ℕ) × (word ≡ Some m) × (with_register r m u ≡ s)
loaded_is r u s (Some m) skip does = (m, refl, cc)
loaded_is r u s None skip does = cc

with_agreeing : (r : Register) (is : Bool) (taint : Taint) (u v : State) (m n : ℕ) → AgreeBut taint u v → (is ≡ false → m ≡ n)
    → AgreeBut (with_taint r is taint) (with_register r m u) (with_register r n v)
with_agreeing Accumulator is taint u v m n agree same = record { a = same; x = agree.x; words = agree.words }
with_agreeing Index is taint u v m n agree same = record { a = agree.a; x = same; words = agree.words }

load_agreeing : (r : Register) (is : Bool) (taint : Taint) (u v s t : State) (one other : Option ℕ) (skip : ℕ) → AgreeBut taint u v
    → (is ≡ false → one ≡ other) → loaded r u one ≡ GoesOn skip s → loaded r v other ≡ GoesOn skip t → AgreeBut (with_taint r is taint) s t
load_agreeing r is taint u v s t one other skip agree same does does' =
    let m = loaded_is r u s one skip does in
    let n = loaded_is r v t other skip does' in
    subst (λ s. AgreeBut (with_taint r is taint) s t) m.2
    (subst (AgreeBut (with_taint r is taint) (with_register r m.0 u)) n.2
    (with_agreeing r is taint u v m.0 n.0 agree (λ none. let e : Some m.0 ≡ Some n.0 = sym m.1 ∙ same none ∙ n.1 in cc)))

-- both went on, from what a test allowed
goes_if : (b : Bool) (e : Effect) (u s : State) (skip : ℕ) → ((skip : ℕ) (s : State) → e ≡ GoesOn skip s → ⊥)
    → (if b then GoesOn 0 u else e) ≡ GoesOn skip s → u ≡ s
goes_if true e u s skip apart does = cc
goes_if false e u s skip apart does = absurd (apart skip s does)

goes_unless : (b : Bool) (value : ℕ) (u s : State) (skip : ℕ) → (if b then Ends value else GoesOn 0 u) ≡ GoesOn skip s → u ≡ s
goes_unless true value u s skip does = cc
goes_unless false value u s skip does = cc

went_on : (skip skip' : ℕ) (u s : State) → GoesOn skip u ≡ GoesOn skip' s → u ≡ s
went_on skip skip' u s does = cc

both_are : (taint : Taint) (u v s t : State) → AgreeBut taint u v → u ≡ s → v ≡ t → AgreeBut taint s t
both_are taint u v s t agree one other = subst (λ s. AgreeBut taint s t) one (subst (AgreeBut taint u) other agree)

in_register : (r : Register) (taint : Taint) (u v : State) → AgreeBut taint u v → tainted r taint ≡ false → register r u ≡ register r v
in_register Accumulator taint u v agree none = agree.a none
in_register Index taint u v agree none = agree.x none

store_agreeing : (r : Register) (k : ℕ) (taint : Taint) (u v : State) → AgreeBut taint u v
    → AgreeBut (record taint { words = taint.words || tainted r taint }) (record u { stored = store k (register r u) u.stored }) (record v { stored = store k (register r v) v.stored })
store_agreeing r k taint u v agree = record {
  a = agree.a;
  x = agree.x;
  words = λ none j.
      let split = or_parts taint.words (tainted r taint) none in
      ap (λ m. if j == k then Some m else u.stored j) (in_register r taint u v agree split.1)
      ∙ ap (λ word. if j == k then Some (register r v) else word) (agree.words split.0 j);
}

-- with A made from A alone
in_place : (taint : Taint) (f : ℕ → ℕ) (u v : State) → AgreeBut taint u v → AgreeBut taint (record u { a = f u.a }) (record v { a = f v.a })
in_place taint f u v agree = record { a = λ none. ap f (agree.a none); x = agree.x; words = agree.words }

-- and from A and X
from_both : (arithmetic : Arithmetic) (taint : Taint) (u v : State) → AgreeBut taint u v
    → AgreeBut (with_taint Accumulator (taint.a || taint.x) taint) (record u { a = calculated arithmetic u.a u.x }) (record v { a = calculated arithmetic v.a v.x })
from_both arithmetic taint u v agree = record {
  a = λ none.
      let split = or_parts taint.a taint.x none in
      ap (λ a. calculated arithmetic a u.x) (agree.a split.0) ∙ ap (calculated arithmetic v.a) (agree.x split.1);
  x = agree.x;
  words = agree.words;
}

pub agree_after : (o : Option Operation) (insn : Insn) (taint : Taint) (call : Record) (nr : ℕ) (u v s t : State) (skip : ℕ) → TakesConstant o insn
    → AgreeBut taint u v → effect o insn call u ≡ GoesOn skip s → effect o insn (record call { nr = nr }) v ≡ GoesOn skip t
    → AgreeBut (after_insn o insn taint) s t
agree_after None insn taint call nr u v s t skip takes agree does does' = cc
agree_after (Some LoadRecord) insn taint call nr u v s t skip takes agree does does' =
    load_agreeing Accumulator (insn.k == 0) taint u v s t (word_of call insn.k) (word_of (record call { nr = nr }) insn.k) skip agree
    (λ apart. word_but_number call nr insn.k takes.0 (eqb-false insn.k 0 apart)) does does'
agree_after (Some (LoadConstant r)) insn taint call nr u v s t skip takes agree does does' =
    load_agreeing r false taint u v s t (Some insn.k) (Some insn.k) skip agree (λ none. refl) does does'
agree_after (Some (LoadLength r)) insn taint call nr u v s t skip takes agree does does' =
    load_agreeing r false taint u v s t (Some 64) (Some 64) skip agree (λ none. refl) does does'
agree_after (Some (LoadScratch r)) insn taint call nr u v s t skip takes agree does does' =
    load_agreeing r taint.words taint u v s t (u.stored insn.k) (v.stored insn.k) skip agree (λ none. agree.words none insn.k) does does'
agree_after (Some (StoreScratch r)) insn taint call nr u v s t skip takes agree does does' =
    both_are _ _ _ s t (store_agreeing r insn.k taint u v agree) (goes_if _ Fails _ s skip (λ skip s e. cc) does) (goes_if _ Fails _ t skip (λ skip s e. cc) does')
agree_after (Some (Compute arithmetic Constant)) insn taint call nr u v s t skip takes agree does does' =
    both_are taint _ _ s t (in_place taint (λ a. calculated arithmetic a insn.k) u v agree)
    (goes_if (is_constant_for arithmetic insn.k) Fails _ s skip (λ skip s e. cc) does) (goes_if (is_constant_for arithmetic insn.k) Fails _ t skip (λ skip s e. cc) does')
agree_after (Some (Compute Divide IndexRegister)) insn taint call nr u v s t skip takes agree does does' =
    both_are _ _ _ s t (from_both Divide taint u v agree) (goes_unless (u.x == 0) 0 _ s skip does) (goes_unless (v.x == 0) 0 _ t skip does')
agree_after (Some (Compute arithmetic IndexRegister)) insn taint call nr u v s t skip takes agree does does' =
    both_are _ _ _ s t (from_both arithmetic taint u v agree) (went_on _ skip _ s does) (went_on _ skip _ t does')
agree_after (Some Negate) insn taint call nr u v s t skip takes agree does does' =
    both_are taint _ _ s t (in_place taint (calculated Subtract 0) u v agree) (went_on _ skip _ s does) (went_on _ skip _ t does')
agree_after (Some Jump) insn taint call nr u v s t skip takes agree does does' = both_are taint u v s t agree (went_on _ skip _ s does) (went_on _ skip _ t does')
agree_after (Some (Branch comparison right)) insn taint call nr u v s t skip takes agree does does' = both_are taint u v s t agree (went_on _ skip _ s does) (went_on _ skip _ t does')
agree_after (Some ReturnConstant) insn taint call nr u v s t skip takes agree does does' = cc
agree_after (Some ReturnAccumulator) insn taint call nr u v s t skip takes agree does does' = cc
agree_after (Some CopyToIndex) insn taint call nr u v s t skip takes agree does does' =
    both_are _ _ _ s t (with_agreeing Index taint.a taint u v u.a v.a agree agree.a) (went_on _ skip _ s does) (went_on _ skip _ t does')
agree_after (Some CopyToAccumulator) insn taint call nr u v s t skip takes agree does does' =
    both_are _ _ _ s t (with_agreeing Accumulator taint.x taint u v u.x v.x agree agree.x) (went_on _ skip _ s does) (went_on _ skip _ t does')

-- ---- one place more

pub handed_more : (insns : List Insn) (old new : List Taint) (place : ℕ) (insn : Insn) (here : Taint) → slice_get insns place ≡ Some insn
    → slice_get old place ≡ Some here → TakesConstant (operation_of insn.code) insn
    → ((q : ℕ) (s t : State) → AgreeAt old q s t → AgreeAt new q s t)
    → ((q : ℕ) (s t : State) → LeadsTo place q (operation_of insn.code) insn → AgreeBut (after_insn (operation_of insn.code) insn here) s t → AgreeAt new q s t)
    → ((q : ℕ) → q ≤ place → slice_get new q ≡ slice_get old q)
    → ((p : ℕ) → p < place → HandsOn insns old p) → (p : ℕ) → p < place + 1 → HandsOn insns new p
handed_more insns old new place insn here there known takes kept joined before handed p below found call other u v s t skip at differ agree does does' =
    elim (cases_lt p place) [
      | inl earlier ↦ kept (p + 1 + skip) s t
          (handed p earlier found call other u v s t skip at differ (subst (λ it. AgreeBy it u v) (before p (omega arith)) agree) does does')
      | inr late ↦
          let same : p ≡ place = omega arith in
          let is : Some found ≡ Some insn = sym at ∙ ap (slice_get insns) same ∙ there in
          let found_is : found ≡ insn = cc in
          by_insn found_is (subst (λ it. AgreeBy it u v) (before p (omega arith) ∙ ap (slice_get old) same ∙ known) agree) same
    ]
  where
    by_insn : found ≡ insn → AgreeBut here u v → p ≡ place → AgreeAt new (p + 1 + skip) s t
    by_insn is agree same =
        let goes = subst (λ (i : Insn). effect (operation_of i.code) i call u ≡ GoesOn skip s) is does in
        let goes' = subst (λ (other : Record). effect (operation_of insn.code) insn other v ≡ GoesOn skip t) differ
        (subst (λ (i : Insn). effect (operation_of i.code) i other v ≡ GoesOn skip t) is does') in
        let leads = leads_to place (operation_of insn.code) insn call u skip s goes in
        let q : place + (1 + skip) ≡ p + 1 + skip = omega arith in
        subst (λ q. AgreeAt new q s t) q
        (joined (place + (1 + skip)) s t leads (agree_after (operation_of insn.code) insn here call other.nr u v s t skip takes agree goes goes'))

-- ---- a whole run

agree_same : (taint : Option Taint) (s : State) → AgreeBy taint s s
agree_same (Some taint) s = record { a = λ none. refl; x = λ none. refl; words = λ none k. refl }
agree_same None s = tt

pub agree_along : (insns : List Insn) (places : List Taint) → ((place : ℕ) → HandsOn insns places place) → (call other : Record) → DifferInNumber call other
    → (steps place : ℕ) (s t : State) → ComeAlike insns call other steps place s t → AgreeAt places place s t
agree_along insns places handed call other differ zero place s t (first, one, two) =
    subst (λ s. AgreeAt places place s t) (sym one) (subst (AgreeAt places place start) (sym two) (agree_same (slice_get places place) start))
agree_along insns places handed call other differ (suc steps) place s t (before, u, v, come, (insn, here, (skip, does, does', at))) =
    subst (λ q. AgreeAt places q s t) (sym at)
    (handed before insn call other u v s t skip here differ (agree_along insns places handed call other differ steps before u v come) does does')

-- where it does not come from the number, A is the same
pub agree_in_a : (taint : Option Taint) (here : Taint) (s t : State) → taint ≡ Some here → AgreeBy taint s t → here.a ≡ false → s.a ≡ t.a
agree_in_a (Some taint) here s t is agree none = let same : taint ≡ here = cc in agree.a (subst (λ (it : Taint). it.a ≡ false) (sym same) none)
agree_in_a None here s t is agree none = cc
