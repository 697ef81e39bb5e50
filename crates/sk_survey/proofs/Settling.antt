-- How far the pass has followed a filter that answers calls by what they have in common: nothing is known but the one state of
-- its run.
use Rattle.std.proofs.Common.{◌≡◌, ◌≢◌, ℕ, zero, suc, ◌+◌, ◌<◌, ◌≤◌, ◌⊎◌, inl, inr, Bool, true, false, if◌then◌else◌, List, [], ◌∷◌, length, Option, Some, None, slice_get, replicate, set, refl, sym, ap, subst, ◌∙◌, arith}
use Rattle.std.specs.Prelude.{ℤ, ◌<ℤ◌}
use Rattle.std.specs.Int.{cast_signed, w32}
use Rattle.std.proofs.lemmas.Bool.{cases_eq}
use Rattle.std.proofs.lemmas.Int.{ints}
use Rattle.sk_insn.specs.declared.insn.Insn.{Insn}
use Rattle.sk_insn.specs.declared.record.Record.{Record}
use Rattle.sk_insn.specs.Operations.{operation_of}
use Rattle.sk_filter.specs.Paths.{Onward, Nowhere, To, Either as Both, GoesTo, LeadsTo}
use Rattle.sk_filter.specs.Valid.{IsValid}
use Rattle.sk_filter.proofs.ValidPrograms.{valid_count, valid_leads}
use Rattle.sk_filter.specs.Meaning.{Meaning, Returned, Stuck, State, Effect, effect, after_step, then_follows, meaning, meaning_of}
use Rattle.sk_filter.proofs.Meanings.{meaning_at}
use Rattle.sk_filter.proofs.ValidSteps.{leads_to}
use Rattle.sk_filter.specs.Preceding.{preceding}
use Rattle.sk_survey.specs.declared.known.Known.TheVariants.{Any, Number, Is}
use Rattle.sk_survey.specs.declared.known.Knowledge.{Knowledge}
use Rattle.sk_survey.specs.declared.follow.Next.{Next}
use Rattle.sk_survey.specs.declared.follow.Next.TheVariants.{Skip, Either, End, FollowingOrZero}
use Rattle.sk_survey.specs.Answers.{IsOneOf, IsAmong, IsRising, AreRising}
use Rattle.sk_survey.specs.Ends.{IsReachable}
use Rattle.sk_survey.specs.Following.{DescribesState, Leads, TellsEnd, IsWhole, LeadsOneWay, IsUnknown, led, zeros, IsFirstOfBoth}
use Rattle.sk_survey.specs.Settling.{loads_other, without_other, without_others, TellsOne}
use Rattle.sk_survey.proofs.Preceding.{some_first}
use Rattle.sk_survey.proofs.WithoutOthers.{bare, no_operation, here_without, zeros_without}

-- ---- one value

abbrev pub OnlyTells : Option (List ℕ) → ℕ → Type 0
OnlyTells values value = (other : ℕ) → IsAmong other values → other ≡ value

not_below : (a : ℤ) → a <ℤ a → ⊥
not_below a less = omega (arith, ints)

pub one_told : (values : Option (List ℕ)) (value other : ℕ) → OnlyTells values value → IsAmong other values → AreRising values → TellsOne values
one_told None value other only among rising = let zero = only 0 tt in let one = only 1 tt in absurd (omega arith)
one_told (Some []) value other only among rising = absurd among
one_told (Some (x ∷ [])) value other only among rising = (x, refl)
one_told (Some (x ∷ y ∷ values)) value other only among rising =
    let same : y ≡ x = only y (inr (inl refl)) ∙ sym (only x (inl refl)) in
    absurd (not_below (cast_signed w32 x) (subst (λ v. cast_signed w32 x <ℤ cast_signed w32 v) same rising.0.0))

-- of two values one comes first
pub one_of_both : (newer older values : List ℕ) → TellsOne (Some newer) → TellsOne (Some older) → IsRising values
    → ((u s first : ℕ) → IsOneOf u newer → IsOneOf s older → preceding (Some u) s ≡ Some first → IsOneOf first values)
    → ((value : ℕ) → IsOneOf value values → IsFirstOfBoth newer older value)
    → TellsOne (Some values)
one_of_both newer older values (u, u_is) (s, s_is) rising firsts only =
    let newer_is : newer ≡ u ∷ [] = cc in
    let older_is : older ≡ s ∷ [] = cc in
    let first = some_first u s in
    one_told (Some values) first.0 first.0
    (λ value is. by_first first.0 first.1 value (subst (λ older. IsFirstOfBoth (u ∷ []) older value) older_is (subst (λ newer. IsFirstOfBoth newer older value) newer_is (only value is))))
    (firsts u s first.0 (subst (IsOneOf u) (sym newer_is) (inl refl)) (subst (IsOneOf s) (sym older_is) (inl refl)) first.1)
    rising
  where
    by_first : (first : ℕ) → preceding (Some u) s ≡ Some first → (value : ℕ) → IsFirstOfBoth (u ∷ []) (s ∷ []) value → value ≡ first
    by_first first e value (u', s', inl u_same, inl s_same, chooses) =
        let both : preceding (Some u) s ≡ Some value = subst (λ s. preceding (Some u) s ≡ Some value) s_same (subst (λ u. preceding (Some u) s' ≡ Some value) u_same chooses) in
        let same : Some value ≡ Some first = sym both ∙ e in
        cc
    by_first first e value (u', s', inr u_is, s_is, chooses) = absurd u_is
    by_first first e value (u', s', inl u_is, inr s_is, chooses) = absurd s_is

-- ---- places that are known

pub set_here : (slots : List (Option Knowledge)) (k : ℕ) (slot : Option Knowledge) → k < length slots → slice_get (set slots k slot) k ≡ Some slot
set_here [] k slot inside = absurd (omega arith)
set_here (first ∷ slots) zero slot inside = refl
set_here (first ∷ slots) (suc k) slot inside = set_here slots k slot (omega arith)

pub set_there : (slots : List (Option Knowledge)) (k q : ℕ) (slot : Option Knowledge) → q ≢ k → slice_get (set slots k slot) q ≡ slice_get slots q
set_there [] k q slot other = refl
set_there (first ∷ slots) zero zero slot other = absurd (other refl)
set_there (first ∷ slots) zero (suc q) slot other = refl
set_there (first ∷ slots) (suc k) zero slot other = refl
set_there (first ∷ slots) (suc k) (suc q) slot other = set_there slots k q slot (λ e. other (omega arith))

-- as it was
pub still_unknown : (old new : List (Option Knowledge)) (q : ℕ) → slice_get new q ≡ slice_get old q → IsUnknown old q → IsUnknown new q
still_unknown old new q same unknown knowledge here = unknown knowledge (sym same ∙ here)

pub unknown_none : (slots : List (Option Knowledge)) (q : ℕ) → slice_get slots q ≡ Some None → IsUnknown slots q
unknown_none slots q none knowledge here = let e : Some None ≡ Some (Some knowledge) = sym none ∙ here in cc

pub led_ahead : (place : ℕ) (next : Next) (insn : Insn) (q : ℕ) → GoesTo q (led place next insn) → place < q
led_ahead place (Skip skip) insn q goes = omega arith
led_ahead place (Either a) insn q (inl goes) = omega arith
led_ahead place (Either a) insn q (inr goes) = omega arith
led_ahead place (End known) insn q goes = absurd goes
led_ahead place FollowingOrZero insn q goes = omega arith

goes_or_not : (q : ℕ) (w : Onward) → GoesTo q w ⊎ (GoesTo q w → ⊥)
goes_or_not q Nowhere = inr (λ goes. goes)
goes_or_not q (To place) = cases_eq q place
goes_or_not q (Both place other) = elim (cases_eq q place) [
  | inl one ↦ inl (inl one)
  | inr apart ↦ elim (cases_eq q other) [
    | inl same ↦ inl (inr same)
    | inr apart' ↦ inr (λ goes. elim goes [ inl one ↦ apart one | inr same ↦ apart' same ])
  ]
]

-- ---- paths to the places that are known

abbrev pub AreReachable : List Insn → List (Option Knowledge) → Type 0
AreReachable insns slots = (q : ℕ) (knowledge : Knowledge) → slice_get slots q ≡ Some (Some knowledge) → IsReachable insns q

pub come_first : (insns : List Insn) (slots : List (Option Knowledge)) (knowledge : Knowledge) → ((q : ℕ) → IsUnknown slots q)
    → AreReachable insns (set slots 0 (Some knowledge))
come_first insns slots knowledge unknown q known here = elim (cases_eq q 0) [
  | inl first ↦ ([], first)
  | inr apart ↦ absurd (unknown q known (sym (set_there slots 0 q (Some knowledge) apart) ∙ here))
]

pub come_on : (insns : List Insn) (old new : List (Option Knowledge)) (place : ℕ) (insn : Insn) (before : Knowledge) (w : Onward)
    → slice_get insns place ≡ Some insn → slice_get old place ≡ Some (Some before) → IsUnknown new place
    → ((q : ℕ) → q ≢ place → (GoesTo q w → ⊥) → slice_get new q ≡ slice_get old q)
    → ((next : ℕ) → GoesTo next w → LeadsTo place next (operation_of insn.code) insn)
    → AreReachable insns old → AreReachable insns new
come_on insns old new place insn before w here slot gone others goes come q known there = elim (goes_or_not q w) [
  | inl to ↦ let path = come place before slot in (place ∷ path.0, ((insn, here, goes q to), path.1))
  | inr not ↦ elim (cases_eq q place) [
    | inl same ↦ absurd (gone known (subst (λ q. slice_get new q ≡ Some (Some known)) same there))
    | inr apart ↦ come q known (sym (others q apart not) ∙ there)
  ]
]

-- ---- the run

-- from a place on there is the one that the run comes to, and no other is known
pub record IsSettling (first last : ℕ) (insns : List Insn) (slots : List (Option Knowledge)) (from : ℕ) (call : Record) (value : ℕ) : Type 0 where
  pub place : ℕ
  pub state : State
  pub steps : ℕ
  pub knowledge : Knowledge
  pub ahead : from ≤ place
  pub inside : place < length insns
  pub here : slice_get slots place ≡ Some (Some knowledge)
  pub whole : IsWhole knowledge
  pub known : DescribesState knowledge call state
  pub alone : (q : ℕ) → q ≢ place → IsUnknown slots q
  pub means : meaning (without_others first last insns) place call state ≡ Returned value steps

-- no value is told but the run's, and it has come to it or is on its way
abbrev pub IsSettled : ℕ → ℕ → List Insn → List (Option Knowledge) → Option (List ℕ) → ℕ → Record → ℕ → Type 0
IsSettled first last insns slots values from call value =
    OnlyTells values value × (((q : ℕ) → IsUnknown slots q) ⊎ IsSettling first last insns slots from call value)

pub starts_settling : (first last : ℕ) (insns : List Insn) → IsValid insns → (slots : List (Option Knowledge)) (knowledge : Knowledge) (values : Option (List ℕ))
    (call : Record) (value steps : ℕ) → 0 < length slots → ((q : ℕ) → IsUnknown slots q) → IsWhole knowledge → DescribesState knowledge call zeros
    → OnlyTells values value → meaning_of (without_others first last insns) call ≡ Returned value steps
    → IsSettled first last insns (set slots 0 (Some knowledge)) values 0 call value
starts_settling first last insns valid slots knowledge values call value steps some unknown whole known only means = (
  only,
  inr (record {
    place = 0;
    state = zeros;
    steps = steps;
    knowledge = knowledge;
    ahead = omega arith;
    inside = (valid_count insns valid).0;
    here = set_here slots 0 (Some knowledge) some;
    whole = whole;
    known = known;
    alone = λ q other. still_unknown slots (set slots 0 (Some knowledge)) q (set_there slots 0 q (Some knowledge) other) (unknown q);
    means = sym (zeros_without first last insns call valid) ∙ means;
  }),
)

-- past a place where nothing is known
pub settled_past : (first last : ℕ) (insns : List Insn) (slots : List (Option Knowledge)) (values : Option (List ℕ)) (place : ℕ) (call : Record) (value : ℕ)
    → slice_get slots place ≡ Some None → IsSettled first last insns slots values place call value → IsSettled first last insns slots values (place + 1) call value
settled_past first last insns slots values place call value none (only, inl unknown) = (only, inl unknown)
settled_past first last insns slots values place call value none (only, inr way) = (
  only,
  inr (record {
    place = way.place;
    state = way.state;
    steps = way.steps;
    knowledge = way.knowledge;
    ahead = elim (cases_eq way.place place) [
      | inl same ↦ absurd (unknown_none slots way.place (subst (λ q. slice_get slots q ≡ Some None) (sym same) none) way.knowledge way.here)
      | inr other ↦ let ahead = way.ahead in omega arith
    ];
    inside = way.inside;
    here = way.here;
    whole = way.whole;
    known = way.known;
    alone = way.alone;
    means = way.means;
  }),
)

-- what an instruction comes to without the arguments
one_more : (m : Meaning) (value steps : ℕ) → after_step m ≡ Returned value steps → (k : ℕ) × (m ≡ Returned value k)
one_more (Returned value' k) value steps e = (k, cc)
one_more Stuck value steps e = cc

-- past an instruction that leads one way
one_way : (first last : ℕ) (insns : List Insn) → IsValid insns → (old new : List (Option Knowledge)) (values values' : Option (List ℕ)) (place : ℕ) (insn : Insn)
    (after : Knowledge) (next : Next) (call : Record) (value : ℕ) (s : State) (e : Effect) (steps : ℕ)
    → slice_get insns place ≡ Some insn → effect (operation_of insn.code) insn call s ≡ e
    → ((q : ℕ) → q ≢ place → IsUnknown old q)
    → ((q : ℕ) → q ≢ place → (GoesTo q (led place next insn) → ⊥) → slice_get new q ≡ slice_get old q)
    → IsUnknown new place
    → ((skip : ℕ) → next ≡ Skip skip → IsUnknown old (place + 1 + skip) → slice_get new (place + 1 + skip) ≡ Some (Some after))
    → ((other : ℕ) → IsAmong other values' → IsAmong other values ⊎ TellsEnd next other)
    → OnlyTells values value → LeadsOneWay next after → Leads next insn after call e
    → then_follows e (λ skip s. meaning (without_others first last insns) (place + (1 + skip)) call s) ≡ Returned value steps
    → IsSettled first last insns new values' (place + 1) call value
one_way first last insns valid old new values values' place insn after (Skip skip) call value s e steps here is unknown others gone alone tells only whole (s', does, known) means =
    let follows = λ (skip : ℕ) (s : State). meaning (without_others first last insns) (place + (1 + skip)) call s in
    let more = one_more (meaning (without_others first last insns) (place + (1 + skip)) call s') value steps (sym (ap (λ e. then_follows e follows) does) ∙ means) in
    let at : place + 1 + skip ≡ place + (1 + skip) = omega arith in (
      λ other among. elim (tells other among) [ inl before ↦ only other before | inr none ↦ absurd none ],
      inr (record {
        place = place + (1 + skip);
        state = s';
        steps = more.0;
        knowledge = after;
        ahead = omega arith;
        inside = valid_leads insns valid place (place + (1 + skip)) (insn, here, leads_to place (operation_of insn.code) insn call s skip s' (is ∙ does));
        here = subst (λ q. slice_get new q ≡ Some (Some after)) at (alone skip refl (unknown (place + 1 + skip) (λ same. omega arith)));
        whole = whole;
        known = known;
        alone = λ q other. elim (cases_eq q place) as (λ _. IsUnknown new q) [
          | inl same ↦ subst (IsUnknown new) (sym same) gone
          | inr apart ↦ still_unknown old new q (others q apart (λ goes. other (goes ∙ at))) (unknown q apart)
        ];
        means = more.1;
      }),
    )
one_way first last insns valid old new values values' place insn after (End (Is k)) call value s e steps here is unknown others gone alone tells only exact (v, does, v_is) means =
    let follows = λ (skip : ℕ) (s : State). meaning (without_others first last insns) (place + (1 + skip)) call s in
    let returns : Returned v 1 ≡ Returned value steps = sym (ap (λ e. then_follows e follows) does) ∙ means in
    let same : k ≡ value = cc in (
      λ other among. elim (tells other among) [ inl before ↦ only other before | inr is ↦ is ∙ same ],
      inl (λ q. elim (cases_eq q place) as (λ _. IsUnknown new q) [
        | inl same ↦ subst (IsUnknown new) (sym same) gone
        | inr apart ↦ still_unknown old new q (others q apart (λ goes. goes)) (unknown q apart)
      ]),
    )
one_way first last insns valid old new values values' place insn after (End Any) call value s e steps here is unknown others gone alone tells only exact leads means = absurd exact
one_way first last insns valid old new values values' place insn after (End Number) call value s e steps here is unknown others gone alone tells only exact leads means = absurd exact
one_way first last insns valid old new values values' place insn after (Either a) call value s e steps here is unknown others gone alone tells only whole leads means = absurd whole
one_way first last insns valid old new values values' place insn after FollowingOrZero call value s e steps here is unknown others gone alone tells only whole leads means = absurd whole

-- past a place where something is known
pub settled_on : (first last : ℕ) (insns : List Insn) → IsValid insns → (old new : List (Option Knowledge)) (values values' : Option (List ℕ)) (place : ℕ) (insn : Insn)
    (before after : Knowledge) (next : Next) (call : Record) (value : ℕ)
    → slice_get insns place ≡ Some insn → slice_get old place ≡ Some (Some before)
    → ((q : ℕ) → q ≢ place → (GoesTo q (led place next insn) → ⊥) → slice_get new q ≡ slice_get old q)
    → IsUnknown new place
    → ((skip : ℕ) → next ≡ Skip skip → IsUnknown old (place + 1 + skip) → slice_get new (place + 1 + skip) ≡ Some (Some after))
    → ((other : ℕ) → IsAmong other values' → IsAmong other values ⊎ TellsEnd next other)
    → (IsWhole before → loads_other first last (operation_of insn.code) insn ≡ false → LeadsOneWay next after)
    → ((s : State) → DescribesState before call s → Leads next insn after call (effect (operation_of insn.code) insn call s))
    → IsSettled first last insns old values place call value → IsSettled first last insns new values' (place + 1) call value
settled_on first last insns valid old new values values' place insn before after next call value here slot others gone alone tells settles leads (only, inl unknown) =
    absurd (unknown place before slot)
settled_on first last insns valid old new values values' place insn before after next call value here slot others gone alone tells settles leads (only, inr way) =
    elim (cases_eq way.place place) as (λ _. IsSettled first last insns new values' (place + 1) call value) [
      | inr other ↦ absurd (way.alone place (λ e. other (sym e)) before slot)
      | inl same ↦
          let found : Some (Some way.knowledge) ≡ Some (Some before) = sym way.here ∙ ap (slice_get old) same ∙ slot in
          let is : way.knowledge ≡ before = cc in
          by_test way.state way.steps (subst IsWhole is way.whole) (subst (λ k. DescribesState k call way.state) is way.known)
          (λ q apart. way.alone q (λ e. apart (e ∙ same)))
          (loads_other first last (operation_of insn.code) insn) refl
          (sym (meaning_at (without_others first last insns) place (without_other first last insn) call way.state (here_without first last insns place insn here))
          ∙ ap (λ q. meaning (without_others first last insns) q call way.state) (sym same) ∙ way.means)
    ]
  where
    by_test : (s : State) (steps : ℕ) → IsWhole before → DescribesState before call s → ((q : ℕ) → q ≢ place → IsUnknown old q)
        → (b : Bool) → loads_other first last (operation_of insn.code) insn ≡ b
        → then_follows (effect (operation_of (if b then bare insn else insn).code) (if b then bare insn else insn) call s) (λ skip s. meaning (without_others first last insns) (place + (1 + skip)) call s)
        ≡ Returned value steps
        → IsSettled first last insns new values' (place + 1) call value
    by_test s steps whole known unknown true e means =
        let stuck : Stuck ≡ Returned value steps =
        sym (ap (λ o. then_follows (effect o (bare insn) call s) (λ skip s. meaning (without_others first last insns) (place + (1 + skip)) call s)) no_operation) ∙ means in
        cc
    by_test s steps whole known unknown false e means =
        one_way first last insns valid old new values values' place insn after next call value s (effect (operation_of insn.code) insn call s) steps here refl
        unknown others gone alone tells only (settles whole e) (leads s known) means

-- as the slots begin
pub none_known : (n q : ℕ) → IsUnknown (replicate n None) q
none_known zero q knowledge here = cc
none_known (suc n) zero knowledge here = cc
none_known (suc n) (suc q) knowledge here = none_known n q knowledge here
