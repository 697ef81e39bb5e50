-- How far the pass has followed a call.
use Rattle.std.proofs.Common.{ℕ, zero, suc, ◌≡◌, ◌+◌, ◌<◌, ◌≤◌, ◌⊎◌, inl, inr, List, [], ◌∷◌, Option, Some, None, length, slice_get, set, refl, sym, ap, subst, ◌∙◌, arith}
use Rattle.std.proofs.lemmas.Bool.{cases_eq}
use Rattle.sk_insn.specs.declared.insn.Insn.{Insn}
use Rattle.sk_insn.specs.declared.record.Record.{Record}
use Rattle.sk_insn.specs.Operations.{operation_of}
use Rattle.sk_filter.specs.Paths.{Onward, Nowhere, To, Either as Both, GoesTo, LeadsTo}
use Rattle.sk_filter.specs.Fits.{AreInside}
use Rattle.sk_filter.specs.Valid.{IsValid}
use Rattle.sk_filter.proofs.ValidPrograms.{valid_count, valid_leads}
use Rattle.sk_filter.specs.Meaning.{Meaning, Returned, Stuck, State, Effect, GoesOn, Ends, Fails, effect, after_step, then_follows, meaning, meaning_of}
use Rattle.sk_filter.proofs.Meanings.{meaning_at}
use Rattle.sk_filter.proofs.ScratchWords.{any_words}
use Rattle.sk_filter.proofs.ValidSteps.{leads_to}
use Rattle.sk_filter.specs.Verdict.{meaning_value}
use Rattle.sk_survey.specs.declared.known.Knowledge.{Knowledge}
use Rattle.sk_survey.specs.declared.follow.Next.{Next}
use Rattle.sk_survey.specs.declared.follow.Next.TheVariants.{Skip, Either, End, FollowingOrZero}
use Rattle.sk_survey.specs.Answers.{IsAmong}
use Rattle.sk_survey.specs.Following.{DescribesState, DescribedBy, DescribedAt, Leads, Spreads, zeros}

-- from a place on there is one where the run of the call comes by, with a state that is known there
pub record IsOnItsWay (insns : List Insn) (slots : List (Option Knowledge)) (from : ℕ) (call : Record) : Type 0 where
  pub place : ℕ
  pub state : State
  pub ahead : from ≤ place
  pub inside : place < length insns
  pub known : DescribedAt slots place call state
  pub same : meaning_value (meaning_of insns call) ≡ meaning_value (meaning insns place call state)

-- the call's value is among the told ones, or its run is on its way
abbrev pub IsFollowed : List Insn → List (Option Knowledge) → Option (List ℕ) → ℕ → Record → Type 0
IsFollowed insns slots values from call =
    IsAmong (meaning_value (meaning_of insns call)) values ⊎ IsOnItsWay insns slots from call

-- a place where nothing is known, and one that is written
pub described_other : (slots : List (Option Knowledge)) (k j : ℕ) (slot : Option Knowledge) (call : Record) (s : State) → (j ≡ k → ⊥)
    → DescribedAt slots j call s → DescribedAt (set slots k slot) j call s
described_other [] k j slot call s other is = is
described_other (first ∷ slots) zero zero slot call s other is = absurd (other (omega arith))
described_other (first ∷ slots) zero (suc j) slot call s other is = is
described_other (first ∷ slots) (suc k) zero slot call s other is = is
described_other (first ∷ slots) (suc k) (suc j) slot call s other is = described_other slots k j slot call s (λ e. other (omega arith)) is

pub described_here : (slots : List (Option Knowledge)) (k : ℕ) (knowledge : Knowledge) (call : Record) (s : State) → k < length slots
    → DescribesState knowledge call s → DescribedAt (set slots k (Some knowledge)) k call s
described_here [] k knowledge call s inside is = absurd (omega arith)
described_here (first ∷ slots) zero knowledge call s inside is = is
described_here (first ∷ slots) (suc k) knowledge call s inside is = described_here slots k knowledge call s (omega arith) is

-- control stays inside
all_inside : (count : ℕ) (w : Onward) → ((next : ℕ) → GoesTo next w → next < count) → AreInside count w
all_inside count Nowhere lands = tt
all_inside count (To place) lands = lands place refl
all_inside count (Both place other) lands = (lands place (inl refl), lands other (inr refl))

pub led_inside : (insns : List Insn) → IsValid insns → (place : ℕ) (insn : Insn) (count : ℕ) (w : Onward) → slice_get insns place ≡ Some insn
    → length insns ≤ count → ((next : ℕ) → GoesTo next w → LeadsTo place next (operation_of insn.code) insn) → AreInside count w
led_inside insns valid place insn count w here le goes =
    all_inside count w (λ next to. let lands = valid_leads insns valid place next (insn, here, goes next to) in omega arith)

-- at the start
pub starts : (insns : List Insn) → IsValid insns → (slots : List (Option Knowledge)) (values : Option (List ℕ)) (call : Record)
    → DescribedAt slots 0 call zeros → IsFollowed insns slots values 0 call
starts insns valid slots values call known = inr (record {
  place = 0;
  state = zeros;
  ahead = omega arith;
  inside = (valid_count insns valid).0;
  known = known;
  same = ap meaning_value (any_words insns call valid (λ k. Some 0));
})

-- at the end
pub arrives : (insns : List Insn) (slots : List (Option Knowledge)) (values : Option (List ℕ)) (call : Record) (from : ℕ) → length insns ≤ from
    → IsFollowed insns slots values from call → IsAmong (meaning_value (meaning_of insns call)) values
arrives insns slots values call from past (inl among) = among
arrives insns slots values call from past (inr way) = let ahead = way.ahead in let inside = way.inside in absurd (omega arith)

-- past a place where nothing is known
passes : (insns : List Insn) (old new : List (Option Knowledge)) (values : Option (List ℕ)) (place : ℕ) (call : Record) (way : IsOnItsWay insns old place call)
    → (way.place ≡ place → IsFollowed insns new values (place + 1) call)
    → ((q : ℕ) (s : State) → (q ≡ place → ⊥) → DescribedAt old q call s → DescribedAt new q call s)
    → IsFollowed insns new values (place + 1) call
passes insns old new values place call way here kept =
    elim (cases_eq way.place place) [
      | inl same ↦ here same
      | inr other ↦ inr (record {
        place = way.place;
        state = way.state;
        ahead = let ahead = way.ahead in omega arith;
        inside = way.inside;
        known = kept way.place way.state other way.known;
        same = way.same;
      })
    ]

pub unknown_place : (insns : List Insn) (slots : List (Option Knowledge)) (values : Option (List ℕ)) (place : ℕ) (call : Record)
    → slice_get slots place ≡ Some None → IsFollowed insns slots values place call → IsFollowed insns slots values (place + 1) call
unknown_place insns slots values place call none (inl among) = inl among
unknown_place insns slots values place call none (inr way) =
    passes insns slots slots values place call way
    (λ same. absurd (subst (λ slot. DescribedBy slot call way.state) none (subst (λ q. DescribedAt slots q call way.state) same way.known)))
    (λ q s other is. is)

-- what follows counts as its value
value_after : (m : Meaning) → meaning_value (after_step m) ≡ meaning_value m
value_after (Returned value steps) = refl
value_after Stuck = refl

never_fails : (next : Next) (insn : Insn) (after : Knowledge) (call : Record) → Leads next insn after call Fails → ⊥
never_fails (Skip skip) insn after call leads = let e = leads.1 in cc
never_fails (Either a) insn after call leads = elim leads.1 [ inl one ↦ let e = one.0 in cc | inr one ↦ let e = one.0 in cc ]
never_fails (End known) insn after call leads = let e = leads.1 in cc
never_fails FollowingOrZero insn after call leads = elim leads [ inl one ↦ let e = one.1 in cc | inr e ↦ cc ]

-- past a place where something is known
pub known_place : (insns : List Insn) → IsValid insns → (old new : List (Option Knowledge)) (values values' : Option (List ℕ)) (place : ℕ) (insn : Insn)
    (before after : Knowledge) (next : Next) (call : Record)
    → slice_get insns place ≡ Some insn → slice_get old place ≡ Some (Some before)
    → ((q : ℕ) (s : State) → (q ≡ place → ⊥) → DescribedAt old q call s → DescribedAt new q call s)
    → ((s : State) → DescribesState before call s → Leads next insn after call (effect (operation_of insn.code) insn call s))
    → ((e : Effect) → Leads next insn after call e → Spreads place new call e)
    → ((value : ℕ) → IsAmong value values → IsAmong value values')
    → ((value : ℕ) → Leads next insn after call (Ends value) → IsAmong value values')
    → IsFollowed insns old values place call → IsFollowed insns new values' (place + 1) call
known_place insns valid old new values values' place insn before after next call here slot kept follows spreads more ends (inl among) =
    inl (more (meaning_value (meaning_of insns call)) among)
known_place insns valid old new values values' place insn before after next call here slot kept follows spreads more ends (inr way) =
    passes insns old new values' place call way
    (λ same.
    let known = subst (λ found. DescribedBy found call way.state) slot (subst (λ q. DescribedAt old q call way.state) same way.known) in
    let means = way.same ∙ ap (λ q. meaning_value (meaning insns q call way.state)) same in
    by_effect way.state means (effect (operation_of insn.code) insn call way.state) refl (follows way.state known))
    kept
  where
    by_effect : (s : State) → meaning_value (meaning_of insns call) ≡ meaning_value (meaning insns place call s)
        → (e : Effect) → effect (operation_of insn.code) insn call s ≡ e → Leads next insn after call e → IsFollowed insns new values' (place + 1) call
    by_effect s means (GoesOn skip s') does leads = inr (record {
      place = place + (1 + skip);
      state = s';
      ahead = omega arith;
      inside = valid_leads insns valid place (place + (1 + skip)) (insn, here, leads_to place (operation_of insn.code) insn call s skip s' does);
      known = spreads (GoesOn skip s') leads;
      same = means
          ∙ ap meaning_value (meaning_at insns place insn call s here ∙ ap (λ e. then_follows e (λ skip s. meaning insns (place + (1 + skip)) call s)) does)
          ∙ value_after (meaning insns (place + (1 + skip)) call s');
    })
    by_effect s means (Ends value) does leads =
        let is : meaning_value (meaning_of insns call) ≡ value =
        means ∙ ap meaning_value (meaning_at insns place insn call s here ∙ ap (λ e. then_follows e (λ skip s. meaning insns (place + (1 + skip)) call s)) does) in
        inl (subst (λ v. IsAmong v values') (sym is) (ends value leads))
    by_effect s means Fails does leads = absurd (never_fails next insn after call leads)
