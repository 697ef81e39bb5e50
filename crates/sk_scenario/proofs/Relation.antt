-- The two readings find the setting that lines stand for, and nothing else is found.
use Rattle.std.proofs.Common.{◌≡◌, ◌∙◌, ap, arith, refl, sym, subst, ℕ, zero, suc, List, [], ◌∷◌, Option, Some, None, Ok, Bool, false, length, inl, inr, lt-ltb, le-ltb}
use Rattle.sk_scenario.proofs.Common.{cases_lt, option_map_or, lines_of, Setting, names_from, Part, AreParts, turns_in, marks_in, AreTurns, IsMark, StandFor, IsScenario, IsScenarioText, ◌>>=◌, Gained, Nothing, nothing_yet, reading, setting, scenario_of, scenario, Named, given_once-none}
use Rattle.sk_scenario.proofs.Steps.{ok_is, bind_ok}
use Rattle.sk_scenario.proofs.Parts.{building, parts_read, reading_parts}
use Rattle.sk_scenario.proofs.Whole.{TurnsAfter, MarksAfter, Fit, Found, names_built, found_all, made_all}

turns_are : (turns : List ℕ) (t : Option ℕ) → TurnsAfter None turns t → AreTurns turns (option_map_or (λ n. n) t 1000)
turns_are [] t h = rw h refl
turns_are (n ∷ []) t h = let e = h.2 in (h.0, h.1, rw e refl)
turns_are (n ∷ (m ∷ more)) t h = h

turns_from : (turns : List ℕ) (number : ℕ) → AreTurns turns number → (t : Option ℕ) × TurnsAfter None turns t × (option_map_or (λ n. n) t 1000 ≡ number)
turns_from [] number h = (None, refl, sym h)
turns_from (n ∷ []) number h = (Some n, (h.0, h.1, refl), sym h.2)
turns_from (n ∷ (m ∷ more)) number h = absurd h

marks_are : (count : ℕ) (mark : Bool) → MarksAfter false count mark → IsMark count mark
marks_are zero mark h = h
marks_are (suc zero) mark h = h
marks_are (suc (suc more)) mark h = h

marks_from : (count : ℕ) (mark : Bool) → IsMark count mark → MarksAfter false count mark
marks_from zero mark h = h
marks_from (suc zero) mark h = h
marks_from (suc (suc more)) mark h = h

-- ---- from the readings

stands : (lines : List (List ℕ)) (parts : List Part) (final : Gained) → AreParts lines parts → Found (names_from 0 0 parts) nothing_yet parts final → StandFor lines (setting final) parts
stands lines parts final parted f =
    let fit = f.fit in
    let images = f.filters_are in
    let scripts = f.programs_are in
    let filters = subst (λ (l : List (List ℕ)). l ≡ final.filters) images refl in
    record {
      parted = parted;
      once = fit.once;
      turns = turns_are (turns_in parts) final.turns fit.turns;
      subreapers = marks_are (marks_in parts) final.subreapers fit.marks;
      filters = rw images fit.filters;
      few_filters = let few = fit.few_filters in rw images (omega arith);
      programs = rw scripts fit.programs;
      few_programs = let few = fit.few_programs in rw scripts (omega arith);
    }

pub scenario_of-stands : (lines : List (List ℕ)) (s : Setting) → scenario_of lines ≡ Ok s → IsScenario lines s
unfolding scenario_of
scenario_of-stands lines s h =
    let first = bind_ok (reading None 1 nothing_yet Nothing lines) (λ first. reading (Some first.names) 1 nothing_yet Nothing lines >>= λ second. Ok (setting second)) s h in
    let second = bind_ok (reading (Some first.0.names) 1 nothing_yet Nothing lines) (λ second. Ok (setting second)) s first.2 in
    let parts = reading_parts None nothing_yet first.0 lines first.1 in
    let built = sym (parts_read None 1 nothing_yet lines parts.0 parts.1) ∙ first.1 in
    let names = names_built None 1 nothing_yet parts.0 first.0 built in
    let again = sym (parts_read (Some first.0.names) 1 nothing_yet lines parts.0 parts.1) ∙ second.1 in
    let known = subst (λ names. building (Some names) 1 nothing_yet parts.0 ≡ Ok second.0) names again in
    let f = found_all (names_from 0 0 parts.0) 1 nothing_yet parts.0 second.0 (given_once-none Named) (omega arith) (omega arith) known in
    subst (λ (other : Setting). IsScenario lines other) (ok_is (setting second.0) s second.2) (parts.0, stands lines parts.0 second.0 parts.1 f)

-- ---- to the readings

fits : (lines : List (List ℕ)) (parts : List Part) (s : Setting) (t : Option ℕ) → StandFor lines s parts → TurnsAfter None (turns_in parts) t → Fit (names_from 0 0 parts) nothing_yet parts t s.subreapers s.filters s.programs
fits lines parts s t h turns =
    let few_filters = h.few_filters in
    let few_programs = h.few_programs in
    record {
      once = h.once;
      turns = turns;
      marks = marks_from (marks_in parts) s.subreapers h.subreapers;
      filters = h.filters;
      few_filters = omega arith;
      programs = h.programs;
      few_programs = omega arith;
    }

setting_is : (final : Gained) (s : Setting) (t : Option ℕ) → final.turns ≡ t → option_map_or (λ n. n) t 1000 ≡ s.turns → final.subreapers ≡ s.subreapers → final.filters ≡ s.filters → final.programs ≡ s.programs
    → setting final ≡ s
setting_is final s t turns number mark filters programs = rw (turns, number, mark, filters, programs) refl

pub scenario_of-only : (lines : List (List ℕ)) (s : Setting) → IsScenario lines s → scenario_of lines ≡ Ok s
unfolding scenario_of
scenario_of-only lines s h =
    let parts = h.0 in
    let names = names_from 0 0 h.0 in
    let t = turns_from (turns_in h.0) s.turns h.1.turns in
    let fit = fits lines h.0 s t.0 h.1 t.1 in
    let first = made_all None names 1 nothing_yet h.0 t.0 s.subreapers s.filters s.programs tt fit in
    let second = made_all (Some names) names 1 nothing_yet h.0 t.0 s.subreapers s.filters s.programs refl fit in
    let read_first = parts_read None 1 nothing_yet lines h.0 h.1.parted ∙ first.built in
    let read_second = parts_read (Some names) 1 nothing_yet lines h.0 h.1.parted ∙ second.built in
    let found_names = names_built None 1 nothing_yet h.0 first.final first.built in
    let same = setting_is second.final s t.0 second.turns_are t.2 second.marks_are second.filters_are (second.programs_are refl) in
    rw read_first (rw found_names (rw read_second (ap Ok same)))

-- ---- texts

pub scenario-stands : (text : List ℕ) (s : Setting) → scenario text ≡ Ok s → IsScenarioText text s
unfolding scenario
scenario-stands text s h = elim (cases_lt 1048576 (length text)) [
  | inl long ↦ let t = lt-ltb 1048576 (length text) long in let e = rw t at h in cc
  | inr short ↦ let f = le-ltb 1048576 (length text) short in (short, scenario_of-stands (lines_of text) s (rw f at h))
]

pub scenario-only : (text : List ℕ) (s : Setting) → IsScenarioText text s → scenario text ≡ Ok s
unfolding scenario
scenario-only text s h = let f = le-ltb 1048576 (length text) h.0 in rw f (scenario_of-only (lines_of text) s h.1)
