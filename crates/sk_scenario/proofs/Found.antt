-- What an answer says of the relation.
use Rattle.std.proofs.Common.{◌≡◌, ◌∙◌, ap, sym, ℕ, List, Result, Ok, Err, IfOk, IfErr, inl, inr}
use Rattle.sk_scenario.proofs.Common.{TextFault, Setting, IsScenarioText, scenario, IsFirstFaultOfText, ScenarioFault, Answers, Finds, IsToldOf, Tells}
use Rattle.sk_scenario.proofs.Told.{fault-first, first-fault}
use Rattle.sk_scenario.proofs.Relation.{scenario-stands, scenario-only}
use Rattle.sk_scenario.specs.Answers.{told}

module _ {T : Type 0} (view : T → Setting) (text : List ℕ) where
  pub text-stands : (answer : Result T ScenarioFault) → Answers view answer (scenario text) → IfOk answer (λ value. IsScenarioText text (view value))
  text-stands (Ok value) h = scenario-stands text (view value) h
  text-stands (Err fault) h = tt

  pub text-only : (answer : Result T ScenarioFault) (s : Setting) → Answers view answer (scenario text) → IsScenarioText text s → Finds view answer s
  text-only (Ok value) s h a = let e = scenario-only text s a in cc
  text-only (Err fault) s (inl memory) a = memory
  text-only (Err fault) s (inr h) a = let e = scenario-only text s a in let g = h.2 in absurd cc

  pub text-first : (answer : Result T ScenarioFault) → Answers view answer (scenario text) → IfErr answer (IsToldOf text)
  text-first (Ok value) h = tt
  text-first (Err fault) (inl memory) = inl memory
  text-first (Err fault) (inr h) = inr (h.0, h.1, fault-first text h.0 h.2)

  pub text-told : (answer : Result T ScenarioFault) (why : TextFault) → Answers view answer (scenario text) → IsFirstFaultOfText text why → Tells answer why
  text-told (Ok value) why h f = let e = first-fault text why f in absurd cc
  text-told (Err fault) why (inl memory) f = inl memory
  text-told (Err fault) why (inr h) f =
      let e = sym h.2 ∙ first-fault text why f in
      inr (h.1 ∙ ap told (fault_is h.0 why e))
    where
      fault_is : (x y : TextFault) → ◌≡◌ {A = Result Setting TextFault} (Err x) (Err y) → x ≡ y
      fault_is x y e = cc
