-- The line `else` of a row.
use Rattle.std.proofs.Common.{◌≡◌, ℕ, ◌==◌, Bool, true, false, if◌then◌else◌, List, [], ◌∷◌, Option, Some, None, sym, ap, refl, eqb-true}
use Rattle.sk_insn.specs.declared.record.Record.{Record}
use Rattle.sk_conditions.specs.Conditions.{Agrees}
use Rattle.sk_survey.specs.Answers.{IsAmong}
use Rattle.sk_terms.specs.declared.decision.Decision.{Decision}
use Rattle.sk_terms.specs.declared.decision.Decision.TheVariants.{Is, Untold, Ask'}
use Rattle.sk_terms.specs.declared.lines.LeftOut.TheVariants.{End}
use Rattle.sk_terms.specs.Decisions.{DecidesAll, decided}
use Rattle.sk_terms.specs.Lines.{shown}
use Rattle.sk_terms.specs.Terms.{holds_term}
use Rattle.sk_when.specs.Lines.{IsVerdict, or_else}

-- what is left out is what `else` tells
pub else_tells : (value otherwise : Option ℕ) → or_else (shown (End otherwise) value) otherwise ≡ value ∷ []
else_tells None None = refl
else_tells None (Some other) = refl
else_tells (Some value) None = refl
else_tells (Some value) (Some other) = by_test (value == other) refl where
  by_test : (b : Bool) → (value == other) ≡ b → or_else (if b then [] else Some value ∷ []) (Some other) ≡ Some value ∷ []
  by_test true e = ap (λ n. Some n ∷ []) (sym (eqb-true value other e))
  by_test false e = refl

pub is_verdict : (answers : Option (List ℕ)) (verdict : ℕ) (value : Option ℕ) → Agrees value verdict → IsAmong verdict answers → IsVerdict answers verdict value
is_verdict answers verdict (Some value) agrees among = agrees
is_verdict answers verdict None agrees among = among

of_either : (b : Bool) (one other : Option ℕ) → (value : ℕ) × (one ≡ Some value) → (value : ℕ) × (other ≡ Some value)
    → (value : ℕ) × ((if b then one else other) ≡ Some value)
of_either true one other is is' = is
of_either false one other is is' = is'

-- a tree with a value at each end tells one of each call, and where the verdict is told it is this
pub some_value : (decision : Decision) (call : Record) → DecidesAll decision → (value : ℕ) × (decided decision call ≡ Some value)
some_value (Is value) call all = (value, refl)
some_value Untold call all = absurd all
some_value (Ask' term p held q failed) call all =
    of_either (holds_term term call) (decided held call) (decided failed call) (some_value held call all.0) (some_value failed call all.1)

agreed : (value : Option ℕ) (verdict some : ℕ) → Agrees value verdict → value ≡ Some some → value ≡ Some verdict
agreed (Some value) verdict some agrees is = ap Some agrees
agreed None verdict some agrees is = cc

pub is_decided : (decision : Decision) (call : Record) (verdict : ℕ) → DecidesAll decision → Agrees (decided decision call) verdict
    → decided decision call ≡ Some verdict
is_decided decision call verdict all agrees =
    let some = some_value decision call all in agreed (decided decision call) verdict some.0 agrees some.1
