-- What is judged of logs that are left, and of all.
use Rattle.std.proofs.Common.{◌≡◌, ℕ, List, [], ◌∷◌, ◌++◌, length, map, true, false, arith, rules, refl, subst, append-nil}
use Rattle.sk_names.specs.declared.architecture.Architecture.{Architecture}
use Rattle.sk_ask.specs.Since.{AreJudged}

pub all_are_judged : {T : Type 0} (f : T → List ℕ) (by : Architecture) (left : List T) (logs texts : List (List ℕ)) → length left ≡ 0
    → ((more : List (List ℕ)) → AreJudged true by (map f left) more → AreJudged true by logs (texts ++ more)) → AreJudged true by logs texts
all_are_judged f by [] logs texts e so_far = subst (λ all. AreJudged true by logs all) (append-nil texts) (so_far [] tt)
all_are_judged f by (log ∷ left) logs texts e so_far = absurd (omega (arith, e))

-- without the option each is judged as it is
pub as_they_are : (by : Architecture) (logs : List (List ℕ)) → AreJudged false by logs logs
as_they_are by [] = tt
as_they_are by (log ∷ logs) = (refl, as_they_are by logs)
