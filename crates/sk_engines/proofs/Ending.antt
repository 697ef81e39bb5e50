-- How an engine ends, by how its parts did.
use Rattle.std.proofs.Common.{◌≡◌, ℕ, ◌<◌, List, length, take, Option, Some, None, Result, IfSome, ap, arith, ◌∙◌, refl, subst}
use Rattle.std.proofs.Math.Logic.{⊎_elim}
use Rattle.std.proofs.lemmas.Bool.{cases_lt, lt-ltb}
use Rattle.std.proofs.lemmas.List.{take_all, length-take}
use Rattle.sk_engines.specs.declared.fault.CommandFault.{CommandFault}
use Rattle.sk_engines.specs.Output.{Output, within_limit}
use Rattle.sk_engines.specs.Engine.{Delivers}

-- an input over the limit, and what is taken of it, are refused alike
too_long : (answer : List ℕ → Output) (input : List ℕ) → 1048576 < length input → within_limit answer (take 1048577 input) ≡ within_limit answer input
unfolding within_limit
too_long answer input long =
    let front : 1048576 < length (take 1048577 input) = simp length-take (omega arith) in
    rw (lt-ltb 1048576 (length input) long, lt-ltb 1048576 (length (take 1048577 input)) front) refl

-- one byte more than the limit decides that an input is too long
pub within_limit-take : (answer : List ℕ → Output) (input : List ℕ) → within_limit answer (take 1048577 input) ≡ within_limit answer input
within_limit-take answer input =
    ⊎_elim (λ long. too_long answer input long) (λ fits. ap (within_limit answer) (take_all 1048577 input (omega arith))) (cases_lt 1048576 (length input))

-- the answer to what was read is the answer to the input
pub delivers_taken : (answer : List ℕ → Output) (left : Option (List ℕ)) (bytes : List ℕ) (result : Result ℕ CommandFault) (old new : Option (List ℕ)) → IfSome left (λ input. bytes ≡ take 1048577 input) → Delivers (within_limit answer bytes) result old new → IfSome left (λ input. Delivers (within_limit answer input) result old new)
delivers_taken answer None bytes result old new taken sent = tt
delivers_taken answer (Some input) bytes result old new taken sent =
    subst (λ a. Delivers a result old new) (ap (within_limit answer) taken ∙ within_limit-take answer input) sent
