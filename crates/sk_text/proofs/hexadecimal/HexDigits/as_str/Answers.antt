use Rattle.std.proofs.Common.{Result, Ok, Err, refl}
use Rattle.std.proofs.lemmas.Str.{IsUtf8-from_ascii}
use Rattle.std.specs.Prelude.{MatchResult, IsOk}
use Rattle.sk_text.proofs.hexadecimal.HexDigits.as_str.Goals as goal

-- an answer that is an error only where a fact fails
succeeds : {T E Q : Type 0} (P : T → Type 0) (R : E → Type 0) (r : Result T E) → MatchResult r P (λ e. ¬ Q × R e) → Q → IsOk r
succeeds P R (Ok x) h q = refl
succeeds P R (Err e) h q = absurd (h.0 q)

pub unwrap-requires : goal.unwrap-requires
unwrap-requires g c = succeeds _ _ c.from_utf8.result c.from_utf8.ensures.cases (IsUtf8-from_ascii _ c.self.invariant)
