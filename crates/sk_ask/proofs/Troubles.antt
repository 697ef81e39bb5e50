-- Trouble that is handed on, as an ending.
use Rattle.std.proofs.Common.{◌≡◌, Result, Ok, Err, refl, sym, subst}
use Rattle.std.specs.Result.{IsErrAnd}
use Rattle.sk_ask.specs.declared.trouble.Trouble.{Trouble}
use Rattle.sk_ask.specs.declared.answer.Answer.{Answer}
use Rattle.sk_ask.specs.Endings.{ending_of}
use Rattle.sk_ask.specs.Troubles.{IsTrouble}

pub handed_on : (result : Result Answer Trouble) (why : Trouble) (P : Trouble → Type 0) → IsErrAnd result (λ given. given ≡ why) → P why → IsTrouble (ending_of result) P
handed_on (Ok answer) why P is p = absurd is
handed_on (Err given) why P is p = (given, subst P (sym is) p, refl)
