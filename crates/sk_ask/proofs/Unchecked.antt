-- Files that could not be checked.
use Rattle.std.proofs.Common.{◌≡◌, ℕ, List, Result, Ok, Err, refl, sym, subst, inr}
use Rattle.std.specs.Result.{IsErrAnd}
use Rattle.sk_profile_json.specs.declared.context.Context.{Context}
use Rattle.sk_ask.specs.declared.answer.Answer.{Answer}
use Rattle.sk_ask.specs.declared.manner.Manner.{Manner}
use Rattle.sk_ask.specs.declared.trouble.Trouble.{Trouble}
use Rattle.sk_ask.specs.Checks.{Checks, IsUnchecked}
use Rattle.sk_ask.specs.Endings.{ending_of}
use Rattle.sk_ask.specs.Shelves.{Held}

pub unchecked : (manner : Manner) (held : List ℕ → Held) (context : Context) (names : List (List ℕ)) (why : Trouble) (result : Result Answer Trouble) → IsErrAnd result (λ given. given ≡ why) → IsUnchecked manner held context names why → Checks manner held context names (ending_of result)
unchecked manner held context names why (Ok answer) is untaken = absurd is
unchecked manner held context names why (Err given) is untaken = inr (given, subst (λ it. IsUnchecked manner held context names it) (sym is) untaken, refl)
