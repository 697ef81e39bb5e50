-- Words that are refused, and memory that is, are lawful endings.
use Rattle.std.proofs.Common.{◌≡◌, ℕ, List, [], ◌∷◌, Bool, true, false, Result, Ok, Err, Bor, map, refl, sym, subst, ap, inr}
use Rattle.std.specs.Prelude.{unwrap_or}
use Rattle.std.specs.Bool.{MatchBool}
use Rattle.std.specs.Result.{IsErrAnd}
use Rattle.sk_profile_json.specs.declared.context.Context.{Context}
use Rattle.sk_ask.specs.declared.trouble.Trouble.{Trouble}
use Rattle.sk_ask.specs.Shelves.{Held}
use Rattle.sk_ask.specs.declared.trouble.Trouble.TheVariants.{Refused, Reading, Memory}
use Rattle.sk_ask.specs.declared.answer.Answer.{Answer}
use Rattle.sk_ask.specs.Asking.{Question}
use Rattle.sk_ask.specs.Asked.{Asks}
use Rattle.sk_ask.specs.Answering.{AnswersAsked, AnswersThere}
use Rattle.sk_ask.specs.Contexts.{machine_there, newest}
use Rattle.sk_ask.specs.Endings.{ending_of, refused, no_memory}

either : (b : Bool) (P Q : Type 0) → P → Q → MatchBool b P Q
either true P Q p q = p
either false P Q p q = q

abbrev lent : List (List ℕ) → List (Bor (List ℕ))
lent [] = []
lent (name ∷ names) = record { ref_ptr = (0, 0); now = name } ∷ lent names

lent_now : (names : List (List ℕ)) → map (λ (name : Bor (List ℕ)). name.now) (lent names) ≡ names
lent_now [] = refl
lent_now (name ∷ names) = ap (λ more. name ∷ more) (lent_now names)

-- some context is the one that is asked for
abbrev context_for : Question → Context
context_for asked = record {
  capabilities = record { ref_ptr = (0, 0); now = lent asked.caps };
  kernel = unwrap_or asked.kernel newest;
  runc = asked.runc;
  machine = machine_there asked.machine asked.arch;
  native = asked.native;
}

no_answer : (held : List ℕ → Held) (may_spend : ℕ → Bool) (asked : Question) → AnswersThere held may_spend asked no_memory
no_answer held may_spend asked = (context_for asked, (lent_now asked.caps, refl, refl, refl, refl), inr (Memory, tt, refl))

asked_wrong : (held : List ℕ → Held) (may_spend : ℕ → Bool) (said : Result Question (List ℕ)) (why : Trouble) → Asks (Err why) said → AnswersAsked held may_spend said (ending_of (Err why))
asked_wrong held may_spend said (Refused line) h = subst (λ s. AnswersAsked held may_spend s (refused line.items)) (sym h) refl
asked_wrong held may_spend said (Reading line) h = absurd h
asked_wrong held may_spend (Err line) Memory h = tt
asked_wrong held may_spend (Ok asked) Memory h = either asked.help _ _ tt (no_answer held may_spend asked)

pub wrong_in : (held : List ℕ → Held) (may_spend : ℕ → Bool) (said : Result Question (List ℕ)) (why : Trouble) (result : Result Answer Trouble) → IsErrAnd result (λ given. given ≡ why) → Asks (Err why) said → AnswersAsked held may_spend said (ending_of result)
wrong_in held may_spend said why (Ok answer) is h = absurd is
wrong_in held may_spend said why (Err given) is h =
    subst (λ it. AnswersAsked held may_spend said (ending_of (Err it))) (sym is) (asked_wrong held may_spend said why h)
