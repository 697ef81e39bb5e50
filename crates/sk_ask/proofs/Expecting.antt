-- The endings of `ask expect` behind its policy, from what its parts come to.
use Rattle.std.proofs.Common.{◌≡◌, ℕ, Bool, true, false, List, ◌∷◌, ◌++◌, codes, Option, Result, Ok, Err, inl, inr, sym, ap, subst}
use Rattle.std.specs.Prelude.{IfErr}
use Rattle.std.specs.Bool.{MatchBool}
use Rattle.std.specs.Result.{IsErrAnd}
use Rattle.sk_policy_text.specs.declared.expectation.Expectations.{Expectations}
use Rattle.sk_policy_text.specs.Expecting.{IsExpected}
use Rattle.sk_names.specs.declared.architecture.Architecture.{Architecture}
use Rattle.sk_arguments.specs.declared.naming.Naming.{Naming}
use Rattle.sk_profile_json.specs.declared.context.Context.{Context}
use Rattle.sk_ask.specs.declared.demands.Demands.{Demands}
use Rattle.sk_ask.specs.declared.printing.Printing.{Printing}
use Rattle.sk_ask.specs.declared.trouble.Trouble.{Trouble}
use Rattle.sk_ask.specs.declared.trouble.Trouble.TheVariants.{Refused, Reading, Memory}
use Rattle.sk_ask.specs.declared.word.Word.TheVariants.{Expect}
use Rattle.sk_ask.specs.Architectures.{architecture_of}
use Rattle.sk_ask.specs.Asking.{Question, is_turned, naming_asked, printing_asked, turned_line}
use Rattle.sk_ask.specs.Contexts.{IsContextOf}
use Rattle.sk_ask.specs.Endings.{Ending, refused}
use Rattle.sk_ask.specs.Forms.{unmarked}
use Rattle.sk_ask.specs.Expects.{AreDemands, HasNoDemands, IsNotAlone, IsExpect, IsExpectOf, OfDemands, asked_by, others_note}
use Rattle.sk_ask.specs.Shelves.{Held, IsContent}
use Rattle.sk_ask.specs.Troubles.{OfFiles, OfFirst}

where_true : (b : Bool) (P Q : Type 0) → b ≡ true → P → MatchBool b P Q
where_true true P Q e p = p
where_true false P Q e p = cc

where_false : (b : Bool) (P Q : Type 0) → b ≡ false → Q → MatchBool b P Q
where_false true P Q e q = cc
where_false false P Q e q = q

-- the policy tells of an architecture whose arguments are not followed
pub is_refused : (held : List ℕ → Held) (may_spend : ℕ → Bool) (asked : Question) (it : Demands) (names : List (List ℕ)) (name text : List ℕ)
    (others : List (List ℕ)) (arch : Option Architecture) (line : List ℕ)
    → names ≡ name ∷ others → IsContent 1048576 (held name) text → AreDemands (unmarked text) it → arch ≡ (asked_by asked it).arch → true ≡ is_turned arch
    → line ≡ turned_line Expect (codes "arch s390x")
    → OfFirst names (refused line) (λ name others. OfDemands held name (refused line) (λ it. IsExpectOf held may_spend asked name it others (refused line)))
is_refused held may_spend asked it names name text others arch line e content demands on turned said =
    let is : is_turned (asked_by asked it).arch ≡ true = subst (λ a. is_turned a ≡ true) on (sym turned) in
    rw e (inl (text, content, inl (it, demands, where_true _ _ _ is (ap refused said))))

-- the filters are compared with what it demands
pub is_compared : (held : List ℕ → Held) (may_spend : ℕ → Bool) (asked : Question) (it : Demands) (names : List (List ℕ)) (name text : List ℕ)
    (others : List (List ℕ)) (arch : Option Architecture) (context : Context) (ending : Ending) (by : Architecture) (naming : Naming) (printing : Printing) (notes : List ℕ)
    → names ≡ name ∷ others → IsContent 1048576 (held name) text → AreDemands (unmarked text) it → arch ≡ (asked_by asked it).arch → false ≡ is_turned arch
    → IsContextOf (record asked { arch = arch }) context → by ≡ architecture_of arch → naming ≡ naming_asked asked.numbers
    → printing ≡ printing_asked asked.json
    → notes ≡ others_note name asked.arch it.says_others
    → OfFiles (record { big_endian = false; strict = asked.strict }) held context others ending (λ read. IsExpect may_spend naming printing by it.chain read.chain (notes ++ read.notes) ending)
    → OfFirst names ending (λ name others. OfDemands held name ending (λ it. IsExpectOf held may_spend asked name it others ending))
is_compared held may_spend asked it names name text others arch context ending by naming printing notes e content demands on turned there b n p s told =
    let is : is_turned (asked_by asked it).arch ≡ false = subst (λ a. is_turned a ≡ false) on (sym turned) in
    let in_context = subst (λ a. IsContextOf (record asked { arch = a }) context) on there in
    let known = rw (b, n, p, s, on) at told in
    rw e (inl (text, content, inl (it, demands, where_false _ _ _ is (context, in_context, known))))

-- what is made of the policy is not attached
unattached : (name text : List ℕ) (made : Expectations) (why : Trouble) → IsExpected text made → IsNotAlone name made.image.items why → HasNoDemands name text why
unattached name text made (Refused line) is none = inr (inr (made, is, none))
unattached name text made (Reading line) is none = none
unattached name text made Memory is none = tt

pub has_none : (name text : List ℕ) (made : Expectations) (why : Trouble) (result : Result Demands Trouble) → IsErrAnd result (λ given. given ≡ why)
    → IsExpected text made → IsNotAlone name made.image.items why → IfErr result (HasNoDemands name text)
has_none name text made why (Ok it) given is none = tt
has_none name text made why (Err other) given is none = subst (λ it. HasNoDemands name text it) (sym given) (unattached name text made why is none)
