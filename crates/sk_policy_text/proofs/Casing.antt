-- Cases of sentences, one by one.
use Rattle.std.proofs.Common.{◌≡◌, ℕ, if◌then◌else◌, List, [], ◌∷◌, ◌++◌, refl, sym, ap, ◌∙◌, subst}
use Rattle.sk_insn.specs.declared.record.Record.{Record}
use Rattle.sk_terms.specs.Lines.{meets_choices}
use Rattle.sk_policy.specs.declared.cases.Case.{Case}
use Rattle.sk_policy.specs.Policies.{said, IsWhole, CaseThere}
use Rattle.sk_policy_text.specs.declared.sentence.Sentence.{Sentence}
use Rattle.sk_policy_text.specs.declared.sentence.Sentence.TheVariants as sentence
use Rattle.sk_policy_text.specs.PolicyRows.{else_below}
use Rattle.sk_policy_text.specs.PolicySays.{SaysCases}
use Rattle.sk_policy_text.specs.PolicyFaults.{IsCaseOf}

pub said_behind : (front back : List Case) (otherwise : ℕ) (call : Record) → said (front ++ back) otherwise call ≡ said front (said back otherwise call) call
said_behind [] back otherwise call = refl
said_behind (first ∷ front) back otherwise call =
    ap (λ other. if meets_choices first.choices.items call then first.value else other) (said_behind front back otherwise call)

pub case_there : (it : Sentence) (case : Case) → IsCaseOf it case → CaseThere case
case_there (sentence.Case verdict words) case is = is.1.there
case_there other case is = absurd is

pub below_more : (it : Sentence) (rest : List Sentence) (case : Case) → IsCaseOf it case → else_below (it ∷ rest) ≡ else_below rest
below_more (sentence.Case verdict words) rest case is = refl
below_more other rest case is = absurd is

pub case_more : (it : Sentence) (rest : List Sentence) (case : Case) → IsCaseOf it case → (call : Record) → IsWhole call → (value : ℕ) → SaysCases rest call value
    → SaysCases (it ∷ rest) call (said (case ∷ []) value call)
case_more (sentence.Case verdict words) rest case is call whole value says =
    let reads = is.1 in
    let meets = reads.means reads.written reads.words call whole in (
      reads.written,
      reads.words,
      λ held. ap (λ b. if b then case.value else value) (meets ∙ held) ∙ is.0,
      λ failed. subst (SaysCases rest call) (sym (ap (λ b. if b then case.value else value) (meets ∙ failed))) says,
    )
case_more other rest case is call whole value says = absurd is
