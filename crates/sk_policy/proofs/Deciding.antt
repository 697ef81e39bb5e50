-- The code of cases comes to what the cases say.
use Rattle.std.proofs.Common.{ℕ, Bool, true, false, if◌then◌else◌, List, [], ◌∷◌, ◌++◌, sym, subst, append_assoc}
use Rattle.std.specs.Prelude.{All}
use Rattle.std.proofs.lemmas.List.Elements.{All-head, All-tail}
use Rattle.sk_insn.specs.declared.insn.Insn.{Insn}
use Rattle.sk_insn.specs.declared.record.Record.{Record}
use Rattle.sk_filter.specs.Meaning.{State}
use Rattle.sk_profile.specs.Code.{answer}
use Rattle.sk_profile.proofs.Steps.{Comes, answers, past}
use Rattle.sk_terms.specs.Lines.{meets_choices}
use Rattle.sk_policy.specs.declared.cases.Case.{Case}
use Rattle.sk_policy.specs.Code.{line_code, cases_code}
use Rattle.sk_policy.specs.Policies.{said, CaseThere, IsWhole}
use Rattle.sk_policy.proofs.Lines.{line_on}

-- an answer, or what stands behind it
either : (b : Bool) (v w : ℕ) (rest : List Insn) (call : Record) (s : State) → Comes rest 0 call s w
    → Comes (answer v ∷ rest) (if b then 0 else 1) call s (if b then v else w)
either true v w rest call s g = answers v rest call s
either false v w rest call s g = past (answer v ∷ []) rest 0 call s w g

pub cases_on : (cases : List Case) (otherwise : ℕ) (rest : List Insn) (call : Record) (s : State) → IsWhole call → All CaseThere cases
    → Comes (cases_code cases otherwise ++ rest) 0 call s (said cases otherwise call)
cases_on [] otherwise rest call s ok there = answers otherwise rest call s
cases_on (first ∷ cases) otherwise rest call s ok there =
    let behind = cases_code cases otherwise in
    let choices = first.choices.items in
    let value = said (first ∷ cases) otherwise call in
    subst (λ insns. Comes insns 0 call s value) (sym (append_assoc (line_code choices 0 1) (answer first.value ∷ behind) rest))
    (line_on choices 0 1 (answer first.value ∷ (behind ++ rest)) call s value ok (All-head CaseThere first cases there)
    (λ t. either (meets_choices choices call) first.value (said cases otherwise call) (behind ++ rest) call t
    (cases_on cases otherwise rest call t ok (All-tail CaseThere first cases there))))
