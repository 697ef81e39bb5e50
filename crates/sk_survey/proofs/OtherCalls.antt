-- One verdict that is told of the other architectures is that of each of their calls.
use Rattle.std.proofs.Common.{◌≡◌, ℕ, suc, ◌+◌, ◌==◌, ◌<◌, ◌≤◌, ◌^◌, ◌||◌, true, false, if◌then◌else◌, List, [], ◌∷◌, Option, Some, None, refl, sym, ap, subst, ◌∙◌, arith, inl, inr}
use Rattle.std.specs.List.{All, Contains, list_all}
use Rattle.std.specs.Option.{option_and_then, option_map, option_map_or}
use Rattle.std.proofs.lemmas.Bool.{and_parts, cases_Bool, cases_lt, eqb-true}
use Rattle.std.proofs.lemmas.List.Elements.{All-contains}
use Rattle.std.proofs.lemmas.Map.Views.{Contains-from_any}
use Rattle.sk_insn.specs.declared.insn.Insn.{Insn}
use Rattle.sk_insn.specs.declared.record.Record.{Record}
use Rattle.sk_insn.specs.Record.{IsNative}
use Rattle.sk_filter.specs.Chains.{AllValid}
use Rattle.sk_filter.specs.Verdict.{verdict_of}
use Rattle.sk_survey.specs.declared.rows.Row.{Row}
use Rattle.sk_survey.specs.Answers.{ChainAnswersAmong, answers_of}
use Rattle.sk_survey.specs.Surveys.{Tell, TellsAlone}
use Rattle.sk_survey.specs.ByArchitecture.{by_architecture, chain_with_number_at, free_place}
use Rattle.sk_survey.proofs.ByArchitecture.{chains_by_architecture}
use Rattle.sk_survey.proofs.Words.{free}
use Rattle.sk_survey.specs.declared.other.Other.TheVariants.{Verdict}
use Rattle.sk_survey.specs.Other.{IsOtherCall, IsOtherOf, OtherVerdictIsOfEachCall, agrees, audits, first_value, is_named, shared_value, value_of, verdict_or_several}
use Rattle.sk_survey.proofs.EachCall.{alone, one_of_one}

-- a row that is of no architecture with a name tells the value
that_one : (o : Option ℕ) (value : ℕ) → option_map_or (λ other. other == value) o false ≡ true → o ≡ Some value
that_one None value e = cc
that_one (Some other) value e = ap Some (eqb-true other value e)

unnamed : (value : ℕ) (row : Row) → agrees value row ≡ true → is_named row.first ≡ false → value_of row ≡ Some value
unnamed value row e not_named =
    that_one (value_of row) value (ap (λ b. b || option_map_or (λ other. other == value) (value_of row) false) (sym not_named) ∙ e)

named : (number : ℕ) → is_named number ≡ true → Contains audits number
named number e = Contains-from_any (λ x y. eqb-true x y) number audits e

-- so each call by a number that has no name gets it
each_call : (own : List (List Insn)) (value : ℕ) (rows : List Row) (from : ℕ) → Tell own from (2 ^ 32) rows → list_all (agrees value) rows ≡ true
    → ((nr : ℕ) → Contains audits nr → All (TellsAlone nr) rows)
    → (call : Record) → IsNative call → from ≤ call.nr → call.nr < 2 ^ 32 → is_named call.nr ≡ false → verdict_of own call ≡ value
each_call own value [] from tell agree stand call native above below other = absurd (omega (arith, tell, above, below))
each_call own value (row ∷ rows) from tell agree stand call native above below other = elim (cases_lt row.last call.nr) [
  | inl later ↦
      each_call own value rows (row.last + 1) tell.4 (and_parts (agrees value row) (list_all (agrees value) rows) agree).1
      (λ nr has k d less. stand nr has (suc k) d (omega (arith, less))) call native (omega (arith, later)) below other
  | inr here ↦
      let first : row.first ≤ call.nr = omega (arith, tell.0, above) in elim (cases_Bool (is_named row.first)) [
        | inl is ↦
            let single = stand row.first (named row.first is) 0 row (omega arith) (omega arith) tell.1 in
            let same : row.first ≡ call.nr = omega (arith, single.1, first, here) in
            absurd (cc (is, other, same))
        | inr not_named ↦
            let told = unnamed value row (and_parts (agrees value row) (list_all (agrees value) rows) agree).0 not_named in
            let among : ChainAnswersAmong own row.first row.last (Some (value ∷ [])) =
            subst (ChainAnswersAmong own row.first row.last) (alone (answers_of row.answers) value told) tell.3.among in
            one_of_one (verdict_of own call) value (among call (native, (first, here)))
      ]
]

-- the rows agree on a value that is told
all_agree : (rows : List Row) (value : ℕ) (first : Option ℕ)
    → option_and_then (λ value. if list_all (agrees value) rows then Some value else None) first ≡ Some value → list_all (agrees value) rows ≡ true
all_agree rows value None e = cc
all_agree rows value (Some one) e = elim (cases_Bool (list_all (agrees one) rows)) [
  | inl each ↦
      let same : one ≡ value = cc in
      subst (λ value. list_all (agrees value) rows ≡ true) same each
  | inr some ↦ absurd (cc (e, some))
]

one_verdict : (o : Option ℕ) (value : ℕ) → Verdict value ≡ verdict_or_several o → o ≡ Some value
one_verdict None value e = cc
one_verdict (Some other) value e = cc

by_rows : (programs : List (List Insn)) → AllValid programs → (value : ℕ) → (place : Option ℕ) → free_place programs ≡ place
    → IsOtherOf (option_map (λ place. chain_with_number_at place programs) place) (Verdict value)
    → (call : Record) → IsOtherCall call → verdict_of programs call ≡ value
by_rows programs valid value None found told call is = cc
by_rows programs valid value (Some place) found told call is =
    let same = chains_by_architecture programs valid place (free programs place found) call is.number is.architecture in
    sym same
    ∙ each_call (chain_with_number_at place programs) value told.0 0 told.1 (all_agree told.0 value (first_value told.0) (one_verdict (shared_value told.0) value told.3))
    (λ nr has. All-contains (λ nr. All (TellsAlone nr) told.0) audits nr told.2 has)
    (by_architecture place call) refl (omega arith) is.architecture is.other

pub other_verdict_is_of_each_call : OtherVerdictIsOfEachCall
other_verdict_is_of_each_call programs valid value told call is = by_rows programs valid value (free_place programs) refl told call is
