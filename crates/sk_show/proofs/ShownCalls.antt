-- Below a row with values a call is shown for one of them.
use Rattle.std.proofs.Common.{◌≡◌, ◌≢◌, zero, suc, ◌≤◌, inl, inr, true, List, [], ◌∷◌, map, Option, Some, None, refl, sym, ap, subst, ◌∙◌, arith}
use Rattle.std.specs.Prelude.{IsSomeAnd, IsTrue, is_some}
use Rattle.std.specs.List.{All, Any}
use Rattle.std.proofs.lemmas.List.Elements.{All-head}
use Rattle.sk_insn.specs.declared.insn.Insn.{Insn}
use Rattle.sk_insn.specs.declared.record.Record.{Record}
use Rattle.sk_filter.specs.Verdict.{verdict_of}
use Rattle.sk_survey.specs.declared.rows.Row.{Row}
use Rattle.sk_survey.specs.Answers.{IsOneOf, IsAmong, answers_of}
use Rattle.sk_show.specs.declared.example.Example.{Example}
use Rattle.sk_show.specs.declared.survey_line.Shown.{Shown}
use Rattle.sk_show.specs.Examples.{plain_call}
use Rattle.sk_show.specs.Lines.{IsShown, wanted_values}
use Rattle.sk_show.specs.LinesLaws.{SomeCallIsShown}

is_there : (found : Option Example) (P : Example → Type 0) → IsSomeAnd found P → IsTrue (is_some found)
is_there (Some example) P holds = refl
is_there None P none = absurd none

among_shown : (programs : List (List Insn)) → programs ≢ [] → (row : Row) → row.first ≤ row.last
    → (shown : List Shown) → All (IsShown programs row) shown → IsOneOf (verdict_of programs (plain_call row.first)) (map (λ it. it.value) shown)
    → Any (λ it. IsTrue (is_some it.found)) shown
among_shown programs some row rises [] all is = absurd is
among_shown programs some row rises (it ∷ shown) all (inl same) =
    let first = All-head (IsShown programs row) it shown all in (
      zero,
      it,
      omega arith,
      refl,
      is_there it.found (λ example. example.call ≡ plain_call row.first) (first.plain (some, refl, omega arith, rises, same)),
    )
among_shown programs some row rises (it ∷ shown) all (inr is) =
    let rest = among_shown programs some row rises shown (λ k d less. all (suc k) d (omega arith)) is in
    let inside = rest.2 in
    (suc rest.0, rest.1, omega arith, rest.3, rest.4)

pub some_call_is_shown : SomeCallIsShown
some_call_is_shown programs some row rises holds values told shown shows =
    let call : Record = plain_call row.first in
    let among : IsAmong (verdict_of programs call) (answers_of row.answers) = holds.among call (refl, (omega arith, rises)) in
    let one : IsOneOf (verdict_of programs call) values = subst (IsAmong (verdict_of programs call)) told among in
    let same : map (λ it. it.value) shown ≡ values = shows.values ∙ ap (wanted_values true) told in
    among_shown programs some row rises shown shows.found (subst (IsOneOf (verdict_of programs call)) (sym same) one)
