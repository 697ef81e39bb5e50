-- Each run is lawful.
use Rattle.std.proofs.Common.{◌≡◌, ◌∙◌, ℕ, ap, sym, refl, subst, reverse, append_assoc, IsTrue, List, [], ◌∷◌, ◌++◌, Option, None, Some, IfSome}
use Rattle.sk_laws.specs.Common.{Proc, is_some, option_map, unwrap_or, zip, Record, values_of, verdict_of, IsLeast, World, at, Event, recorded, Images, step_of, answers_of, world_after, Lineage, Happening, authority_after_calls, history_after, authority_at, Authority, authority_of}
use Rattle.sk_world.proofs.Common.{false≢true, reverse-append}
use Rattle.sk_filter.proofs.Verdicts.{verdict_of_least}
use Rattle.sk_laws.specs.FilterLaws.{AreAccepted, AllReturn}
use Rattle.sk_laws.specs.LineageLaws.{lineage_after, judged_by}
use Rattle.sk_laws.specs.RunLaws.{IsVerdictOf, HasGrown, RunsAreLawful}
use Rattle.sk_laws.proofs.KeptEvents.{kept_run}
use Rattle.sk_laws.proofs.Accepted.{run_keeps_accepted, accepted_return}
use Rattle.sk_laws.proofs.LineageSteps.{authority_in, authority_is_of_lineage}
use Rattle.sk_laws.proofs.Growing.{judged_by_filters, grows_calls, verdict_is_of_lineage, performed_meets_no_refusal}
use Rattle.sk_laws.proofs.Tellings.{end_is_told_to_parent, end_is_told_once}
use Rattle.sk_laws.proofs.Parents.{lineage_is_confined}
use Rattle.sk_laws.proofs.Marks.{run_marks_nobody, init_takes_orphans}

history_is : (declared : Images) (w : World) (events : List Event) (before : List Happening)
    → history_after declared w events before ≡ reverse (zip events (answers_of declared w events)) ++ before
history_is declared w [] before = refl
history_is declared w (event ∷ events) before =
    let now : Happening = (event, (step_of declared w event).answer) in
    let after : World = (step_of declared w event).world in
    let rest : List Happening = zip events (answers_of declared after events) in
    history_is declared after events (now ∷ before)
    ∙ sym (ap (λ xs. xs ++ before) (reverse-append (now ∷ []) rest) ∙ append_assoc (reverse rest) (now ∷ []) before)

append_none : (xs : List Happening) → xs ++ [] ≡ xs
append_none [] = refl
append_none (x ∷ xs) = ap (λ ys. x ∷ ys) (append_none xs)

after_both : (declared : Images) (w : World) (earlier later : List Event) → world_after declared w (earlier ++ later) ≡ world_after declared (world_after declared w earlier) later
after_both declared w [] later = refl
after_both declared w (event ∷ earlier) later = after_both declared (step_of declared w event).world earlier later

filters_stay : (declared : Images) (w : World) (earlier later : List Event) (pid : ℕ) → IsTrue (is_some (at (world_after declared (world_after declared w earlier) later) pid))
    → HasGrown (authority_at (world_after declared w earlier) (lineage_after declared (world_after declared w earlier) later pid).root) (authority_at (world_after declared (world_after declared w earlier) later) pid)
filters_stay declared w earlier later pid there =
    let middle : World = world_after declared w earlier in
    let lineage : Lineage = lineage_after declared middle later pid in
    let of_lineage = authority_is_of_lineage declared middle later pid there in
    grown (at middle lineage.root) of_lineage.0 of_lineage.1
  where
    grown : (o : Option Proc) → IsTrue (is_some o) → authority_at (world_after declared (world_after declared w earlier) later) pid
        ≡ option_map (authority_after_calls declared (lineage_after declared (world_after declared w earlier) later pid).calls) (authority_in o)
        → HasGrown (authority_in o) (authority_at (world_after declared (world_after declared w earlier) later) pid)
    grown None there is = absurd (false≢true there)
    grown (Some p) there is = record {
      old = authority_of p.body;
      new = authority_after_calls declared (lineage_after declared (world_after declared w earlier) later pid).calls (authority_of p.body);
      was = refl;
      is = is;
      grows = grows_calls declared (lineage_after declared (world_after declared w earlier) later pid).calls (authority_of p.body);
    }

each_returns : (call : Record) (o : Option Authority) → IfSome o (λ a. AreAccepted a.filters) → IfSome o (λ a. AllReturn a.filters call)
each_returns call None accepted = tt
each_returns call (Some a) accepted = accepted_return a.filters accepted call

least_verdict : (call : Record) (verdict : ℕ) (o : Option Authority) → judged_by call o ≡ Some verdict → (a : Authority) × (o ≡ Some a) × IsVerdictOf a.filters call verdict
least_verdict call verdict None is = cc
least_verdict call verdict (Some a) is =
    let same : verdict ≡ verdict_of a.filters call = ap (λ o. unwrap_or o verdict) (sym is) in
    (a, refl, record { value = same; least = λ some. subst (IsLeast (values_of a.filters call)) (sym same) (verdict_of_least a.filters call some) })

pub runs_are_lawful : RunsAreLawful
runs_are_lawful declared w events rules accepted = record {
  rules = kept_run declared w events rules;
  accepted = λ earlier later split. run_keeps_accepted declared w earlier accepted;
  returning = λ earlier later pid call split. each_returns call (authority_at (world_after declared w earlier) pid) (run_keeps_accepted declared w earlier accepted pid);
  least = λ earlier later pid ip call verdict outcome split is.
      least_verdict (recorded ip call) verdict (authority_at (world_after declared w earlier) pid)
      (judged_by_filters declared (world_after declared w earlier) pid ip call verdict outcome is).1;
  history = history_is declared w events [] ∙ append_none (reverse (zip events (answers_of declared w events)));
  authorities = authority_is_of_lineage declared w events;
  filters = λ earlier later pid split there.
      let is : world_after declared w events ≡ world_after declared (world_after declared w earlier) later = ap (world_after declared w) split ∙ after_both declared w earlier later in
      subst (λ v. HasGrown (authority_at (world_after declared w earlier) (lineage_after declared (world_after declared w earlier) later pid).root) (authority_at v pid)) (sym is)
      (filters_stay declared w earlier later pid (subst (λ v. IsTrue (is_some (at v pid))) is there));
  verdicts = λ earlier later pid ip call verdict outcome split is. verdict_is_of_lineage declared w earlier pid ip call verdict outcome is;
  performed = λ earlier later pid ip call verdict outcome a place value split is. performed_meets_no_refusal declared w earlier pid ip call verdict outcome a place value is;
  parents = λ earlier later event child status split is ended. end_is_told_to_parent declared (world_after declared w earlier) event child status is ended;
  once = λ earlier between rest first later child status again split is ended told.
      end_is_told_once declared (world_after declared w earlier) first between later child status again is ended told;
  confined = λ earlier later event root q split other alone refuses within outside there.
      lineage_is_confined declared w earlier event root q rules other alone refuses within outside there;
  orphans = λ earlier later pid split is none. init_takes_orphans (world_after declared w earlier) pid (run_marks_nobody declared w earlier is none);
}
