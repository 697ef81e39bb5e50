use Rattle.std.proofs.Common.{◌≡◌, ◌<◌, ◌+◌, ℕ, true, ◌++◌, ◌∷◌, [], List, map, take, length, get_or, ap, refl, sym, subst, ◌∙◌}
use Rattle.std.specs.List.{All}
use Rattle.std.proofs.lemmas.List.{map-append, take_more}
use Rattle.sk_show.specs.declared.survey_line.Shown.{Shown}
use Rattle.sk_show.specs.Lines.{IsShown}
use Rattle.sk_show.proofs.Holding.{one_more_holds}
use Rattle.sk_when.specs.Verdicts.{IsShownOnceMet, have_verdict}
use Rattle.sk_when.proofs.lines.found_among.Goals as goal

with_one : (P : Shown → Type 0) (shown next : List Shown) (it : Shown) → next ≡ shown ++ it ∷ [] → All P shown → P it → All P next
with_one P shown next it is all h = subst (All P) (sym is) (one_more_holds P shown it all h)

value_behind : (values : List ℕ) (shown next : List Shown) (it : Shown) (i : ℕ) → i < length values → next ≡ shown ++ it ∷ [] → it.value ≡ get_or values i 0
    → map (λ it. it.value) shown ≡ take i values → map (λ it. it.value) next ≡ take (i + 1) values
value_behind values shown next it i within is same so_far =
    ap (map (λ it. it.value)) is ∙ map-append (λ it. it.value) shown (it ∷ []) ∙ (λ j. so_far j ++ same j ∷ []) ∙ sym (take_more values i 0 within)

pub loop-value-preserved : goal.loop-value-preserved
loop-value-preserved c = record {
  values = value_behind c.args.values.now _ _ _ c.loop-value.value-index c.loop-value-test.true c.in_ok-push.ensures.items refl c.loop-value.invariant.values;
  found = with_one (IsShown c.args.chain.now c.args.row.now) _ _ _ c.in_ok-push.ensures.items c.loop-value.invariant.found
      (record { found = c.in_ok-found.ensures.found; plain = c.in_ok-found.ensures.plain c.requires.plain });
  each = λ have.
      with_one (IsShownOnceMet c.args.chain.now c.args.row.now) _ _ _ c.in_ok-push.ensures.items (c.loop-value.invariant.each have)
      (λ some call is same. c.in_ok-found.ensures.each some (subst (λ value. have_verdict c.args.judged.now value ≡ true) same (have call is)));
}
