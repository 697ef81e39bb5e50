use Rattle.std.proofs.Common.{ℕ, suc, ◌+◌, ◌≡◌, ◌++◌, List, ◌∷◌, [], ◌∙◌, ap, ◌<◌, arith, length, map, subst, sym, take}
use Rattle.std.specs.List.{All}
use Rattle.std.proofs.Math.ListN.{get_or}
use Rattle.std.proofs.Math.Seq.{take-suc}
use Rattle.std.proofs.lemmas.List.{map-append}
use Rattle.std.proofs.lemmas.List.Elements.{All-push}
use Rattle.sk_names.specs.declared.architecture.Architecture.{Architecture}
use Rattle.sk_names.specs.Architectures.{architectures}
use Rattle.sk_survey.specs.AnswersByArchitecture.{answered_architecture, IsAnswered}
use Rattle.sk_survey.proofs.answered.answered_all.Goals as goal

one_more : (them : List Architecture) (i : ℕ) (other : Architecture) → i < length them → take (i + 1) them ≡ take i them ++ get_or them i other ∷ []
one_more them i other inside = let e : i + 1 ≡ suc i = omega arith in ap (λ n. take n them) e ∙ take-suc them i other inside

pub loop-architecture-preserved : goal.loop-architecture-preserved
loop-architecture-preserved c =
    let index = c.loop-architecture.architecture-index in
    let inside : index < length architectures = omega arith in
    let more = c.in_ok-answered_for.field-0 in record {
      all = c.loop-architecture.invariant.all;
      named = ap (map answered_architecture) c.in_ok-push.ensures.items
          ∙ map-append answered_architecture c.loop-architecture.all.items (more ∷ [])
          ∙ ap (λ front. front ++ more.architecture ∷ []) c.loop-architecture.invariant.named
          ∙ ap (λ last. take index architectures ++ last ∷ []) c.in_ok-answered_for.ensures.architecture
          ∙ sym (one_more architectures index _ inside);
      answered = subst (λ its. All (IsAnswered c.args.chain.now) its) (sym c.in_ok-push.ensures.items)
          (All-push (IsAnswered c.args.chain.now) c.loop-architecture.all.items more c.loop-architecture.invariant.answered c.in_ok-answered_for.ensures.answered);
    }
