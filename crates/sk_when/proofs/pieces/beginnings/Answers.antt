use Rattle.std.proofs.Common.{ℕ, List, subst, sym}
use Rattle.std.specs.List.{All}
use Rattle.std.proofs.lemmas.List.Elements.{All-contains}
use Rattle.std.proofs.lemmas.List.Sorted.{IsNonDecreasingBy-from_sort}
use Rattle.sk_survey.specs.Cutting.{IsCutRound}
use Rattle.sk_survey.proofs.Cutting.{all_round_added, all_round_sorted}
use Rattle.sk_when.proofs.pieces.beginnings.Goals as goal

pub returns-clause-rising : goal.returns-clause-rising
returns-clause-rising c = IsNonDecreasingBy-from_sort (λ x. x) _ c.sort_unstable.ensures.sorted

pub returns-clause-round : goal.returns-clause-round
returns-clause-round c = λ nr named.
    let named_numbers : List ℕ = c.in_ok-named.named.items in
    let cuts = c.in_ok-beginnings in
    let round =
    all_round_sorted _ _ _ c.sort_unstable.ensures.permutation
    (subst (λ (all : List ℕ). All (IsCutRound all) named_numbers) (sym c.in_ok-extend_from_slice.ensures.items)
    (all_round_added _ _ _ (subst (All (IsCutRound cuts.beginnings.items)) c.deref.ensures.value cuts.ensures.alone))) in
    All-contains (IsCutRound c.sort_unstable.new.self.items) named_numbers nr round (c.in_ok-named.ensures.each nr named)
