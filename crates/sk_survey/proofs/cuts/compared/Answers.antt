use Rattle.std.proofs.Common.{◌≡◌, ◌+◌, ◌*◌, ◌<◌, inl, inr, length, sym, ap, subst, ◌∙◌, arith}
use Rattle.std.specs.List.{Contains}
use Rattle.std.proofs.lemmas.List.Filters.{dedup_is}
use Rattle.std.proofs.lemmas.List.Kept.{Contains-dedup_nat}
use Rattle.std.proofs.lemmas.List.Sorted.{Contains-permutation}
use Rattle.sk_filter.specs.Chains.{cost_of}
use Rattle.sk_survey.proofs.Turns.{first_stay, some_cost}
use Rattle.sk_survey.proofs.cuts.compared.Goals as goal

pub returns-clause-turns : goal.returns-clause-turns
returns-clause-turns c =
    λ nr fits turn.
    let all = c.in_ok-cuts.ensures.turns nr fits turn in
    let sorted = Contains-permutation _ _ nr c.sort_unstable.ensures.permutation all in
    let once = subst (λ xs. Contains xs nr) (sym (dedup_is _ _ _ c.dedup.ensures.filtered)) (Contains-dedup_nat _ nr sorted) in
    elim (first_stay _ c.most_cuts.result nr once) [
      | inl stays ↦ inl (subst (λ xs. Contains xs nr) (sym c.truncate.ensures.items) stays)
      | inr full ↦
          let most = c.most_cuts.ensures.most (let some = some_cost c.args.chain.now nr turn in let e = c.cost.ensures.cost in omega arith) in
          let long : length c.truncate.new.self.items ≡ c.most_cuts.result = ap length c.truncate.ensures.items ∙ full in
          inr (subst (λ n. 33554432 < (n + 1) * cost_of c.args.chain.now) (sym long)
          (subst (λ cost. 33554432 < (c.most_cuts.result + 1) * cost) c.cost.ensures.cost most))
    ]
