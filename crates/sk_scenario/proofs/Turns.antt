-- One turn of the loop over the lines.
use Rattle.std.proofs.Common.{◌≡◌, ◌+◌, ◌∙◌, refl, sym, subst, ℕ, List, [], ◌∷◌, Option, Result, Ok, Err, inl, inr}
use Rattle.sk_scenario.proofs.Common.{ScenarioFault, TextFault, Names, IsFaultOf, ◌>>=◌, Gained, Open, stepped, closed, reading}

-- a fault of the first step is one of the chain
pub fault_of-bind : {X Y : Type 0} (fault : ScenarioFault) (first : Result X TextFault) (next : X → Result Y TextFault) → IsFaultOf fault first → IsFaultOf fault (first >>= next)
fault_of-bind fault first next (inl memory) = inl memory
fault_of-bind fault first next (inr h) = let e = h.2 in inr (h.0, h.1, rw e refl)

module _ (known : Option Names) (n : ℕ) (d : Gained) (block : Open) (here lines : List (List ℕ)) (total : Result Gained TextFault) (same : here ≡ lines) (so_far : reading known n d block lines ≡ total) where
  pub goes : (line : List ℕ) (rest : List (List ℕ)) (next : Gained × Open) → lines ≡ line ∷ rest → stepped known n d block line here ≡ Ok next → reading known (n + 1) next.0 next.1 rest ≡ total
  unfolding reading
  goes line rest next e h =
      let all = subst (λ l. reading known n d block l ≡ total) e so_far in
      let step : stepped known n d block line (line ∷ rest) ≡ Ok next = subst (λ l. stepped known n d block line l ≡ Ok next) (same ∙ e) h in
      rw step at all

  pub fails : (line : List ℕ) (rest : List (List ℕ)) (fault : ScenarioFault) → lines ≡ line ∷ rest → IsFaultOf fault (stepped known n d block line here) → IsFaultOf fault total
  unfolding reading
  fails line rest fault e h =
      let all = subst (λ l. reading known n d block l ≡ total) e so_far in
      let step : IsFaultOf fault (stepped known n d block line (line ∷ rest)) = subst (λ l. IsFaultOf fault (stepped known n d block line l)) (same ∙ e) h in
      subst (IsFaultOf fault) all (fault_of-bind fault (stepped known n d block line (line ∷ rest)) (λ next. reading known (n + 1) next.0 next.1 rest) step)

  pub ends : lines ≡ [] → closed n block ≡ Ok tt → total ≡ Ok d
  unfolding reading
  ends e h =
      let all = subst (λ l. reading known n d block l ≡ total) e so_far in
      sym (rw h at all)

  pub ends_open : (why : TextFault) → lines ≡ [] → closed n block ≡ Err why → total ≡ Err why
  unfolding reading
  ends_open why e h =
      let all = subst (λ l. reading known n d block l ≡ total) e so_far in
      sym (rw h at all)
