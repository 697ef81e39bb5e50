-- Rules that are good, by the test.
use Rattle.std.proofs.Common.{◌≡◌, nat_lt, true, List, [], ◌∷◌, length, sym, subst, arith}
use Rattle.std.specs.Prelude.{All}
use Rattle.std.proofs.lemmas.Bool.{ltb-true, leb-true, and_parts}
use Rattle.std.proofs.lemmas.List.Elements.{All-nil, All-cons}
use Rattle.std.proofs.lemmas.List.Sums.{AllPass-from_list_all}
use Rattle.sk_profile.specs.declared.condition.Condition.{Condition}
use Rattle.sk_profile.specs.declared.profile.Rule.{Rule as RuleOfCode}
use Rattle.sk_profile.specs.Faults.{is_good}
use Rattle.sk_profile.specs.Rows.{IsGood}
use Rattle.sk_profile.specs.Views.{rule_of}

pub good_rule : (rule : RuleOfCode) → is_good (rule_of rule) ≡ true → IsGood rule
good_rule rule e =
    let parts = and_parts _ _ e in
    let more = and_parts _ _ parts.1 in
    let all = AllPass-from_list_all (λ (c : Condition). nat_lt c.index 6) rule.conditions.items more.1 in record {
      asked = (λ k d less. ltb-true _ 6 (all k d less), more.0);
      few = leb-true (length rule.conditions.items) 6 parts.0;
    }

-- one more that is good, and none that is left
module _ {X : Type 0} (P : X → Type 0) where
  pub one_good : (left rest whole : List X) (first : X) → left ≡ first ∷ rest → P first → (All P left → All P whole) → All P rest → All P whole
  one_good left rest whole first steps good so_far more = so_far (subst (All P) (sym steps) (All-cons P first rest good more))

  none_left : (left : List X) → length left ≡ 0 → All P left
  none_left [] e = All-nil P
  none_left (first ∷ left) e = absurd (omega (arith, e))

  pub all_good : (left whole : List X) → length left ≡ 0 → (All P left → All P whole) → All P whole
  all_good left whole e so_far = so_far (none_left left e)
