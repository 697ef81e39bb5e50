-- A profile that is read has no wrong rule.
use Rattle.std.proofs.Common.{◌≡◌, ℕ, List, slice_get, Some, true, get_or, subst, rules}
use Rattle.std.specs.List.{All}
use Rattle.std.proofs.lemmas.Option.{slice_get-get_or, slice_get_within}
use Rattle.sk_profile.specs.declared.fault.ProfileFault.{ProfileFault}
use Rattle.sk_profile.specs.declared.fault.ProfileFault.TheVariants.{Rule as WrongRule}
use Rattle.sk_profile.specs.declared.fault.RulePlace.{RulePlace}
use Rattle.sk_profile.specs.Faults.{is_good, IsWrongAt, IsFaultOf}
use Rattle.sk_profile.specs.Profiles.{Profile}
use Rattle.sk_profile_json.specs.Wholes.{AreGood}
use Rattle.sk_profile_json.proofs.Good.{IsGood, IsGoodPart}

-- what is found in a list is as all of it is
found : {X : Type 0} → (P : X → Type 0) (xs : List X) (k : ℕ) (x : X) → All P xs → slice_get xs k ≡ Some x → P x
found P xs k x all h =
    let less = slice_get_within xs k x h in
    let there = slice_get-get_or xs k x less in
    let same : get_or xs k x ≡ x = search (rules, there, h) in
    subst P same (all k x less)

-- no rule of a profile that is read is one that no filter can be made of
pub no_wrong_rule : (profile : Profile) (fault : ProfileFault) (it : RulePlace) → AreGood profile.parts
    → fault ≡ WrongRule it → IsFaultOf profile fault → ⊥
no_wrong_rule profile fault it good is why =
    let wrong : IsWrongAt profile it = subst (IsFaultOf profile) is why in
    let part = found IsGoodPart profile.parts it.part wrong.0 good wrong.1 in
    let right : is_good wrong.2.0 ≡ true = found IsGood wrong.0.rules it.rule wrong.2.0 part wrong.2.1 in
    let other = wrong.2.2 in
    search (rules, right, other)
