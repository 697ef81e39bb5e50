-- The first fault as a function is the first fault, stage by stage.
use Rattle.std.proofs.Common.{ℕ, ◌≡◌, ◌+◌, ◌-◌, ◌<◌, ◌≤◌, inl, inr, false, true, slice_index_or, List, Option, Some, None, length, refl, sym, subst, ◌⊎◌, arith}
use Rattle.std.specs.Option.{option_or}
use Rattle.std.specs.Prelude.{slice_get, nat_lt, nat_le, IsSomeAnd}
use Rattle.std.proofs.lemmas.Bool.{ltb-true, ltb-false, leb-true, leb-false}
use Rattle.std.proofs.lemmas.Option.{slice_get-get_or}
use Rattle.sk_insn.specs.declared.insn.Insn.{Insn}
use Rattle.sk_insn.specs.Operations.{operation_of}
use Rattle.sk_filter.specs.declared.fault.CheckFault.{CheckFault}
use Rattle.sk_filter.specs.declared.fault.CheckFault.TheVariants.{Empty, TooLong, NoReturn, Unstored}
use Rattle.sk_filter.specs.Paths.{loaded_word, Loads, returns, At}
use Rattle.sk_filter.specs.Valid.{HasFault, IsValid, IsFirstFault, stage_of, fault_place}
use Rattle.sk_filter.specs.Places.{unless, fault_of}
use Rattle.sk_filter.specs.Fits.{NoFaultBefore}
use Rattle.sk_filter.specs.FirstFault.{first_below, of_insn, unstored_of, own_fault, path_fault, first_fault}
use Rattle.sk_filter.proofs.Told.{unless-Some, unless-None}
use Rattle.sk_filter.proofs.PlaceFaults.{no_insn, of_insn-Some, own_fault_told, fault_of-is_fault}
use Rattle.sk_filter.proofs.ForwardPass.{at_only}
use Rattle.sk_filter.proofs.Stages.{length_bounds, first_at, all_fine, first_unstored_at, all_stored}
use Rattle.sk_filter.proofs.Decisions.{unstored_of-Some, unstored_of-None, first_below-None, first_below-Some, at_test}

-- an answer that tells the first fault of a stage, if the earlier stages have none
pub record TellsStage (insns : List Insn) (stage : ℕ) (answer : Option CheckFault) : Type 0 where
  pub none : NoFaultBefore insns stage → answer ≡ None → NoFaultBefore insns (stage + 1)
  pub some : NoFaultBefore insns stage → (fault : CheckFault) → answer ≡ Some fault → IsFirstFault insns fault

-- an answer that tells the first fault of all, if the earlier stages have none
pub record Tells (insns : List Insn) (stage : ℕ) (answer : Option CheckFault) : Type 0 where
  pub none : NoFaultBefore insns stage → answer ≡ None → IsValid insns
  pub some : NoFaultBefore insns stage → (fault : CheckFault) → answer ≡ Some fault → IsFirstFault insns fault

tells_more : (insns : List Insn) (stage : ℕ) (answer rest : Option CheckFault) → TellsStage insns stage answer → Tells insns (stage + 1) rest → Tells insns stage (option_or answer rest)
tells_more insns stage (Some fault) rest here later =
    record { none = λ clear e. cc; some = here.some }
tells_more insns stage None rest here later = record {
  none = λ clear e. later.none (here.none clear refl) e;
  some = λ clear fault e. later.some (here.none clear refl) fault e;
}

-- a fault that is alone in its stage
first_alone : (insns : List Insn) (fault : CheckFault) → fault_place fault ≡ 0 → HasFault insns fault → NoFaultBefore insns (stage_of fault) → IsFirstFault insns fault
first_alone insns fault start has clear =
    (has, λ other before other_has. elim before [ inl earlier ↦ clear other earlier other_has | inr at ↦ omega arith ])

tells_empty : (insns : List Insn) → TellsStage insns 1 (unless (nat_lt 0 (length insns)) Empty)
tells_empty insns = record { none = λ clear e. none clear (ltb-true _ _ (unless-None _ _ e)); some = λ clear fault e. let told = unless-Some _ _ _ e in let less = ltb-false _ _ told.0 in subst (IsFirstFault insns) told.1 (first_alone insns Empty refl (omega arith) clear) }
  where
    none : NoFaultBefore insns 1 → 0 < length insns → NoFaultBefore insns 2
    none clear some Empty early has = omega arith
    none clear some TooLong early has = omega arith
    none clear some NoReturn early has = omega arith
    none clear some (Unstored place word) early has = omega arith
    none clear some fault early has = omega arith

tells_too_long : (insns : List Insn) → TellsStage insns 2 (unless (nat_le (length insns) 4096) TooLong)
tells_too_long insns = record { none = λ clear e. none clear (leb-true _ _ (unless-None _ _ e)); some = λ clear fault e. let told = unless-Some _ _ _ e in subst (IsFirstFault insns) told.1 (first_alone insns TooLong refl (leb-false _ _ told.0) clear) }
  where
    none : NoFaultBefore insns 2 → length insns ≤ 4096 → NoFaultBefore insns 3
    none clear short Empty early has = clear Empty (omega arith) has
    none clear short TooLong early has = omega arith
    none clear short NoReturn early has = omega arith
    none clear short (Unstored place word) early has = omega arith
    none clear short fault early has = omega arith

tells_place : (insns : List Insn) → TellsStage insns 3 (first_below (length insns) (own_fault insns))
tells_place insns = record { none = λ clear e. all_fine insns clear (first_below-None (length insns) (own_fault insns) e); some = some }
  where
    some : NoFaultBefore insns 3 → (fault : CheckFault) → first_below (length insns) (own_fault insns) ≡ Some fault → IsFirstFault insns fault
    some clear fault e =
        let first = first_below-Some (length insns) (own_fault insns) fault e in
        let told = of_insn-Some insns first.place (fault_of first.place (length insns)) fault first.here in
        first_at insns first.place fault clear first.before (fault_of-is_fault insns first.place told.0 fault told.1 told.2)

tells_end : (insns : List Insn) → TellsStage insns 4 (unless (of_insn false (slice_get insns (length insns - 1)) returns) NoReturn)
tells_end insns = record {
  none = λ clear e. none clear (unless-None _ _ e);
  some = λ clear fault e. let told = unless-Some _ _ _ e in subst (IsFirstFault insns) told.1 (first_alone insns NoReturn refl (no_return clear told.0) clear);
}
  where
    no_return : NoFaultBefore insns 4 → of_insn false (slice_get insns (length insns - 1)) returns ≡ false → HasFault insns NoReturn
    no_return clear e =
        let count = length_bounds insns (λ fault early. clear fault (omega arith)) in
        let last = slice_index_or insns (length insns - 1) no_insn in
        let here : slice_get insns (length insns - 1) ≡ Some last = slice_get-get_or insns (length insns - 1) no_insn (omega arith) in
        (last, here, subst (λ o. of_insn false o returns ≡ false) here e)

    none : NoFaultBefore insns 4 → of_insn false (slice_get insns (length insns - 1)) returns ≡ true → NoFaultBefore insns 5
    none clear e Empty early has = clear Empty (omega arith) has
    none clear e TooLong early has = clear TooLong (omega arith) has
    none clear e NoReturn early has =
        let at = at_test insns (length insns - 1) returns e in
        let no_return : returns (operation_of at.0.code) at.0 ≡ false =
        at_only insns (length insns - 1) at.0 (λ o insn. returns o insn ≡ false) at.1 has in
        cc
    none clear e (Unstored place word) early has = omega arith
    none clear e fault early has = clear fault (omega arith) has

tells_paths : (insns : List Insn) → Tells insns 5 (first_below (length insns) (path_fault insns))
tells_paths insns = record {
  none = λ clear e. all_stored insns clear (λ place inside. unstored_of-None insns place (first_below-None (length insns) (path_fault insns) e place inside));
  some = some;
}
  where
    some : NoFaultBefore insns 5 → (fault : CheckFault) → first_below (length insns) (path_fault insns) ≡ Some fault → IsFirstFault insns fault
    some clear fault e =
        let first = first_below-Some (length insns) (path_fault insns) fault e in
        let told = unstored_of-Some insns first.place fault (of_insn-Some insns first.place (unstored_of insns first.place) fault first.here) in
        subst (IsFirstFault insns) told.1 (first_unstored_at insns first.place told.0 clear (λ place less. unstored_of-None insns place (first.before place less)) told.2)

-- ---- the function

or_none : (answer : Option CheckFault) → option_or answer None ≡ answer
or_none None = refl
or_none (Some fault) = refl

tells_all : (insns : List Insn) → Tells insns 1 (first_fault insns)
unfolding first_fault
tells_all insns =
    tells_more insns 1 _ _ (tells_empty insns) (tells_more insns 2 _ _ (tells_too_long insns) (tells_more insns 3 _ _ (tells_place insns) (tells_more insns 4 _ _ (tells_end insns) (subst (Tells insns 5) (sym (or_none _)) (tells_paths insns)))))

no_stage_before : (insns : List Insn) → NoFaultBefore insns 1
no_stage_before insns Empty early has = omega arith
no_stage_before insns TooLong early has = omega arith
no_stage_before insns NoReturn early has = omega arith
no_stage_before insns (Unstored place word) early has = omega arith
no_stage_before insns fault early has = omega arith

pub first_fault-None : (insns : List Insn) → first_fault insns ≡ None → IsValid insns
first_fault-None insns e = (tells_all insns).none (no_stage_before insns) e

pub first_fault-Some : (insns : List Insn) (fault : CheckFault) → first_fault insns ≡ Some fault → IsFirstFault insns fault
first_fault-Some insns fault e = (tells_all insns).some (no_stage_before insns) fault e

none_or_some : (o : Option CheckFault) → (o ≡ None) ⊎ ((fault : CheckFault) × (o ≡ Some fault))
none_or_some None = inl refl
none_or_some (Some fault) = inr (fault, refl)

pub valid-first_fault : (insns : List Insn) → IsValid insns → first_fault insns ≡ None
valid-first_fault insns valid =
    elim (none_or_some (first_fault insns)) [
      | inl none ↦ none
      | inr (fault, some) ↦ absurd (valid fault (first_fault-Some insns fault some).0)
    ]

-- ---- there is one first fault

-- a load loads one word
loads_one : (loaded : Option ℕ) (word other : ℕ) → IsSomeAnd loaded (λ k. k ≡ word) → IsSomeAnd loaded (λ k. k ≡ other) → word ≡ other
loads_one None word other loads loads_other = absurd loads
loads_one (Some k) word other loads loads_other = omega arith

-- which fault it is, by its stage, where that stage has one kind
pub record IsOfKind (fault : CheckFault) : Type 0 where
  pub empty : stage_of fault ≡ 1 → fault ≡ Empty
  pub too_long : stage_of fault ≡ 2 → fault ≡ TooLong
  pub no_return : stage_of fault ≡ 4 → fault ≡ NoReturn
  pub unstored : stage_of fault ≡ 5 → (word : ℕ) × (fault ≡ Unstored (fault_place fault) word)

kind : (fault : CheckFault) → IsOfKind fault
kind Empty = record {
  empty = λ e. refl;
  too_long = λ e. absurd (omega arith);
  no_return = λ e. absurd (omega arith);
  unstored = λ e. absurd (omega arith);
}
kind TooLong = record {
  empty = λ e. absurd (omega arith);
  too_long = λ e. refl;
  no_return = λ e. absurd (omega arith);
  unstored = λ e. absurd (omega arith);
}
kind NoReturn = record {
  empty = λ e. absurd (omega arith);
  too_long = λ e. absurd (omega arith);
  no_return = λ e. refl;
  unstored = λ e. absurd (omega arith);
}
kind (Unstored place word) = record {
  empty = λ e. absurd (omega arith);
  too_long = λ e. absurd (omega arith);
  no_return = λ e. absurd (omega arith);
  unstored = λ e. (word, refl);
}
kind fault = record {
  empty = λ e. absurd (omega arith);
  too_long = λ e. absurd (omega arith);
  no_return = λ e. absurd (omega arith);
  unstored = λ e. absurd (omega arith);
}

same_word : (insns : List Insn) (place word other : ℕ) → At insns place (Loads word) → At insns place (Loads other) → word ≡ other
same_word insns place word other (insn, here, loads) at =
    loads_one (loaded_word (operation_of insn.code) insn) word other loads (at_only insns place insn (Loads other) here at)

same_fault : (insns : List Insn) (fault other : CheckFault) → HasFault insns fault → HasFault insns other → stage_of fault ≡ stage_of other → fault_place fault ≡ fault_place other → fault ≡ other
same_fault insns Empty other has has_other stage place = sym ((kind other).empty (sym stage))
same_fault insns TooLong other has has_other stage place = sym ((kind other).too_long (sym stage))
same_fault insns NoReturn other has has_other stage place = sym ((kind other).no_return (sym stage))
same_fault insns (Unstored at word) other has has_other stage place =
    let found = (kind other).unstored (sym stage) in
    let same = found.1 in
    let there : HasFault insns (Unstored (fault_place other) found.0) = subst (HasFault insns) same has_other in
    let loads : At insns at (Loads found.0) = subst (λ p. At insns p (Loads found.0)) (sym place) there.0 in
    let words : word ≡ found.0 = same_word insns at word found.0 has.0 loads in
    cc
same_fault insns fault other has has_other stage place =
    let one = own_fault_told insns fault refl has in
    let two = own_fault_told insns other (sym stage) has_other in
    cc

pub one_first_fault : (insns : List Insn) (fault other : CheckFault) → IsFirstFault insns fault → IsFirstFault insns other → fault ≡ other
one_first_fault insns fault other first first_other =
    let above : stage_of other < stage_of fault → ⊥ = λ less. first.1 other (inl less) first_other.0 in
    let below : stage_of fault < stage_of other → ⊥ = λ less. first_other.1 fault (inl less) first.0 in
    let stage : stage_of fault ≡ stage_of other = omega arith in
    let after : fault_place other < fault_place fault → ⊥ = λ less. first.1 other (inr (sym stage, less)) first_other.0 in
    let before : fault_place fault < fault_place other → ⊥ = λ less. first_other.1 fault (inr (stage, less)) first.0 in
    same_fault insns fault other first.0 first_other.0 stage (omega arith)

pub first-first_fault : (insns : List Insn) (fault : CheckFault) → IsFirstFault insns fault → first_fault insns ≡ Some fault
first-first_fault insns fault first =
    elim (none_or_some (first_fault insns)) [
      | inl none ↦ absurd (first_fault-None insns none fault first.0)
      | inr (other, some) ↦ let same = one_first_fault insns fault other first (first_fault-Some insns other some) in cc
    ]
