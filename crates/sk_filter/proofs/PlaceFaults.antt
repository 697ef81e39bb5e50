-- An instruction's own fault is a fault of its program, and one without such a fault fits its place.
use Rattle.std.proofs.Common.{ℕ, ◌↔◌, ◌≡◌, ◌+◌, ◌%◌, ◌<◌, ◌≤◌, inl, inr, Bool, false, List, Option, Some, None, length, refl, sym, subst, ap, ◌∙◌, arith}
use Rattle.std.specs.Prelude.{slice_get, nat_lt, ◌==◌, IfSome}
use Rattle.std.proofs.lemmas.Bool.{ltb-true, eqb-true, and_parts}
use Rattle.sk_insn.specs.declared.insn.Insn.{Insn}
use Rattle.sk_insn.specs.declared.operation.Operand.TheVariants.{Constant}
use Rattle.sk_insn.specs.declared.operation.Arithmetic.TheVariants.{Divide, ShiftLeft, ShiftRight}
use Rattle.sk_insn.specs.declared.operation.Operation.{Operation}
use Rattle.sk_insn.specs.declared.operation.Operation.TheVariants.{LoadRecord, LoadScratch, StoreScratch, Compute, Jump, Branch, ReturnConstant, ReturnAccumulator}
use Rattle.sk_insn.specs.Operations.{operation_of}
use Rattle.sk_filter.specs.declared.fault.CheckFault.{CheckFault}
use Rattle.sk_filter.specs.declared.fault.CheckFault.TheVariants.{Empty, TooLong, NoReturn, Unstored, Code}
use Rattle.sk_filter.specs.Paths.{Onward, Nowhere, To, Either, onward, GoesTo, loaded_word, stored_word, returns, At}
use Rattle.sk_filter.specs.Valid.{HasFault, HasByItself, stage_of, fault_place}
use Rattle.sk_filter.specs.FirstFault.{of_insn, own_fault}
use Rattle.sk_filter.specs.Places.{unless, fault_of}
use Rattle.sk_filter.specs.Fits.{TakesConstant, AreInside, Fits}
use Rattle.sk_filter.proofs.Told.{unless-Some, unless-None}

-- the program has this fault of a single instruction, at this place
pub record IsFaultAt (insns : List Insn) (place : ℕ) (fault : CheckFault) : Type 0 where
  pub has : HasFault insns fault
  pub stage : stage_of fault ≡ 3
  pub at : fault_place fault ≡ place

-- a fault of the stage of single instructions is one that an instruction has by itself
own_is : (insns : List Insn) (fault : CheckFault) → stage_of fault ≡ 3 → HasFault insns fault ↔ HasByItself insns fault
own_is insns Empty stage = absurd (omega arith)
own_is insns TooLong stage = absurd (omega arith)
own_is insns NoReturn stage = absurd (omega arith)
own_is insns (Unstored place word) stage = absurd (omega arith)
own_is insns fault stage = (λ has. has, λ has. has)

-- what is told of an instruction is a fault of that stage, at its place
abbrev IsToldAt : ℕ → CheckFault → Type 0
IsToldAt place fault = (stage_of fault ≡ 3) × (fault_place fault ≡ place)

told_unless : (place : ℕ) (test : Bool) (fault told : CheckFault) → IsToldAt place fault → unless test fault ≡ Some told → IsToldAt place told
told_unless place test fault told at e = subst (IsToldAt place) (unless-Some test fault told e).1 at

told_at : (place count : ℕ) (insn : Insn) (o : Option Operation) (told : CheckFault) → fault_of place count o insn ≡ Some told → IsToldAt place told
told_at place count insn None told h =
    let same : Code place ≡ told = cc in subst (IsToldAt place) same (refl, refl)
told_at place count insn (Some LoadRecord) told h = told_unless place _ _ told (refl, refl) h
told_at place count insn (Some (LoadScratch register)) told h = told_unless place _ _ told (refl, refl) h
told_at place count insn (Some (StoreScratch register)) told h = told_unless place _ _ told (refl, refl) h
told_at place count insn (Some (Compute Divide Constant)) told h = told_unless place _ _ told (refl, refl) h
told_at place count insn (Some (Compute ShiftLeft Constant)) told h = told_unless place _ _ told (refl, refl) h
told_at place count insn (Some (Compute ShiftRight Constant)) told h = told_unless place _ _ told (refl, refl) h
told_at place count insn (Some Jump) told h = told_unless place _ _ told (refl, refl) h
told_at place count insn (Some (Branch comparison operand)) told h = told_unless place _ _ told (refl, refl) h
told_at place count insn (Some operation) told h = cc

-- and one of the program
pub fault_of-is_fault : (insns : List Insn) (place : ℕ) (insn : Insn) (told : CheckFault) → slice_get insns place ≡ Some insn → fault_of place (length insns) (operation_of insn.code) insn ≡ Some told → IsFaultAt insns place told
fault_of-is_fault insns place insn told here h =
    let at = told_at place (length insns) insn (operation_of insn.code) told h in
    let by_itself : HasByItself insns told =
    subst (λ p. At insns p (λ o insn. fault_of p (length insns) o insn ≡ Some told)) (sym at.1) (insn, here, h) in
    record { has = (own_is insns told at.0).1 by_itself; stage = at.0; at = at.1 }

-- an instruction of which nothing is told fits its place
pub fits_if_none : (place count : ℕ) (insn : Insn) (o : Option Operation) → fault_of place count o insn ≡ None → Fits place count o insn
fits_if_none place count insn None h = cc
fits_if_none place count insn (Some LoadRecord) h =
    let both = and_parts (insn.k % 4 == 0) (nat_lt insn.k 64) (unless-None _ _ h) in
    ((eqb-true _ _ both.0, ltb-true _ _ both.1), tt)
fits_if_none place count insn (Some (LoadScratch register)) h = (ltb-true _ _ (unless-None _ _ h), tt)
fits_if_none place count insn (Some (StoreScratch register)) h = (ltb-true _ _ (unless-None _ _ h), tt)
fits_if_none place count insn (Some (Compute Divide Constant)) h = (unless-None _ _ h, tt)
fits_if_none place count insn (Some (Compute ShiftLeft Constant)) h = (unless-None _ _ h, tt)
fits_if_none place count insn (Some (Compute ShiftRight Constant)) h = (unless-None _ _ h, tt)
fits_if_none place count insn (Some (Compute arithmetic Constant)) h = (refl, tt)
fits_if_none place count insn (Some Jump) h = (tt, ltb-true _ _ (unless-None _ _ h))
fits_if_none place count insn (Some (Branch comparison operand)) h =
    let both = and_parts (nat_lt (place + 1 + insn.jt) count) (nat_lt (place + 1 + insn.jf) count) (unless-None _ _ h) in
    (tt, (ltb-true _ _ both.0, ltb-true _ _ both.1))
fits_if_none place count insn (Some operation) h = (tt, tt)

pub own_fault_here : (insns : List Insn) (place : ℕ) (insn : Insn) → slice_get insns place ≡ Some insn → own_fault insns place ≡ fault_of place (length insns) (operation_of insn.code) insn
own_fault_here insns place insn here = ap (λ o. of_insn None o (fault_of place (length insns))) here

-- a fault of a single instruction is the one that is told of it
pub own_fault_told : (insns : List Insn) (fault : CheckFault) → stage_of fault ≡ 3 → HasFault insns fault → own_fault insns (fault_place fault) ≡ Some fault
own_fault_told insns fault stage has =
    let at = (own_is insns fault stage).0 has in
    own_fault_here insns (fault_place fault) at.0 at.1 ∙ at.2

-- an answer of the instruction at a place
pub of_insn-Some : (insns : List Insn) (place : ℕ) (says : Option Operation → Insn → Option CheckFault) (fault : CheckFault) → of_insn None (slice_get insns place) says ≡ Some fault → At insns place (λ o insn. says o insn ≡ Some fault)
of_insn-Some insns place says fault e = go (slice_get insns place) refl e
  where
    go : (o : Option Insn) → slice_get insns place ≡ o → of_insn None o says ≡ Some fault → At insns place (λ o insn. says o insn ≡ Some fault)
    go None here e = cc
    go (Some insn) here e = (insn, here, e)

-- the instruction at a place, if there is one, fits there
abbrev pub FitsAt : List Insn → ℕ → Type 0
FitsAt insns place =
    (insn : Insn) → slice_get insns place ≡ Some insn → Fits place (length insns) (operation_of insn.code) insn

-- the instruction where an index past the end would read one
abbrev pub no_insn : Insn
no_insn = record { code = 0; jt = 0; jf = 0; k = 0 }

-- an instruction that takes its constant loads and stores words that are there
pub loads_there : (insn : Insn) (o : Option Operation) → TakesConstant o insn → IfSome (loaded_word o insn) (λ word. word < 16)
loads_there insn None takes = absurd takes
loads_there insn (Some (LoadScratch register)) takes = takes
loads_there insn (Some operation) takes = tt

pub stores_there : (insn : Insn) (o : Option Operation) → TakesConstant o insn → IfSome (stored_word o insn) (λ word. word < 16)
stores_there insn None takes = absurd takes
stores_there insn (Some (StoreScratch register)) takes = takes
stores_there insn (Some operation) takes = tt

-- control stays inside from an instruction that fits, with another after it unless it is a return
pub stays_in_room : (place count room : ℕ) (insn : Insn) (o : Option Operation) → count ≤ room → Fits place count o insn → (returns o insn ≡ false → place + 1 < count) → AreInside room (onward place o insn)
stays_in_room place count room insn None short fits more = absurd fits.0
stays_in_room place count room insn (Some Jump) short fits more =
    let lands : place + 1 + insn.k < count = fits.1 in omega arith
stays_in_room place count room insn (Some (Branch comparison operand)) short fits more =
    let passes : place + 1 + insn.jt < count = fits.1.0 in
    let fails : place + 1 + insn.jf < count = fits.1.1 in
    (omega arith, omega arith)
stays_in_room place count room insn (Some ReturnConstant) short fits more = tt
stays_in_room place count room insn (Some ReturnAccumulator) short fits more = tt
stays_in_room place count room insn (Some operation) short fits more =
    let inside : place + 1 < count = more refl in omega arith

pub goes_inside : (count next : ℕ) (on : Onward) → GoesTo next on → AreInside count on → next < count
goes_inside count next Nowhere goes inside = absurd goes
goes_inside count next (To place) goes inside = omega arith
goes_inside count next (Either place other) (inl goes) inside = let here = inside.0 in omega arith
goes_inside count next (Either place other) (inr goes) inside = let there = inside.1 in omega arith
