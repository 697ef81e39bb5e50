-- The code of a tree is a valid program: its loads are of words of the record, its jumps stay inside, it ends with a
-- return, and it has no scratch words.
use Rattle.std.proofs.Common.{◌≡◌, ℕ, zero, suc, ◌+◌, ◌-◌, ◌%◌, ◌<◌, ◌≤◌, Bool, true, false, if◌then◌else◌, nat_le, List, [], ◌∷◌, ◌++◌, length, flat_map, slice_get, Option, Some, None, refl, ap, sym, ◌∙◌, subst, arith, length-append, append_assoc}
use Rattle.std.specs.Prelude.{All, Contains, map, ◌&&◌, ◌==◌}
use Rattle.std.proofs.lemmas.Bool.{eq-eqb, eqb-false, lt-ltb}
use Rattle.std.proofs.lemmas.List.{length-map}
use Rattle.std.proofs.lemmas.List.Elements.{All-head, All-tail}
use Rattle.sk_insn.specs.declared.insn.Insn.{Insn}
use Rattle.sk_insn.specs.declared.operation.Operand.TheVariants.{Constant}
use Rattle.sk_insn.specs.declared.operation.Arithmetic.TheVariants.{And}
use Rattle.sk_insn.specs.declared.operation.Comparison.{Comparison}
use Rattle.sk_insn.specs.declared.operation.Comparison.TheVariants.{Equal, Greater, GreaterOrEqual}
use Rattle.sk_insn.specs.declared.operation.Operation.{Operation}
use Rattle.sk_insn.specs.declared.operation.Operation.TheVariants.{LoadRecord, LoadConstant, Compute, Jump, Branch, ReturnConstant}
use Rattle.sk_insn.specs.declared.operation.Register.TheVariants.{Accumulator}
use Rattle.sk_insn.specs.Operations.{operation_of}
use Rattle.sk_insn.proofs.OperationTable.{operation_of-code_of}
use Rattle.sk_filter.specs.declared.fault.CheckFault.{CheckFault}
use Rattle.sk_filter.specs.declared.fault.CheckFault.TheVariants as fault
use Rattle.sk_filter.specs.Paths.{At, Loads, returns}
use Rattle.sk_filter.specs.Places.{fault_of}
use Rattle.sk_filter.specs.Valid.{IsValid}
use Rattle.sk_profile.specs.declared.condition.Condition.{Condition}
use Rattle.sk_profile.specs.declared.condition.Test.{Test}
use Rattle.sk_profile.specs.declared.condition.Test.TheVariants.{Is, IsNot, Below, AtMost, Above, AtLeast, Masked}
use Rattle.sk_profile.specs.Sayings.{low, Piece, Single, Joined, Tree, Leaf, Away, Fork}
use Rattle.sk_profile.specs.Code.{load, constant, with, branch, jump, answer, high, high_place, low_place, order_code, high_code, low_code, upper_code, is_short, test_code, conditions_code, passed_over, lows_code, half_code, piece_code, place_of, far, over_code, head_code, tree_code, Section, section_code, past_code, guarded_code, filter_code}
use Rattle.sk_profile.specs.Means.{IsPiece, IsTree, IsSection}
use Rattle.sk_profile.proofs.Joining.{as_many}
use Rattle.sk_profile.proofs.Trees.{others_have}

-- an instruction of the code, with so many behind it
abbrev pub FitsBefore : ℕ → Option Operation → Insn → Type 0
FitsBefore behind (Some LoadRecord) insn = (insn.k % 4 ≡ 0) × (insn.k < 64)
FitsBefore behind (Some (LoadConstant Accumulator)) insn = Unit {0}
FitsBefore behind (Some (Compute And Constant)) insn = Unit {0}
FitsBefore behind (Some Jump) insn = insn.k < behind
FitsBefore behind (Some (Branch comparison operand)) insn = (insn.jt < behind) × (insn.jf < behind)
FitsBefore behind (Some ReturnConstant) insn = Unit {0}
FitsBefore behind operation insn = ⊥

-- instructions, with so many behind them
abbrev pub Fit : ℕ → List Insn → Type 0
Fit behind [] = Unit {0}
Fit behind (insn ∷ insns) = FitsBefore (length insns + behind) (operation_of insn.code) insn × Fit behind insns

pub load_fits : (k behind : ℕ) → k % 4 ≡ 0 → k < 64 → FitsBefore behind (operation_of (load k).code) (load k)
load_fits k behind whole inside = subst (λ o. FitsBefore behind o (load k)) (sym (operation_of-code_of LoadRecord)) (whole, inside)

constant_fits : (k behind : ℕ) → FitsBefore behind (operation_of (constant k).code) (constant k)
constant_fits k behind = subst (λ o. FitsBefore behind o (constant k)) (sym (operation_of-code_of (LoadConstant Accumulator))) tt

pub with_fits : (k behind : ℕ) → FitsBefore behind (operation_of (with k).code) (with k)
with_fits k behind = subst (λ o. FitsBefore behind o (with k)) (sym (operation_of-code_of (Compute And Constant))) tt

pub branch_fits : (comparison : Comparison) (k jt jf behind : ℕ) → jt < behind → jf < behind → FitsBefore behind (operation_of (branch comparison k jt jf).code) (branch comparison k jt jf)
branch_fits comparison k jt jf behind held failed =
    subst (λ o. FitsBefore behind o (branch comparison k jt jf)) (sym (operation_of-code_of (Branch comparison Constant))) (held, failed)

pub jump_fits : (k behind : ℕ) → k < behind → FitsBefore behind (operation_of (jump k).code) (jump k)
jump_fits k behind inside = subst (λ o. FitsBefore behind o (jump k)) (sym (operation_of-code_of Jump)) inside

pub answer_fits : (k behind : ℕ) → FitsBefore behind (operation_of (answer k).code) (answer k)
answer_fits k behind = subst (λ o. FitsBefore behind o (answer k)) (sym (operation_of-code_of ReturnConstant)) tt

pub both_fit : (front back : List Insn) (behind : ℕ) → Fit (length back + behind) front → Fit behind back → Fit behind (front ++ back)
both_fit [] back behind one other = other
both_fit (insn ∷ front) back behind one other =
    let e : length front + (length back + behind) ≡ length (front ++ back) + behind = omega (arith, length-append front back) in
    (subst (λ n. FitsBefore n (operation_of insn.code) insn) e one.0, both_fit front back behind one.1 other)

-- ---- the parts of the code

upper_fits : (narrow : Bool) (i behind : ℕ) → i < 6 → FitsBefore behind (operation_of (upper_code narrow i).code) (upper_code narrow i)
upper_fits true i behind inside = constant_fits 0 behind
upper_fits false i behind inside = load_fits (high_place i) behind (omega arith) (omega (arith, inside))

low_load : (i behind : ℕ) → i < 6 → FitsBefore behind (operation_of (load (low_place i)).code) (load (low_place i))
low_load i behind inside = load_fits (low_place i) behind (omega arith) (omega (arith, inside))

alone : (insn : Insn) (behind : ℕ) → FitsBefore behind (operation_of insn.code) insn → Fit behind (insn ∷ [])
alone insn behind fits = let e : behind ≡ length {A = Insn} [] + behind = omega arith in (subst (λ n. FitsBefore n (operation_of insn.code) insn) e fits, tt)

one_fits : (comparison : Comparison) (k jt jf behind : ℕ) → jt < behind → jf < behind → Fit behind (branch comparison k jt jf ∷ [])
one_fits comparison k jt jf behind held failed = alone (branch comparison k jt jf) behind (branch_fits comparison k jt jf behind held failed)

low_fits : (t : Test) (n away behind : ℕ) → away < behind → Fit behind (low_code t n away)
low_fits Is n away behind near = one_fits Equal n 0 away behind (omega (arith, near)) near
low_fits IsNot n away behind near = one_fits Equal n away 0 behind near (omega (arith, near))
low_fits Below n away behind near = one_fits GreaterOrEqual n away 0 behind near (omega (arith, near))
low_fits AtMost n away behind near = one_fits Greater n away 0 behind near (omega (arith, near))
low_fits Above n away behind near = one_fits Greater n 0 away behind (omega (arith, near)) near
low_fits AtLeast n away behind near = one_fits GreaterOrEqual n 0 away behind (omega (arith, near)) near
low_fits (Masked mask) n away behind near = (with_fits _ _, one_fits Equal n 0 away behind (omega (arith, near)) near)

lows : (t : Test) (n away : ℕ) → 1 ≤ length (low_code t n away)
lows Is n away = omega arith
lows IsNot n away = omega arith
lows Below n away = omega arith
lows AtMost n away = omega arith
lows Above n away = omega arith
lows AtLeast n away = omega arith
lows (Masked mask) n away = omega arith

-- the upper half stands before at least two more, and before three for a mask
abbrev some_behind : Test → ℕ
some_behind (Masked mask) = 3
some_behind t = 2

order_fits : (n greater less behind : ℕ) → 3 + greater < 1 + behind → 2 + less < behind → Fit behind (order_code n greater less)
order_fits n greater less behind near near' = (branch_fits Greater _ _ _ _ (omega (arith, near)) (omega arith), one_fits Equal n 0 (2 + less) behind (omega (arith, near')) near')

high_fits : (t : Test) (n away behind : ℕ) → some_behind t + away < behind → Fit behind (high_code t n away)
high_fits Is n away behind near = one_fits Equal n 0 (2 + away) behind (omega (arith, near)) near
high_fits IsNot n away behind near = one_fits Equal n 0 2 behind (omega (arith, near)) (omega (arith, near))
high_fits Below n away behind near = order_fits n away 0 behind (omega (arith, near)) (omega (arith, near))
high_fits AtMost n away behind near = order_fits n away 0 behind (omega (arith, near)) (omega (arith, near))
high_fits Above n away behind near = order_fits n 0 away behind (omega (arith, near)) (omega (arith, near))
high_fits AtLeast n away behind near = order_fits n 0 away behind (omega (arith, near)) (omega (arith, near))
high_fits (Masked mask) n away behind near = (with_fits _ _, one_fits Equal n 0 (3 + away) behind (omega (arith, near)) near)

lows_there : (t : Test) (n away : ℕ) → some_behind t ≡ 1 + length (low_code t n away)
lows_there Is n away = refl
lows_there IsNot n away = refl
lows_there Below n away = refl
lows_there AtMost n away = refl
lows_there Above n away = refl
lows_there AtLeast n away = refl
lows_there (Masked mask) n away = refl

test_fits : (narrow : Bool) (t : Test) (i n away behind : ℕ) → i < 6 → away < behind → Fit behind (test_code narrow t i n away)
test_fits narrow t i n away behind inside near = by (is_short narrow n) where
  lower : List Insn
  lower = load (low_place i) ∷ low_code t (low n) away

  lower_fits : Fit behind lower
  lower_fits = (low_load i _ inside, low_fits t (low n) away behind near)

  by : (short : Bool) → Fit behind (if short then lower else upper_code narrow i ∷ (high_code t (high n) away ++ lower))
  by true = lower_fits
  by false = (
    upper_fits narrow i _ inside,
    both_fit (high_code t (high n) away) lower behind (high_fits t (high n) away (length lower + behind) (omega (arith, lows_there t (low n) away, near))) lower_fits,
  )

conditions_fit : (narrow : Bool) (cs : List Condition) (away behind : ℕ) → All (λ (c : Condition). c.index < 6) cs → away < behind → Fit behind (conditions_code narrow cs away)
conditions_fit narrow [] away behind inside near = tt
conditions_fit narrow (c ∷ cs) away behind inside near =
    let rest = conditions_code narrow cs away in
    both_fit (test_code narrow c.test c.index c.value (length rest + away)) rest behind
    (test_fits narrow c.test c.index c.value (length rest + away) (length rest + behind) (All-head (λ (c : Condition). c.index < 6) c cs inside) (omega (arith, near)))
    (conditions_fit narrow cs away behind (All-tail (λ (c : Condition). c.index < 6) c cs inside) near)

lows_fit : (numbers : List ℕ) (behind : ℕ) → 1 < behind → Fit behind (lows_code numbers)
lows_fit [] behind more = tt
lows_fit (number ∷ numbers) behind more =
    let many = as_many numbers in
    (branch_fits Equal _ _ _ _ (omega (arith, many, more)) (omega (arith, many, more, few numbers)), lows_fit numbers behind more) where
      few : (numbers : List ℕ) → passed_over numbers ≤ 1
      few [] = omega arith
      few (number ∷ numbers) = omega arith

half_fits : (narrow : Bool) (i n more behind : ℕ) → i < 6 → 3 + more < behind → Fit behind (half_code narrow i n more)
half_fits true i n more behind inside near = tt
half_fits false i n more behind inside near = (load_fits (high_place i) _ (omega arith) (omega (arith, inside)), one_fits Equal (high n) 0 (3 + more) behind (omega (arith, near)) near)

piece_fits : (narrow : Bool) (piece : Piece) (behind : ℕ) → 0 < behind → IsPiece narrow piece → Fit behind (piece_code narrow piece)
piece_fits narrow (Single arm) behind some fits =
    both_fit (conditions_code narrow arm.conditions 1) (answer arm.value ∷ []) behind (conditions_fit narrow arm.conditions 1 (1 + behind) fits (omega (arith, some))) (answer_fits _ _, tt)
piece_fits narrow (Joined choice) behind some fits =
    let lows = lows_code (choice.first ∷ choice.others) in
    let lower = load (low_place choice.index) ∷ (lows ++ (answer choice.value ∷ [])) in
    let many = as_many choice.others in
    both_fit (half_code narrow choice.index choice.first (length choice.others)) lower behind
    (half_fits narrow choice.index choice.first (length choice.others) (length lower + behind) fits.inside (omega (arith, some, many, length-append lows (answer choice.value ∷ [])))) (
      low_load choice.index _ fits.inside,
      both_fit lows (answer choice.value ∷ []) behind (lows_fit (choice.first ∷ choice.others) (1 + behind) (omega (arith, some))) (answer_fits _ _, tt),
    )

pieces_fit : (narrow : Bool) (pieces : List Piece) (behind : ℕ) → 0 < behind → All (IsPiece narrow) pieces → Fit behind (flat_map (piece_code narrow) pieces)
pieces_fit narrow [] behind some fits = tt
pieces_fit narrow (piece ∷ pieces) behind some fits =
    let rest = flat_map (piece_code narrow) pieces in
    both_fit (piece_code narrow piece) rest behind (piece_fits narrow piece (length rest + behind) (omega (arith, some)) (All-head (IsPiece narrow) piece pieces fits))
    (pieces_fit narrow pieces behind some (All-tail (IsPiece narrow) piece pieces fits))

-- it ends with a return
pub record EndsWithAnswer (insns : List Insn) : Type 0 where
  pub front : List Insn
  pub value : ℕ
  pub is : insns ≡ front ++ answer value ∷ []

pub behind_others : (front back : List Insn) → EndsWithAnswer back → EndsWithAnswer (front ++ back)
behind_others front back ends = record {
  front = front ++ ends.front;
  value = ends.value;
  is = ap (λ insns. front ++ insns) ends.is ∙ sym (append_assoc front ends.front (answer ends.value ∷ []));
}

pub some_there : (insns : List Insn) → EndsWithAnswer insns → 0 < length insns
some_there insns ends = omega (arith, ap length ends.is, length-append ends.front (answer ends.value ∷ []))

place_inside : (value : ℕ) (values : List ℕ) → Contains values value → place_of value values < length values
place_inside value [] has = absurd (omega (arith, has.1))
place_inside value (other ∷ others) has = by (λ has. place_inside value others has) (value == other) refl where
  by : (Contains others value → place_of value others < length others) → (b : Bool) → (value == other) ≡ b → (if b then 0 else 1 + place_of value others) < length (other ∷ others)
  by among true e = omega arith
  by among false e = omega (arith, among (others_have value other others (eqb-false value other e) has))

far_inside : (values : List ℕ) (tree : Tree) (behind : ℕ) → IsTree values tree → far values tree behind ≤ behind + length values
far_inside values (Leaf narrow pieces otherwise) behind fits = omega arith
far_inside values (Away value) behind fits = omega (arith, place_inside value values fits)
far_inside values (Fork number below above) behind fits = omega arith

over_fits : (n behind : ℕ) → n < behind → Fit behind (over_code n)
over_fits zero behind near = tt
over_fits (suc n) behind near = alone (jump (suc n)) behind (jump_fits (suc n) behind near)

head_fits : (number over under behind : ℕ) → over < behind → under < behind → Fit behind (head_code number over under)
head_fits number over under behind near near' = by (nat_le over 255 && nat_le under 255) where
  by : (short : Bool) → Fit behind (if short then branch GreaterOrEqual number over under ∷ [] else branch GreaterOrEqual number 0 1 ∷ jump (length (over_code under) + over) ∷ over_code under)
  by true = one_fits GreaterOrEqual number over under behind near near'
  by false = (branch_fits GreaterOrEqual _ _ _ _ (omega arith) (omega (arith, near)), (jump_fits _ _ (omega (arith, near)), over_fits under behind near'))

-- a tree before so many others and its values, of which there is one at least, or something behind them
tree_fits : (values : List ℕ) (tree : Tree) (behind rest : ℕ) → 0 < rest → IsTree values tree → Fit (behind + (length values + rest)) (tree_code values tree behind)
tree_fits values (Leaf narrow pieces otherwise) behind rest some fits =
    both_fit (flat_map (piece_code narrow) pieces) (answer otherwise ∷ []) (behind + (length values + rest)) (pieces_fit narrow pieces (1 + (behind + (length values + rest))) (omega arith) fits) (answer_fits _ _, tt)
tree_fits values (Away value) behind rest some fits = tt
tree_fits values (Fork number below above) behind rest some fits =
    let back = tree_code values above behind in
    let more = length back + behind in
    let front = tree_code values below more in
    let whole = length-append front back in
    let end = behind + (length values + rest) in
    let same : more + (length values + rest) ≡ length back + end = omega arith in
    both_fit (head_code number (length front + far values above behind) (far values below more)) (front ++ back) end
    (head_fits number (length front + far values above behind) (far values below more) (length (front ++ back) + end)
    (omega (arith, whole, some, far_inside values above behind fits.1)) (omega (arith, whole, some, far_inside values below more fits.0)))
    (both_fit front back end (subst (λ n. Fit n front) same (tree_fits values below more rest some fits.0)) (tree_fits values above behind rest some fits.1))

answers_fit : (values : List ℕ) (behind : ℕ) → Fit behind (map answer values)
answers_fit [] behind = tt
answers_fit (value ∷ values) behind = (answer_fits value _, answers_fit values behind)

section_fits : (section : Section) (behind : ℕ) → 0 < behind → IsSection section → Fit behind (section_code section)
section_fits section behind some fits =
    let tree = tree_code section.values section.tree 0 in
    let same : 0 + (length section.values + behind) ≡ length (map answer section.values) + behind = omega (arith, length-map section.values answer) in (
      load_fits 0 _ refl (omega arith),
      both_fit tree (map answer section.values) behind (subst (λ n. Fit n tree) same (tree_fits section.values section.tree 0 behind some fits.tree)) (answers_fit section.values behind),
    )

past_fits : (audit n behind : ℕ) → n < behind → 1 < behind → Fit behind (past_code audit n)
past_fits audit n behind near more = by (nat_le n 255) where
  by : (short : Bool) → Fit behind (if short then branch Equal audit 0 n ∷ [] else branch Equal audit 1 0 ∷ jump n ∷ [])
  by true = one_fits Equal audit 0 n behind (omega (arith, near)) near
  by false = (branch_fits Equal _ _ _ _ (omega (arith, more)) (omega arith), alone (jump n) behind (jump_fits n behind near))

sections_fit : (sections : List Section) (behind : ℕ) → 0 < behind → All IsSection sections → Fit behind (flat_map guarded_code sections)
sections_fit [] behind some fits = tt
sections_fit (section ∷ sections) behind some fits =
    let code = section_code section in
    let others = flat_map guarded_code sections in
    both_fit (guarded_code section) others behind
    (both_fit (past_code section.audit (length code)) code (length others + behind)
    (past_fits section.audit (length code) (length code + (length others + behind)) (omega (arith, some)) (omega (arith, some)))
    (section_fits section (length others + behind) (omega (arith, some)) (All-head IsSection section sections fits)))
    (sections_fit sections behind some (All-tail IsSection section sections fits))

-- ---- what fits has no fault

record Found (insns : List Insn) (behind place : ℕ) (insn : Insn) : Type 0 where
  after : ℕ
  is_there : place + 1 + after ≡ length insns + behind
  fits : FitsBefore after (operation_of insn.code) insn

at_place : (insns : List Insn) (behind place : ℕ) (insn : Insn) → Fit behind insns → slice_get insns place ≡ Some insn → Found insns behind place insn
at_place [] behind place insn fit got = cc
at_place (first ∷ insns) behind zero insn fit got =
    let same : first ≡ insn = cc in record {
      after = length insns + behind;
      is_there = omega arith;
      fits = subst (λ (insn : Insn). FitsBefore (length insns + behind) (operation_of insn.code) insn) same fit.0;
    }
at_place (first ∷ insns) behind (suc place) insn fit got =
    let found = at_place insns behind place insn fit.1 got in
    record { after = found.after; is_there = omega (arith, found.is_there); fits = found.fits }

no_fault : (o : Option Operation) (insn : Insn) (place count after : ℕ) → place + 1 + after ≡ count → FitsBefore after o insn → fault_of place count o insn ≡ None
no_fault (Some LoadRecord) insn place count after is fits = rw (eq-eqb (insn.k % 4) 0 fits.0, lt-ltb insn.k 64 fits.1) refl
no_fault (Some (LoadConstant Accumulator)) insn place count after is fits = refl
no_fault (Some (Compute And Constant)) insn place count after is fits = refl
no_fault (Some Jump) insn place count after is fits = rw (lt-ltb (place + 1 + insn.k) count (omega (arith, is, fits))) refl
no_fault (Some (Branch comparison operand)) insn place count after is fits =
    rw (lt-ltb (place + 1 + insn.jt) count (omega (arith, is, fits.0)), lt-ltb (place + 1 + insn.jf) count (omega (arith, is, fits.1))) refl
no_fault (Some ReturnConstant) insn place count after is fits = refl
no_fault o insn place count after is fits = absurd fits

no_load : (o : Option Operation) (insn : Insn) (after word : ℕ) → FitsBefore after o insn → Loads word o insn → ⊥
no_load (Some LoadRecord) insn after word fits loads = loads
no_load (Some (LoadConstant Accumulator)) insn after word fits loads = loads
no_load (Some (Compute And Constant)) insn after word fits loads = loads
no_load (Some Jump) insn after word fits loads = loads
no_load (Some (Branch comparison operand)) insn after word fits loads = loads
no_load (Some ReturnConstant) insn after word fits loads = loads
no_load o insn after word fits loads = absurd fits

none_by_itself : (insns : List Insn) (place : ℕ) (told : CheckFault) → Fit 0 insns → At insns place (λ operation insn. fault_of place (length insns) operation insn ≡ Some told) → ⊥
none_by_itself insns place told fit (insn, here, has) =
    let found = at_place insns 0 place insn fit here in
    let none = no_fault (operation_of insn.code) insn place (length insns) found.after (omega (arith, found.is_there)) found.fits in
    let both : None ≡ Some told = sym none ∙ has in
    cc

last_is : (front : List Insn) (last insn : Insn) → slice_get (front ++ last ∷ []) (length front) ≡ Some insn → last ≡ insn
last_is [] last insn here = cc
last_is (first ∷ front) last insn here = last_is front last insn here

returns_at_end : (insns : List Insn) → EndsWithAnswer insns → At insns (length insns - 1) (λ operation insn. returns operation insn ≡ false) → ⊥
returns_at_end insns ends (insn, here, has) =
    let last = answer ends.value in
    let before : length insns - 1 ≡ length ends.front = omega (arith, ap length ends.is, length-append ends.front (last ∷ [])) in
    let there = subst (λ n. slice_get insns n ≡ Some insn) before here in
    let same = last_is ends.front last insn (subst (λ insns. slice_get insns (length ends.front) ≡ Some insn) ends.is there) in
    let not : returns (operation_of last.code) last ≡ false = subst (λ (insn : Insn). returns (operation_of insn.code) insn ≡ false) (sym same) has in
    let yes : true ≡ false = subst (λ o. returns o last ≡ false) (operation_of-code_of ReturnConstant) not in
    cc

pub no_fault_in : (insns : List Insn) → Fit 0 insns → EndsWithAnswer insns → length insns ≤ 4096 → IsValid insns
no_fault_in insns fit ends few fault.Empty has = omega (arith, has, some_there insns ends)
no_fault_in insns fit ends few fault.TooLong has = omega (arith, has, few)
no_fault_in insns fit ends few fault.NoReturn has = returns_at_end insns ends has
no_fault_in insns fit ends few (fault.Unstored place word) has =
    let found = at_place insns 0 place has.0.0 fit has.0.1 in no_load (operation_of has.0.0.code) has.0.0 found.after word found.fits has.0.2
no_fault_in insns fit ends few (fault.Code place) has = none_by_itself insns place (fault.Code place) fit has
no_fault_in insns fit ends few (fault.Load place) has = none_by_itself insns place (fault.Load place) fit has
no_fault_in insns fit ends few (fault.DivZero place) has = none_by_itself insns place (fault.DivZero place) fit has
no_fault_in insns fit ends few (fault.Shift place) has = none_by_itself insns place (fault.Shift place) fit has
no_fault_in insns fit ends few (fault.Word place) has = none_by_itself insns place (fault.Word place) fit has
no_fault_in insns fit ends few (fault.Jump place) has = none_by_itself insns place (fault.Jump place) fit has

-- the code of a filter, where there is room for it
pub valid_code : (bad : ℕ) (sections : List Section) → All IsSection sections → length (filter_code bad sections) ≤ 4096 → IsValid (filter_code bad sections)
valid_code bad sections good few =
    let others = flat_map guarded_code sections in
    let fit : Fit 0 (filter_code bad sections) =
    (load_fits 4 _ refl (omega arith), both_fit others (answer bad ∷ []) 0 (sections_fit sections 1 (omega arith) good) (answer_fits _ _, tt)) in
    no_fault_in (filter_code bad sections) fit (record { front = load 4 ∷ others; value = bad; is = refl }) few
